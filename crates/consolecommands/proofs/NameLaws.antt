-- A field by its name.
--   same_refl, same_not   same_as of a word and itself, and of two words that are not the same
--   placed                the first field whose name is the word is the one at the word's place among the names
-- Assumes nothing.
use Prim.Native.Nat.{ℕ, ◌+◌, ◌<◌}
use native.Mathlib.Numerals.{add-one}
use native.Mathlib.Omega.{arith}
use mathlib.Core.Bool.{Bool, true, false, ◌&&◌}
use mathlib.Core.List.{List, [], ◌∷◌, map}
use mathlib.Core.Path.{◌≡◌, refl, sym, ap, ap₂, ◌∙◌}
use borrow.Author.Tests.{eq-eqb, eqb-true}
use lib.Dec.{eqb}
use lib.ListN.{length}
use Rattle.std.specs.Prelude.{Option, None, Some, MatchOption, HoldsAt}
use Rattle.std.specs.List.{AllWithin}
use Rattle.std.proofs.lemmas.Iterator.{index_from_first}
use Rattle.text.specs.Words.{same_as, place_of}
use Rattle.consolecommands.specs.Fields.{Placed}

differ : false ≡ true → ⊥
differ e = let z : ◌≡◌ {A = ℕ} 0 1 = cc in omega arith

and-true : (s t : Bool) → (s && t) ≡ true → (s ≡ true) × (t ≡ true)
and-true true t e = (refl, e)
and-true false t e = absurd (differ e)

same_refl : (v w : List ℕ) → v ≡ w → same_as v w ≡ true
unfolding same_as
same_refl v w e = rw (sym e) (itself v)
  where
    itself : (v : List ℕ) → same_as v v ≡ true
    itself [] = refl
    itself (x ∷ v) = rw (eq-eqb x x refl) (itself v)

same_eq : (v w : List ℕ) → same_as v w ≡ true → v ≡ w
unfolding same_as
same_eq [] [] e = refl
same_eq [] (y ∷ w) e = absurd (differ e)
same_eq (x ∷ v) [] e = absurd (differ e)
same_eq (x ∷ v) (y ∷ w) e =
    let both = and-true (eqb x y) (same_as v w) e in
    ap₂ (λ (z : ℕ) (u : List ℕ). z ∷ u) (eqb-true x y both.0) (same_eq v w both.1)

same_by : (v w : List ℕ) (t : Bool) → same_as v w ≡ t → (v ≡ w → ⊥) → same_as v w ≡ false
same_by v w true e n = absurd (n (same_eq v w e))
same_by v w false e n = e

same_not : (v w : List ℕ) → (v ≡ w → ⊥) → same_as v w ≡ false
same_not v w n = same_by v w (same_as v w) refl n

module _ {F : Type 0} (name : F → List ℕ) (w : List ℕ) where
  abbrev place : List F → ℕ
  place l = place_of w (map name l)

  abbrev Yes : F → Type 0
  Yes f = name f ≡ w

  abbrev No : F → Type 0
  No f = name f ≡ w → ⊥

  none : place [] ≡ 0
  unfolding place_of
  none = refl

  hit : (f : F) (l : List F) → Yes f → place (f ∷ l) ≡ 0
  unfolding place_of
  hit f l e = rw (same_refl (name f) w e) refl

  miss : (f : F) (l : List F) → No f → place (f ∷ l) ≡ place l + 1
  unfolding place_of
  miss f l n = rw (same_not (name f) w n, add-one) refl

  pub placed : (all : List F) (r : Option F)
      → MatchOption r (AllWithin No all 0 (length all))
      (λ f. Yes f × (i : ℕ) × (i < length all) × HoldsAt (λ g. g ≡ f) all i × AllWithin No all 0 i)
      → Placed name all w r
  placed all None h = index_from_first place Yes No none hit miss all None h
  placed all (Some f) h =
      let found : place all ≡ h.1 =
      index_from_first place Yes No none hit miss all (Some h.1) (h.2, (λ d. ap name (h.3 d) ∙ h.0), h.4)
      in
      rw found (h.2, h.3)
