-- What is on a line: blocks with the counts of the side that sent them, newest first.
--   Stamp            a block, and how many messages its sender had loaded, had entered, and had read out by its host
--   Down f t b l     a count falls along the list, from t at the newest to b at least at the oldest
--   All P l          each of the list has P
--   down-*, all-*    a list that grows at its front, and one that loses its last
--   flight-split     what was in flight with a new block, is what is in flight then and what arrives
-- Assumes nothing.
use Prim.{Unit, tt}
use Prim.Native.Nat.{ℕ, zero, suc, ◌≤◌}
use mathlib.Core.List.{List, [], ◌∷◌, ◌++◌}
use mathlib.Core.Path.{◌≡◌, refl, ap}
use native.Mathlib.Omega.{arith}
use lib.ListN.{take}
use Rattle.fibre.specs.declared.Block.{Block}
use Rattle.joined.specs.Joined.{due}

pub record Stamp : Type 0 where
  pub block : Block
  pub loads : ℕ
  pub entered : ℕ
  pub gone : ℕ

abbrev pub Down : (Stamp → ℕ) → ℕ → ℕ → List Stamp → Type 0
Down f top bottom [] = bottom ≤ top
Down f top bottom (x ∷ l) = (f x ≤ top) × Down f (f x) bottom l

abbrev pub All : {A : Type 0} → (A → Type 0) → List A → Type 0
All P [] = Unit {0}
All P (x ∷ l) = P x × All P l

pub down_within : (f : Stamp → ℕ) (t b : ℕ) (l : List Stamp) → Down f t b l → b ≤ t
down_within f t b [] d = d
down_within f t b (x ∷ l) d = omega (arith, d.0, down_within f (f x) b l d.1)

pub down_from : (f : Stamp → ℕ) (s t b : ℕ) (l : List Stamp) → s ≤ t → Down f s b l → Down f t b l
down_from f s t b [] h d = omega (arith, h, d)
down_from f s t b (x ∷ l) h d = (omega (arith, h, d.0), d.1)

pub down_to : (f : Stamp → ℕ) (t b c : ℕ) (l : List Stamp) → c ≤ b → Down f t b l → Down f t c l
down_to f t b c [] h d = omega (arith, h, d)
down_to f t b c (x ∷ l) h d = (d.0, down_to f (f x) b c l h d.1)

pub down_last : (f : Stamp → ℕ) (t b : ℕ) (l : List Stamp) (x : Stamp) → Down f t b (l ++ (x ∷ []))
    → Down f t (f x) l × (b ≤ f x)
down_last f t b [] x d = (d.0, d.1)
down_last f t b (y ∷ l) x d =
    let r = down_last f (f y) b l x d.1 in
    ((d.0, r.0), r.1)

-- a list that loses its last
pub down_lose : (f : Stamp → ℕ) (t b : ℕ) (l : List Stamp) (x : Stamp) → Down f t b (l ++ (x ∷ [])) → Down f t b l
down_lose f t b l x d =
    let r = down_last f t b l x d in
    down_to f t (f x) b l r.1 r.0

pub down_all : (f : Stamp → ℕ) (t b : ℕ) (l : List Stamp) → Down f t b l → All (λ x. f x ≤ t) l
down_all f t b [] d = tt
down_all f t b (x ∷ l) d = (d.0, all_from l (down_all f (f x) b l d.1))
  where
    all_from : (l : List Stamp) → All (λ y. f y ≤ f x) l → All (λ y. f y ≤ t) l
    all_from [] a = tt
    all_from (y ∷ l) a = (omega (arith, a.0, d.0), all_from l a.1)

pub all_both : {A : Type 0} (P Q R : A → Type 0) (l : List A) → ((x : A) → P x → Q x → R x)
    → All P l → All Q l → All R l
all_both P Q R [] f a b = tt
all_both P Q R (x ∷ l) f a b = (f x a.0 b.0, all_both P Q R l f a.1 b.1)

pub all_last : {A : Type 0} (P : A → Type 0) (l : List A) (x : A) → All P (l ++ (x ∷ [])) → All P l × P x
all_last P [] x a = (tt, a.0)
all_last P (y ∷ l) x a =
    let r = all_last P l x a.1 in
    ((a.0, r.0), r.1)

-- what was sent up to d slots ago, with what arrives
pub take_due : {A : Type 0} (d : ℕ) (l : List A) → take (suc d) l ≡ take d l ++ due d l
take_due zero [] = refl
take_due zero (x ∷ l) = refl
take_due (suc d) [] = refl
take_due (suc d) (x ∷ l) = ap (λ t. x ∷ t) (take_due d l)
