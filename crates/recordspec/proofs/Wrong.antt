-- Answer 11, spelled out, whatever the bytes are.
--   wrong_refused   what answer 11 meets; wrong_before_refused, of a version of before; wrong, wrong_before, as what is
--                   decided; not_refused, a record that is not wrong
-- Assumes nothing.
use Prim.Native.Nat.{ℕ, suc, ◌<◌, ◌≤◌}
use mathlib.Core.Bool.{Bool, true, false, false≢true}
use mathlib.Core.List.{List, [], ◌∷◌}
use mathlib.Core.Logic.{◌↔◌}
use mathlib.Core.Path.{◌≡◌, refl}
use native.Mathlib.Omega.{arith}
use lib.Dec.{ltb}
use lib.ListN.{length, get_or, drop, length-drop}
use borrow.Author.Tests.{eqb-false, ltb-true, not-true}
use Rattle.laws.proofs.Bools.{or_cases}
use Rattle.laws.proofs.Decide.{Decides, decides_iff}
use Rattle.recordspec.specs.Record.{size, version, size_two, at, front_of, back_of, presence_of, bool_at, without}
use Rattle.recordspec.specs.Record.{limits, exceeds, wrong_head, refused_by, refused, refused_before, WrongBy}
use Rattle.recordspec.specs.Record.{Wrong, WrongBefore}
use Rattle.recordspec.proofs.Accepted.{within_at, fits}
use Rattle.recordspec.proofs.Before.{without_length}

exceeds_some : {C : Type 0} (l m : List ℕ) → ((i : ℕ) → get_or m i 0 < get_or l i 0 → C) → exceeds l m ≡ true → C
unfolding exceeds
exceeds_some [] m f h = absurd (false≢true h)
exceeds_some (x ∷ l) [] f h = absurd (false≢true h)
exceeds_some (x ∷ l) (y ∷ m) f h =
    or_cases (ltb y x) (exceeds l m) (λ t. f 0 (ltb-true y x t)) (exceeds_some l m (λ i k. f (suc i) k)) h

module _ (n v k x : ℕ) (b r : List ℕ) (short : length r ≡ n → length b ≤ length limits) where
  wrong_holds : refused_by n v k x b r ≡ true → WrongBy n v k x b r
  unfolding refused_by wrong_head
  wrong_holds =
      or_cases _ _
      (or_cases _ _
      (or_cases _ _ (λ t. WrongBy.area (eqb-false _ _ (not-true _ t)))
      (λ t. WrongBy.said (eqb-false _ _ (not-true _ t))))
      (λ t. WrongBy.unknown (eqb-false _ _ (not-true _ t))))
      (or_cases _ _ (λ t. WrongBy.number (ltb-true k x t)) (exceeds_some b limits (λ i l. WrongBy.value i l)))

  above_not : {a c : ℕ} → a < c → c ≤ a → ⊥
  above_not p q = omega arith

  wrong_fails : refused_by n v k x b r ≡ false → ¬ WrongBy n v k x b r
  wrong_fails h (WrongBy.area l) = l (fits n v k x b r h).long
  wrong_fails h (WrongBy.said l) = l (fits n v k x b r h).said
  wrong_fails h (WrongBy.unknown l) = l (fits n v k x b r h).known
  wrong_fails h (WrongBy.number l) = above_not l (fits n v k x b r h).number
  wrong_fails h (WrongBy.value i l) =
      let f = fits n v k x b r h in
      above_not l (within_at b limits i (short f.long) f.within)

  wrong_by : Decides (refused_by n v k x b r) (WrongBy n v k x b r)
  wrong_by = record { holds = wrong_holds; fails = wrong_fails }

limits_length : length limits ≡ 98
unfolding limits front_of back_of
limits_length = refl

pub wrong : (r : List ℕ) → Decides (refused r) (Wrong r)
unfolding refused
wrong r =
    wrong_by size version 768 (presence_of r) (drop 3 r) r
    (λ h. rw (length-drop 3 r, h, limits_length) (omega arith))

pub wrong_before : (n v : ℕ) → 72 ≤ n → n ≤ size_two → (r : List ℕ) → Decides (refused_before n v r) (WrongBefore n v r)
unfolding refused_before
wrong_before n v l u r =
    wrong_by n v 1 (at r bool_at) (without r) r
    (λ h. rw (without_length r (rw h l), h, limits_length) (omega arith))

pub wrong_refused : (r : List ℕ) → (refused r ≡ true) ↔ Wrong r
wrong_refused r = decides_iff (wrong r)

pub wrong_before_refused : (n v : ℕ) → 72 ≤ n → n ≤ size_two → (r : List ℕ)
    → (refused_before n v r ≡ true) ↔ WrongBefore n v r
wrong_before_refused n v l u r = decides_iff (wrong_before n v l u r)

pub not_refused : (r : List ℕ) → ¬ Wrong r → refused r ≡ false
not_refused r h = go (refused r) (λ t. h ((wrong r).holds t))
  where
    go : (b : Bool) → ¬ (b ≡ true) → b ≡ false
    go true k = absurd (k refl)
    go false k = refl
