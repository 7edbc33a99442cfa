-- Laws on which the proofs of refusing stand.
--   head-*         each test on a record's head in turn; head_long, one that passes them has the right length
--   refused_head, refused_values   what is refused by its head; else its values decide
--   two_parts      the bytes of a record of before, on both sides of its bool
--   good_length    a record that is not refused has the right length; one_of_two, of a record of before
-- Assumes nothing.
use Prim.Native.Nat.{ℕ, ◌+◌, ◌-◌, ◌*◌, ◌≤◌}
use mathlib.Core.Bool.{Bool, true, false, not, ◌&&◌, ◌||◌, true≢false}
use mathlib.Core.List.{List}
use mathlib.Core.Path.{◌≡◌, refl, sym, ap, ap₂, ◌∙◌}
use native.Mathlib.Omega.{arith}
use lib.Dec.{eqb, ltb, lit≤}
use lib.ListN.{length, take, drop, length-drop}
use lib.Seq.{length-take-le}
use borrow.Author.Tests.{eq-eqb, ne_eqb, eqb-true, eqb-false}
use Rattle.recordspec.specs.Record.{size, size_one, version_one, size_two, version_two, at, without, wrong_head}
use Rattle.recordspec.specs.Record.{limits, exceeds, refused_by, refused, refused_before}
use Rattle.recordspec.proofs.Accepted.{fits_now}
use Rattle.recordspec.proofs.Before.{was}
use Rattle.recordspec.proofs.Bytes.{exceeds_parts, exceeds_cut}
use Rattle.laws.proofs.Pieces.{rest}

-- the tests on the head, one by one

pub head_length : (n v : ℕ) (r : List ℕ) → ¬ (length r ≡ n) → true ≡ wrong_head n v r
unfolding wrong_head
head_length n v r h = rw (ne_eqb (length r) n h)

pub head_said : (n v : ℕ) (r : List ℕ) {a b : ℕ} → length r ≡ n → a ≡ at r 0 → b ≡ at r 1 → ¬ (256 * a + b ≡ n)
    → true ≡ wrong_head n v r
unfolding wrong_head
head_said n v r {a} {b} l p q h =
    rw (eq-eqb (length r) n l, ne_eqb (256 * at r 0 + at r 1) n (λ e. h (rw (p, q) e)))

pub head_version : (n v : ℕ) (r : List ℕ) {a b : ℕ} → length r ≡ n → a ≡ at r 0 → b ≡ at r 1 → 256 * a + b ≡ n
    → not (eqb (at r 2) v) ≡ wrong_head n v r
unfolding wrong_head
head_version n v r {a} {b} l p q e =
    rw (eq-eqb (length r) n l, eq-eqb (256 * at r 0 + at r 1) n (rw (sym p, sym q) e))

pub head_long : (n v : ℕ) (r : List ℕ) {t : Bool} → t ≡ wrong_head n v r → t ≡ false → length r ≡ n
head_long n v r {t} h f = by_test (eqb (length r) n) refl
  where
    by_test : (b : Bool) → eqb (length r) n ≡ b → length r ≡ n
    by_test true e = eqb-true (length r) n e
    by_test false e = absurd (true≢false (head_length n v r (eqb-false (length r) n e) ∙ (sym h ∙ f)))

-- what is refused by the head, and what the values decide

module _ (n v k x : ℕ) (b r : List ℕ) {t : Bool} (h : t ≡ wrong_head n v r) where
  pub refused_head : t ≡ true → true ≡ refused_by n v k x b r
  unfolding refused_by
  refused_head y = rw (sym h, y)

  pub refused_values : t ≡ false → (ltb k x || exceeds b limits) ≡ refused_by n v k x b r
  unfolding refused_by
  refused_values y = rw (sym h, y)

-- the bytes on both sides of the bool, each by its own limits m
pub two_parts : (r : List ℕ) (n : ℕ) (m : List ℕ) (x y : Bool) → length r ≡ n → size_one ≤ n → n ≤ size_two → m ≡ limits
    → x ≡ exceeds (take 68 (drop 3 r)) (take 68 m)
    → y ≡ exceeds (take (length r - 72) (drop 72 r)) (take (n - 4 - 68) (drop 68 m))
    → (x || y) ≡ exceeds (without r) limits
unfolding without
two_parts r n m x y l low high e p q =
    let front : length (take 68 (drop 3 r)) ≡ 68 = length-take-le 68 (drop 3 r) (rw length-drop (omega arith)) in
    let back : length (drop 72 r) ≡ n - 72 = length-drop 72 r ∙ ap (λ (k : ℕ). k - 72) l in
    ap₂ (λ (s t : Bool). s || t)
    (p ∙ ap₂ (λ (k : ℕ) (t : List ℕ). exceeds (take 68 (drop 3 r)) (take k t)) (sym front) e)
    (q
    ∙ (ap (λ (t : List ℕ). exceeds t (take (n - 4 - 68) (drop 68 m))) (rest 72 r)
    ∙ (exceeds_cut (drop 72 r) (drop 68 m) (n - 4 - 68) (omega arith)
    ∙ ap₂ (λ (k : ℕ) (t : List ℕ). exceeds (drop 72 r) (drop k t)) (sym front) e)))
    ∙ exceeds_parts (take 68 (drop 3 r)) (drop 72 r) limits

pub good_length : (r : List ℕ) {t : Bool} → t ≡ refused r → t ≡ false → length r ≡ size
good_length r {t} h f = (fits_now r (sym h ∙ f)).long

-- one of the two versions of before has the right length
pub one_of_two : (r : List ℕ) {s t : Bool} → s ≡ refused_before size_one version_one r
    → t ≡ refused_before size_two version_two r → (s && t) ≡ false → (size_one ≤ length r) × (length r ≤ size_two)
one_of_two r {s} {t} h k = go s t h k
  where
    go : (s t : Bool) → s ≡ refused_before size_one version_one r → t ≡ refused_before size_two version_two r
        → (s && t) ≡ false → (size_one ≤ length r) × (length r ≤ size_two)
    go false t h k f =
        let l = (was size_one version_one (lit≤ tt) (lit≤ tt) r (sym h)).long in
        (omega arith, omega arith)
    go true false h k f =
        let l = (was size_two version_two (lit≤ tt) (lit≤ tt) r (sym k)).long in
        (omega arith, omega arith)
    go true true h k f = absurd (true≢false f)
