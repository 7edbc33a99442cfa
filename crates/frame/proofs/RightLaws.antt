-- Which symbol may stand at which place: what `right_at` says, and that a frame is acceptable where all of its twelve
-- symbols are right and the CRC is. `right_from` is what the finder's inner loop keeps.
--   right_from i l  the symbols of l may stand at the places i, i + 1 .. of a frame
-- Assumes nothing.
use Prim.Native.Nat.{ℕ, zero, suc, ◌+◌, ◌≤◌, ◌<◌}
use native.Mathlib.Nat.{add-zero}
use native.Mathlib.Omega.{arith}
use mathlib.Core.Bool.{Bool, true, false, not, ◌&&◌, cond, and_assoc, true≢false, not-not}
use mathlib.Core.List.{List, [], ◌∷◌}
use mathlib.Core.Path.{◌≡◌, refl, ap, ap₂, sym, ◌∙◌}
use borrow.Author.Tests.{le-leb, lt-leb, ne_eqb}
use lib.Dec.{eqb, eqb-suc-zero}
use lib.ListN.{length, drop, get_or, drop_of_length-le}
use lib.Seq.{drop-cons}
use Rattle.crc.specs.Bits.{bits, odd_ones}
use Rattle.frame.specs.Check.{right_at}
use Rattle.frame.specs.Frame.{marked, even, crc_right, none_marked, all_odd, parities_right, acceptable}
use Rattle.laws.proofs.Bools.{and_both}

-- ---------------------------------------------------------------- one symbol

pub right_marked : (i s : ℕ) → 512 ≤ s → false ≡ right_at i s
unfolding right_at
right_marked i s h = rw (le-leb 512 s h)

pub right_first : (i s : ℕ) (p : Bool) → s < 512 → i ≡ 0 → p ≡ odd_ones (bits 9 s) → not p ≡ right_at i s
unfolding right_at even
right_first i s p h e f = rw (lt-leb 512 s h, e, f)

pub right_other : (i s : ℕ) (p : Bool) → s < 512 → (i ≡ 0 → ⊥) → p ≡ odd_ones (bits 9 s) → p ≡ right_at i s
unfolding right_at even
right_other i s p h e f = rw (lt-leb 512 s h, ne_eqb i 0 e) (sym (not-not p) ∙ ap (λ (b : Bool). not (not b)) f)

-- ---------------------------------------------------------------- all of them

unfoldable pub right_from : ℕ → List ℕ → Bool
right_from i [] = true
right_from i (s ∷ l) = right_at i s && right_from (suc i) l

-- both tests at the first and both at the others are one test after the other at all
and_swap : (a b c d : Bool) → (a && b && (c && d)) ≡ (a && c && (b && d))
and_swap true true c d = and_true_swap c d
  where
    and_true_swap : (c d : Bool) → (c && d) ≡ (c && (true && d))
    and_true_swap true d = refl
    and_true_swap false d = refl
and_swap true false true d = refl
and_swap true false false d = refl
and_swap false b c d = refl

right_odd : (l : List ℕ) (i : ℕ) → (none_marked l && all_odd l) ≡ right_from (suc i) l
unfolding none_marked all_odd right_from right_at
right_odd [] i = refl
right_odd (s ∷ l) i =
    and_swap (not (marked s)) (none_marked l) (not (even s)) (all_odd l)
    ∙ ap₂ (λ (b c : Bool). not (marked s) && b && c)
    (ap (λ (b : Bool). cond b (even s) (not (even s))) (sym (eqb-suc-zero i))) (right_odd l (suc i))

right_all : (l : List ℕ) → (none_marked l && parities_right l) ≡ right_from 0 l
unfolding none_marked parities_right right_from right_at
right_all [] = refl
right_all (s ∷ l) =
    and_swap (not (marked s)) (none_marked l) (even s) (all_odd l)
    ∙ ap (λ (b : Bool). not (marked s) && even s && b) (right_odd l 0)

pub acceptable_right : (l : List ℕ) → acceptable l ≡ (eqb (length l) 12 && (right_from 0 l && crc_right l))
unfolding acceptable
acceptable_right l =
    ap (λ (b : Bool). eqb (length l) 12 && b)
    (sym (and_assoc (none_marked l) (parities_right l) (crc_right l)) ∙ ap (λ (b : Bool). b && crc_right l) (right_all l))

-- ---------------------------------------------------------------- each of them

-- what may stand at one place behind the first may stand at any other
pub right_behind : (i j s : ℕ) → 0 < i → 0 < j → right_at i s ≡ right_at j s
unfolding right_at
right_behind i j s p q = rw (ne_eqb i 0 (λ e. omega arith), ne_eqb j 0 (λ e. omega arith))

-- and starts no frame
pub right_starts_none : (i s : ℕ) → 0 < i → right_at i s ≡ true → right_at 0 s ≡ false
unfolding right_at
right_starts_none i s p e = go (marked s) (even s) (rw (ne_eqb i 0 (λ f. omega arith)) at e)
  where
    go : (m b : Bool) → (not m && not b) ≡ true → (not m && b) ≡ false
    go true b f = refl
    go false true f = absurd (true≢false (sym f))
    go false false f = refl

pub right_at_lem : (l : List ℕ) (i j : ℕ) → right_from i l ≡ true → j < length l → right_at (i + j) (get_or l j 0) ≡ true
unfolding right_from
right_at_lem [] i j e h = absurd (omega arith)
right_at_lem (s ∷ l) i zero e h = rw add-zero (and_both (right_at i s) _ e).0
right_at_lem (s ∷ l) i (suc j) e h =
    ap (λ (n : ℕ). right_at n (get_or l j 0)) (omega arith)
    ∙ right_at_lem l (suc i) j (and_both (right_at i s) _ e).1 (omega arith)

-- ---------------------------------------------------------------- a search from the end

pub right_more : (l : List ℕ) (i : ℕ) → i < length l → right_at i (get_or l i 0) ≡ true
    → right_from (suc i) (drop (suc i) l) ≡ true → right_from i (drop i l) ≡ true
unfolding right_from
right_more l i h e f = rw (drop-cons l i 0 h, e, f)

pub right_end : (l : List ℕ) (i : ℕ) → length l ≤ i → right_from i (drop i l) ≡ true
unfolding right_from
right_end l i h = rw (drop_of_length-le l h)
