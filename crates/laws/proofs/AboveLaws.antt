-- Laws of Above.antt.
--   above_none, above_head, above_tail   of a list by its first number and the others
--   above_get_d, above_from              no number of a list is above b exactly when each is at most b
--   above_some                           where one is, it stands somewhere
--   above_set                            a store within the limit
--   above_here, above_next, above_step, above_end    a look at each number from the front
-- Assumes nothing.
use Prim.Native.Nat.{ℕ, zero, suc, ◌+◌, ◌≤◌, ◌<◌}
use native.Mathlib.Numerals.{add-one}
use native.Mathlib.Omega.{arith}
use mathlib.Core.Bool.{Bool, true, false, ◌||◌, true≢false, or-true, or-false}
use mathlib.Core.List.{List, [], ◌∷◌}
use mathlib.Core.Path.{◌≡◌, refl, sym}
use borrow.Author.Tests.{ltb-true, ltb-false, lt-ltb, le-ltb}
use lib.Dec.{ltb}
use lib.ListN.{length, drop, get_or, set, drop_of_length-le}
use lib.Seq.{drop-cons}
use Rattle.laws.specs.Above.{above}
use Rattle.laws.proofs.Bools.{or_none, or_no, or_assoc}

pub above_none : (b : ℕ) (x : ℕ) (l : List ℕ) → x ≤ b → above b l ≡ false → above b (x ∷ l) ≡ false
unfolding above
above_none b x l h k = or_none (ltb b x) (above b l) (le-ltb b x h) k

pub above_head : (b x : ℕ) (l : List ℕ) → above b (x ∷ l) ≡ false → x ≤ b
unfolding above
above_head b x l h = ltb-false b x (or_no (ltb b x) (above b l) h).0

pub above_tail : (b x : ℕ) (l : List ℕ) → above b (x ∷ l) ≡ false → above b l ≡ false
unfolding above
above_tail b x l h = (or_no (ltb b x) (above b l) h).1

-- every element is at most b, and back
pub above_get_d : (b : ℕ) (l : List ℕ) (i : ℕ) → above b l ≡ false → get_or l i 0 ≤ b
above_get_d b [] i h = omega arith
above_get_d b (x ∷ l) zero h = above_head b x l h
above_get_d b (x ∷ l) (suc i) h = above_get_d b l i (above_tail b x l h)

pub above_from : (b : ℕ) (l : List ℕ) → ((i : ℕ) → get_or l i 0 ≤ b) → above b l ≡ false
unfolding above
above_from b [] h = refl
above_from b (x ∷ l) h = above_none b x l (h 0) (above_from b l (λ i. h (suc i)))

pub above_some : (b : ℕ) (l : List ℕ) → above b l ≡ true → (i : ℕ) × (i < length l) × (b < get_or l i 0)
unfolding above
above_some b [] e = absurd (true≢false (sym e))
above_some b (s ∷ l) e = go (ltb b s) refl (above_some b l) e
  where
    go : (t : Bool) → ltb b s ≡ t → (above b l ≡ true → (i : ℕ) × (i < length l) × (b < get_or l i 0))
        → (t || above b l) ≡ true
        → (i : ℕ) × (i < length (s ∷ l)) × (b < get_or (s ∷ l) i 0)
    go true t r f = (zero, omega arith, ltb-true b s t)
    go false t r f = let (i, h, k) = r f in (suc i, omega arith, k)

pub above_set : (b : ℕ) (l : List ℕ) (i x : ℕ) → x ≤ b → above b l ≡ false → above b (set l i x) ≡ false
above_set b [] i x h k = k
above_set b (y ∷ l) zero x h k = above_none b x l h (above_tail b y l k)
above_set b (y ∷ l) (suc i) x h k =
    above_none b y (set l i x) (above_head b y l k) (above_set b l i x h (above_tail b y l k))

-- a: one of those before place i is above b; the whole is this, or one from i on
module _ (b : ℕ) (l : List ℕ) (i : ℕ) (a : Bool) where
  module _ (h : i < length l) where
    pub above_here : b < get_or l i 0 → true ≡ (a || above b (drop i l))
    unfolding above
    above_here k = rw (drop-cons l i 0 h, lt-ltb b (get_or l i 0) k) (sym (or-true a))

    pub above_next : get_or l i 0 ≤ b → (a || above b (drop (i + 1) l)) ≡ (a || above b (drop i l))
    unfolding above
    above_next k = rw (add-one, drop-cons l i 0 h, le-ltb b (get_or l i 0) k)

    -- whichever it is
    pub above_step : ((a || ltb b (get_or l i 0)) || above b (drop (i + 1) l)) ≡ (a || above b (drop i l))
    unfolding above
    above_step = rw (add-one, drop-cons l i 0 h) (or_assoc a (ltb b (get_or l i 0)) (above b (drop (suc i) l)))

  pub above_end : length l ≤ i → a ≡ (a || above b (drop i l))
  unfolding above
  above_end h = rw (drop_of_length-le l h) (sym (or-false a))
