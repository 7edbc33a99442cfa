-- Laws of Reason.antt, and the ways out of the call `check`.
--   answer_same      the frame check's answer is that of before the request
--   reason_exactly   the frame check gives a reason exactly when document 02 has it so, in plain terms
--   reason_0, reason_9   answer 0 exactly with the reason accepted, 9 exactly with a fault
-- Assumes nothing.
use Prim.Native.Nat.{ℕ, zero, suc, ◌+◌, ◌≤◌, ◌<◌}
use native.Mathlib.Numerals.{add-one}
use native.Mathlib.Omega.{arith}
use mathlib.Core.Bool.{Bool, true, false, not, ◌&&◌, cond, true≢false, false≢true}
use mathlib.Core.List.{List, [], ◌∷◌}
use mathlib.Core.Logic.{◌↔◌, ◌⊎◌, inl, inr}
use mathlib.Core.Path.{◌≡◌, refl, sym, ap, ◌∙◌, subst}
use borrow.Author.Tests.{eqb-true, eqb-false, ne_eqb}
use lib.Dec.{eqb}
use lib.ListN.{length, drop, get_or, drop_of_length-le}
use lib.Seq.{drop-cons}
use Rattle.answer.specs.Number.{number_of}
use Rattle.answer.specs.declared.Answer.TheVariants.{Done, BadSymbol, BadLength, NotAcceptable}
use Rattle.frame.specs.declared.reason.Reason.{Reason}
use Rattle.frame.specs.declared.reason.Reason.TheVariants.{Nothing, Accepted, Crc, Marked, Parity}
use Rattle.frame.specs.Check.{some_above, right_parity, right_at, check_of}
use Rattle.frame.specs.Frame.{marked, crc_right, acceptable}
use Rattle.frame.specs.Reason.{reason_number, is_accepted, fault_at, fault_from, reason_of, why_of, checked_of}
use Rattle.frame.specs.Reason.{Looked, RightBelow, Because}
use Rattle.frame.proofs.AcceptLaws.{acceptable_length}
use Rattle.frame.proofs.CheckLaws.{acceptable_above, check_0, check_9}
use Rattle.frame.proofs.RightLaws.{right_from, acceptable_right}

-- ---------------------------------------------------------------- a search from the front

module _ (l : List ℕ) (i : ℕ) (h : i < length l) (r : Reason) where
  pub fault_here : right_at i (get_or l i 0) ≡ false → fault_from i (drop i l) r ≡ fault_at i (get_or l i 0)
  unfolding fault_from
  fault_here e = rw (drop-cons l i 0 h, e)

  pub fault_next : right_at i (get_or l i 0) ≡ true → fault_from (i + 1) (drop (i + 1) l) r ≡ fault_from i (drop i l) r
  unfolding fault_from
  fault_next e = rw (add-one, drop-cons l i 0 h, e)

pub fault_end : (l : List ℕ) (i : ℕ) (r : Reason) → length l ≤ i → fault_from i (drop i l) r ≡ r
unfolding fault_from
fault_end l i r h = rw (drop_of_length-le l h)

-- what the CRC says where no symbol is at fault
abbrev pub by_crc : List ℕ → Reason
by_crc l = cond (crc_right l) Accepted Crc

-- ---------------------------------------------------------------- the reason in plain terms

module _ (l : List ℕ) where
  -- up to a place where all is right, nothing is decided
  fault_below : (r : Reason) (k : ℕ) → k ≤ length l → RightBelow k l → fault_from k (drop k l) r ≡ fault_from 0 l r
  fault_below r zero h b = refl
  fault_below r (suc k) h b =
      ap (λ (n : ℕ). fault_from n (drop n l) r) (sym (add-one k))
      ∙ fault_next l k (omega arith) r (b k (omega arith))
      ∙ fault_below r k (omega arith) (λ j i. b j (omega arith))

  fault_first : (r : Reason) (k : ℕ) → k < length l → RightBelow k l → right_at k (get_or l k 0) ≡ false
      → fault_from 0 l r ≡ fault_at k (get_or l k 0)
  fault_first r k h b e = sym (fault_below r k (omega arith) b) ∙ fault_here l k h r e

  fault_none : (r : Reason) → RightBelow (length l) l → fault_from 0 l r ≡ r
  fault_none r b = sym (fault_below r (length l) (omega arith) b) ∙ fault_end l (length l) r (omega arith)

  -- the lowest symbol below k that may not stand where it does, or none
  abbrev Lowest : ℕ → Type 0
  Lowest k = RightBelow k l ⊎ ((m : ℕ) × (m < k) × RightBelow m l × (right_at m (get_or l m 0) ≡ false))

  lowest : (k : ℕ) → Lowest k
  lowest zero = inl (λ j h. absurd (omega arith))
  lowest (suc k) = go (lowest k) (right_at k (get_or l k 0)) refl
    where
      below : RightBelow k l → right_at k (get_or l k 0) ≡ true → (j : ℕ) → j < suc k → (b : Bool) → eqb j k ≡ b
          → right_at j (get_or l j 0) ≡ true
      below h e j i true t = rw (eqb-true j k t) e
      below h e j i false t = h j (let n = eqb-false j k t in omega arith)

      go : Lowest k → (b : Bool) → right_at k (get_or l k 0) ≡ b → Lowest (suc k)
      go (inl h) true e = inl (λ j i. below h e j i (eqb j k) refl)
      go (inl h) false e = inr (k, omega arith, h, e)
      go (inr (m, h, b, e)) t f = inr (m, omega arith, b, e)

  looked_why : Looked l → why_of l ≡ reason_of l
  unfolding why_of
  looked_why h = rw (h.0, h.1)

  right_why : Looked l → RightBelow 12 l → why_of l ≡ by_crc l
  unfolding reason_of
  right_why h b = looked_why h ∙ fault_none (by_crc l) (rw h.0 b)

  fault_why : (k : ℕ) → Looked l → k < 12 → RightBelow k l → right_at k (get_or l k 0) ≡ false
      → why_of l ≡ fault_at k (get_or l k 0)
  unfolding reason_of
  fault_why k h i b e = looked_why h ∙ fault_first (by_crc l) k (rw h.0 i) b e

  -- Nothing, where the list was not looked at
  unlooked_why : ¬ Looked l → why_of l ≡ Nothing
  unfolding why_of
  unlooked_why h = go (eqb (length l) 12) (some_above l) refl refl
    where
      go : (n a : Bool) → eqb (length l) 12 ≡ n → some_above l ≡ a
          → cond n (cond a Nothing (reason_of l)) Nothing ≡ Nothing
      go true true e f = refl
      go true false e f = absurd (h (eqb-true (length l) 12 e, f))
      go false a e f = refl

  because_looked : Looked l → Because l (why_of l)
  unfolding right_at
  because_looked h = go (lowest 12)
    where
      by_crc_lem : RightBelow 12 l → (b : Bool) → crc_right l ≡ b → Because l (cond b Accepted Crc)
      by_crc_lem d true e = (h, d, e)
      by_crc_lem d false e = (h, d, e)

      by_fault : (k : ℕ) → k < 12 → RightBelow k l → (b : Bool) → marked (get_or l k 0) ≡ b
          → (not b && right_parity k (get_or l k 0)) ≡ false
          → Because l (cond b (Marked k) (Parity k))
      by_fault k i d true m e = (h, i, d, m)
      by_fault k i d false m e = (h, i, d, m, e)

      go : Lowest 12 → Because l (why_of l)
      go (inl d) = rw (right_why h d) (by_crc_lem d (crc_right l) refl)
      go (inr (k, i, d, e)) = rw (fault_why k h i d e) (by_fault k i d (marked (get_or l k 0)) refl e)

  because_why : Because l (why_of l)
  because_why = go (eqb (length l) 12) (some_above l) refl refl
    where
      none : ¬ Looked l → Because l (why_of l)
      none n = rw (unlooked_why n) n

      go : (n a : Bool) → eqb (length l) 12 ≡ n → some_above l ≡ a → Because l (why_of l)
      go true true e f = none (λ h. true≢false (sym f ∙ h.1))
      go true false e f = because_looked (eqb-true (length l) 12 e, f)
      go false a e f = none (λ h. eqb-false (length l) 12 e h.0)

  why_because : (r : Reason) → Because l r → why_of l ≡ r
  unfolding right_at
  why_because Nothing h = unlooked_why h
  why_because Accepted (h, d, e) = right_why h d ∙ rw e
  why_because Crc (h, d, e) = right_why h d ∙ rw e
  why_because (Marked k) (h, i, d, m) = fault_why k h i d (rw m) ∙ rw m
  why_because (Parity k) (h, i, d, m, e) = fault_why k h i d (rw (m, e)) ∙ rw m

  pub reason_exactly : (r : Reason) → ((checked_of l).reason ≡ r) ↔ Because l r
  reason_exactly r = (λ e. subst (Because l) e because_why, why_because r)

-- ---------------------------------------------------------------- reason and answer

fault_right : (l : List ℕ) (i : ℕ) (r : Reason) → right_from i l ≡ true → fault_from i l r ≡ r
unfolding fault_from right_from
fault_right [] i r h = refl
fault_right (s ∷ l) i r h = go (right_at i s) (fault_right l (suc i) r) h
  where
    go : (b : Bool) → (right_from (suc i) l ≡ true → fault_from (suc i) l r ≡ r) → (b && right_from (suc i) l) ≡ true
        → cond b (fault_from (suc i) l r) (fault_at i s) ≡ r
    go true f k = f k
    go false f k = absurd (false≢true k)

fault_wrong : (l : List ℕ) (i : ℕ) (r : Reason) → right_from i l ≡ false → 2 < reason_number (fault_from i l r)
unfolding fault_from right_from
fault_wrong [] i r h = absurd (true≢false h)
fault_wrong (s ∷ l) i r h = go (right_at i s) (fault_wrong l (suc i) r) h
  where
    either : (b : Bool) → 2 < reason_number (cond b (Marked i) (Parity i))
    either true = omega arith
    either false = omega arith

    go : (b : Bool) → (right_from (suc i) l ≡ false → 2 < reason_number (fault_from (suc i) l r))
        → (b && right_from (suc i) l) ≡ false
        → 2 < reason_number (cond b (fault_from (suc i) l r) (fault_at i s))
    go true f k = f k
    go false f k = either (marked s)

-- of twelve symbols
module _ (l : List ℕ) (n : length l ≡ 12) where
  accepted_reason : acceptable l ≡ true → reason_of l ≡ Accepted
  unfolding reason_of
  accepted_reason h = go (right_from 0 l) (crc_right l) refl refl (rw (acceptable_right l, n) at h)
    where
      go : (a b : Bool) → right_from 0 l ≡ a → crc_right l ≡ b → (a && b) ≡ true → fault_from 0 l (by_crc l) ≡ Accepted
      go true true e f k = fault_right l 0 (by_crc l) e ∙ rw f
      go true false e f k = absurd (false≢true k)
      go false b e f k = absurd (false≢true k)

  failed_reason : acceptable l ≡ false → 1 < reason_number (reason_of l)
  unfolding reason_of
  failed_reason h = go (right_from 0 l) (crc_right l) refl refl (rw (acceptable_right l, n) at h)
    where
      go : (a b : Bool) → right_from 0 l ≡ a → crc_right l ≡ b → (a && b) ≡ false
          → 1 < reason_number (fault_from 0 l (by_crc l))
      go true true e f k = absurd (true≢false k)
      go true false e f k = rw (fault_right l 0 (by_crc l) e, f) (omega arith)
      go false b e f k = omega (arith, fault_wrong l 0 (by_crc l) e)

  reason_accepts : is_accepted (reason_of l) ≡ acceptable l
  reason_accepts = go (acceptable l) refl
    where
      faulty : (r : Reason) → 1 < reason_number r → is_accepted r ≡ false
      faulty Nothing h = refl
      faulty Accepted h = absurd (omega arith)
      faulty Crc h = refl
      faulty (Marked k) h = refl
      faulty (Parity k) h = refl

      go : (b : Bool) → acceptable l ≡ b → is_accepted (reason_of l) ≡ b
      go true h = ap is_accepted (accepted_reason h)
      go false h = faulty (reason_of l) (failed_reason h)

pub answer_same : (l : List ℕ) → (checked_of l).answer ≡ check_of l
answer_same l = refl

module _ (l : List ℕ) where
  -- of a list that was looked at: accepted, or failed
  told : Looked l → (b : Bool) → acceptable l ≡ b → cond b (why_of l ≡ Accepted) (1 < reason_number (why_of l))
  told h true a = looked_why l h ∙ accepted_reason l h.0 a
  told h false a = rw (looked_why l h) (failed_reason l h.0 a)

  pub reason_0 : (number_of (checked_of l).answer ≡ 0) ↔ ((checked_of l).reason ≡ Accepted)
  reason_0 = (
    λ e. let a = (check_0 l).0 e in told (acceptable_length l a, acceptable_above l a) true a,
    λ e. (check_0 l).1 (back (acceptable l) refl e ((reason_exactly l Accepted).0 e).0),
  )
    where
      back : (b : Bool) → acceptable l ≡ b → why_of l ≡ Accepted → Looked l → acceptable l ≡ true
      back true a e h = a
      back false a e h = absurd (omega (arith, told h false a, ap reason_number e))

  pub reason_9 : (number_of (checked_of l).answer ≡ 9) ↔ (1 < reason_number (checked_of l).reason)
  reason_9 = (
    λ e. let r = (check_9 l).0 e in told (r.0, r.1) false r.2,
    λ k. (check_9 l).1 (back k (eqb (length l) 12) (some_above l) (acceptable l) refl refl refl),
  )
    where
      unlooked : 1 < reason_number (why_of l) → ¬ ¬ Looked l
      unlooked k n = omega (arith, k, ap reason_number (unlooked_why l n))

      back : 1 < reason_number (why_of l) → (n a b : Bool) → eqb (length l) 12 ≡ n → some_above l ≡ a → acceptable l ≡ b
          → (length l ≡ 12) × (some_above l ≡ false) × (acceptable l ≡ false)
      back k false a b e f g = absurd (unlooked k (λ h. eqb-false (length l) 12 e h.0))
      back k true true b e f g = absurd (unlooked k (λ h. true≢false (sym f ∙ h.1)))
      back k true false true e f g =
          absurd (omega (arith, k, ap reason_number (told (eqb-true (length l) 12 e, f) true g)))
      back k true false false e f g = (eqb-true (length l) 12 e, f, g)

-- ---------------------------------------------------------------- the ways out of `check`

module _ (l : List ℕ) where
  pub check_length : (length l ≡ 12 → ⊥) → record { answer = BadLength; reason = Nothing } ≡ checked_of l
  unfolding check_of why_of
  check_length n = rw (ne_eqb (length l) 12 n)

  pub check_above : length l ≡ 12 → some_above l ≡ true
      → record { answer = BadSymbol; reason = Nothing } ≡ checked_of l
  unfolding check_of why_of
  check_above n a = rw (n, a)

  pub check_reason : (b : Bool) (r : Reason) → length l ≡ 12 → some_above l ≡ false → r ≡ reason_of l
      → is_accepted (reason_of l) ≡ b
      → record { answer = cond b Done NotAcceptable; reason = r } ≡ checked_of l
  unfolding check_of why_of
  check_reason b r n a e h = rw (n, a, e, sym (reason_accepts l n), h)
