-- Laws of Check.antt: what `some_above` says of each symbol, and the answer table's rows for the frame check, each
-- "exactly when". `pick` and its rows serve the finder too. Assumes nothing.
use Prim.Native.Nat.{ℕ, ◌<◌}
use native.Mathlib.Omega.{arith}
use mathlib.Core.Bool.{Bool, true, false, cond, true≢false}
use mathlib.Core.List.{List}
use mathlib.Core.Logic.{◌↔◌, ◌≢◌}
use mathlib.Core.Path.{◌≡◌, refl, sym}
use borrow.Author.Tests.{eqb-true, eqb-false, eq-eqb, ne_eqb}
use lib.Dec.{eqb, lit<}
use lib.ListN.{length}
use Rattle.laws.proofs.AboveLaws.{above_from}
use Rattle.answer.specs.Number.{number_of}
use Rattle.answer.specs.declared.Answer.{Answer}
use Rattle.answer.specs.declared.Answer.TheVariants.{Done, BadSymbol, BadLength, NotAcceptable}
use Rattle.frame.specs.Check.{largest, some_above, check_of}
use Rattle.frame.specs.Frame.{acceptable}
use Rattle.frame.proofs.AcceptLaws.{acceptable_length, acceptable_below}

-- ---------------------------------------------------------------- numbers above the largest symbol

pub acceptable_above : (s : List ℕ) → acceptable s ≡ true → some_above s ≡ false
acceptable_above s e = above_from largest s (λ i. omega (arith, acceptable_below s e i))

-- ---------------------------------------------------------------- the rows

-- the answer to a list by three tests, in the table's order: it is short enough, it has a number above the largest
-- symbol, what is looked for is there; x is the answer where it is not
unfoldable pub pick : Answer → Bool → Bool → Bool → Answer
pick x n a c = cond n (cond a BadSymbol (cond c Done x)) BadLength

module _ (x : Answer) (h : 7 < number_of x) where
  pub pick_7 : (n a c : Bool) → (number_of (pick x n a c) ≡ 7) ↔ (n ≡ false)
  unfolding pick
  pick_7 true true c = (λ e. absurd (omega arith), λ e. absurd (true≢false e))
  pick_7 true false true = (λ e. absurd (omega arith), λ e. absurd (true≢false e))
  pick_7 true false false = (λ e. absurd (omega arith), λ e. absurd (true≢false e))
  pick_7 false a c = (λ e. refl, λ e. refl)

  pub pick_5 : (n a c : Bool) → (number_of (pick x n a c) ≡ 5) ↔ ((n ≡ true) × (a ≡ true))
  unfolding pick
  pick_5 true true c = (λ e. (refl, refl), λ e. refl)
  pick_5 true false true = (λ e. absurd (omega arith), λ e. absurd (true≢false (sym e.1)))
  pick_5 true false false = (λ e. absurd (omega arith), λ e. absurd (true≢false (sym e.1)))
  pick_5 false a c = (λ e. absurd (omega arith), λ e. absurd (true≢false (sym e.0)))

  pub pick_none : (n a c : Bool) → (number_of (pick x n a c) ≡ number_of x) ↔ ((n ≡ true) × (a ≡ false) × (c ≡ false))
  unfolding pick
  pick_none true true c = (λ e. absurd (omega arith), λ e. absurd (true≢false e.1))
  pick_none true false true = (λ e. absurd (omega arith), λ e. absurd (true≢false e.2))
  pick_none true false false = (λ e. (refl, refl, refl), λ e. refl)
  pick_none false a c = (λ e. absurd (omega arith), λ e. absurd (true≢false (sym e.0)))

  pub pick_0 : (n a c : Bool) → (number_of (pick x n a c) ≡ 0) ↔ ((n ≡ true) × (a ≡ false) × (c ≡ true))
  unfolding pick
  pick_0 true true c = (λ e. absurd (omega arith), λ e. absurd (true≢false e.1))
  pick_0 true false true = (λ e. (refl, refl, refl), λ e. refl)
  pick_0 true false false = (λ e. absurd (omega arith), λ e. absurd (true≢false (sym e.2)))
  pick_0 false a c = (λ e. absurd (omega arith), λ e. absurd (true≢false (sym e.0)))

module _ (l : List ℕ) where
  pub check_7 : (number_of (check_of l) ≡ 7) ↔ (length l ≢ 12)
  unfolding check_of pick
  check_7 =
      let row = pick_7 NotAcceptable (lit< tt) (eqb (length l) 12) (some_above l) (acceptable l) in
      (λ e. eqb-false (length l) 12 (row.0 e), λ h. row.1 (ne_eqb (length l) 12 h))

  pub check_5 : (number_of (check_of l) ≡ 5) ↔ ((length l ≡ 12) × (some_above l ≡ true))
  unfolding check_of pick
  check_5 =
      let row = pick_5 NotAcceptable (lit< tt) (eqb (length l) 12) (some_above l) (acceptable l) in
      (λ e. (eqb-true (length l) 12 (row.0 e).0, (row.0 e).1), λ h. row.1 (eq-eqb (length l) 12 h.0, h.1))

  pub check_9 : (number_of (check_of l) ≡ 9) ↔ ((length l ≡ 12) × (some_above l ≡ false) × (acceptable l ≡ false))
  unfolding check_of pick
  check_9 =
      let row = pick_none NotAcceptable (lit< tt) (eqb (length l) 12) (some_above l) (acceptable l) in (
        λ e. (eqb-true (length l) 12 (row.0 e).0, (row.0 e).1, (row.0 e).2),
        λ h. row.1 (eq-eqb (length l) 12 h.0, h.1, h.2),
      )

  -- an acceptable list has twelve symbols, none above the largest
  pub check_0 : (number_of (check_of l) ≡ 0) ↔ (acceptable l ≡ true)
  unfolding check_of pick
  check_0 =
      let row = pick_0 NotAcceptable (lit< tt) (eqb (length l) 12) (some_above l) (acceptable l) in
      (λ e. (row.0 e).2, λ h. row.1 (eq-eqb (length l) 12 (acceptable_length l h), acceptable_above l h, h))
