-- The tests of the definitions decide the rows of specs/Rows.antt.
--   met, outside_row, received_row, requested_row   answers 1, 2, 3 and 4
--   met_by                                          answer 1 of take
--   unmet                                           an end that answer 1 does not meet, as the definitions test it
--   below                                           a word that is neither outside nor received
-- Assumes nothing.
use Prim.Native.Nat.{ℕ, ◌<◌, ◌≤◌}
use mathlib.Core.Bool.{true, false, ◌||◌}
use mathlib.Core.Logic.{◌⊎◌}
use mathlib.Core.Path.{◌≡◌}
use native.Mathlib.Omega.{arith}
use lib.Dec.{ltb}
use borrow.Author.Tests.{ltb-true, leb-true, leb-false}
use Rattle.laws.proofs.Bools.{or_cases}
use Rattle.laws.proofs.Decide.{Decides, decides_no, decides_or, above_not, above_row, set_row}
use Rattle.fibre.specs.declared.Block.{Block}
use Rattle.fibre.specs.declared.End.{End}
use Rattle.fibre.specs.Good.{largest, bad}
use Rattle.fibre.specs.Words.{outside, receives}
use Rattle.fibre.proofs.Laws.{good}
use Rattle.fibrelaws.specs.Rows.{Met, Outside, Received, Requested}

met_holds : (e : End) → bad e ≡ true → Met e
unfolding bad
met_holds e =
    or_cases _ _ (λ t. Met.transmit (ltb-true _ _ t))
    (or_cases _ _ (λ t. Met.sent (ltb-true _ _ t)) (λ t. Met.receive (ltb-true _ _ t)))

met_fails : (e : End) → bad e ≡ false → ¬ Met e
met_fails e h (Met.transmit k) = above_not k (good e h).transmit
met_fails e h (Met.sent k) = above_not k (good e h).sent
met_fails e h (Met.receive k) = above_not k (good e h).receive

pub met : (e : End) → Decides (bad e) (Met e)
met e = record { holds = met_holds e; fails = met_fails e }

pub met_by : (e : End) (b : Block) → Decides (bad e || ltb largest b.control) (Met e ⊎ (4095 < b.control))
met_by e b = decides_or _ _ (met e) (above_row 4095 b.control)

pub unmet : (e : End) → ¬ Met e → bad e ≡ false
unmet e = decides_no (met e)

pub outside_row : (w : ℕ) → Decides (outside w) (Outside w)
outside_row w = above_row 17 w

pub received_row : (w : ℕ) → ¬ Outside w → Decides (receives w) (Received w)
received_row w h = record {
  holds = λ t. (leb-true 9 w t, omega arith);
  fails = λ t k. above_not (leb-false 9 w t) k.0;
}

pub below : (w : ℕ) → ¬ Outside w → ¬ Received w → w ≤ 8
below w h k =
    let n : ¬ (9 ≤ w) = λ x. k (x, omega arith) in
    omega arith

pub requested_row : (e : End) (w : ℕ) → ¬ Outside w → ¬ Received w → Decides e.transmit.txreq (Requested e w)
requested_row e w h k = record {
  holds = λ t. (t, below w h k);
  fails = λ t r. (set_row e.transmit.txreq).fails t r.0;
}
