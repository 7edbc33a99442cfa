-- `frame::right_at` meets its contract, by its two tests. Assumes nothing.
use native.Mathlib.Omega.{arith}
use Rattle.frame.proofs.RightLaws.{right_marked, right_first, right_other}
use Rattle.frame.proofs.right_at.Goals as goal

pub returns-then-symbol-ge-MARKED : goal.returns-then-symbol-ge-MARKED
returns-then-symbol-ge-MARKED c = right_marked c.args.place c.args.symbol (omega arith)

pub returns-then-place-eq0 : goal.returns-then-place-eq0
returns-then-place-eq0 c =
    right_first c.args.place c.args.symbol c.parity.result
    (omega arith) (omega arith) c.parity.ensures

pub returns-else-place-eq0 : goal.returns-else-place-eq0
returns-else-place-eq0 c =
    right_other c.args.place c.args.symbol c.parity-else-place-eq0.result
    (omega arith) (omega arith) c.parity-else-place-eq0.ensures
