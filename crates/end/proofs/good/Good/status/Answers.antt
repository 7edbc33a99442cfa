-- `Good::status` meets its contract. The number is at most 15 and the health at most 3, so the sum fits. Assumes
-- nothing.
use native.Mathlib.Omega.{arith}
use Rattle.end.proofs.Laws.{good}
use Rattle.end.proofs.good.Good.status.Goals as goal

pub overflow_add-result-2 : goal.overflow_add-result-2
overflow_add-result-2 c =
    let g = good _ c.args.self.good in
    omega (arith, g.number_in)

pub overflow_add-result-3 : goal.overflow_add-result-3
overflow_add-result-3 c =
    let g = good _ c.args.self.good in
    omega (arith, g.number_in, g.partner)
