-- `Good::control` meets its contract. The number is at most 15 and the health at most 3, so the sum fits. Assumes
-- nothing.
use native.Mathlib.Omega.{arith}
use Rattle.end.proofs.Laws.{good}
use Rattle.end.proofs.good.Good.control.Goals as goal

pub overflow_add-result-4 : goal.overflow_add-result-4
overflow_add-result-4 c =
    let g = good _ c.args.self.good in
    omega (arith, g.number)

pub overflow_add-result-5 : goal.overflow_add-result-5
overflow_add-result-5 c =
    let g = good _ c.args.self.good in
    omega (arith, g.number)

pub overflow_add-result-6 : goal.overflow_add-result-6
overflow_add-result-6 c =
    let g = good _ c.args.self.good in
    omega (arith, g.number)

pub overflow_add-result-7 : goal.overflow_add-result-7
overflow_add-result-7 c =
    let g = good _ c.args.self.good in
    omega (arith, g.number, g.loaded)
