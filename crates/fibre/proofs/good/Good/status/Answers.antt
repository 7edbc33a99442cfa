-- `Good::status` meets its contract. The control has twelve bits, so the sum fits. Assumes nothing.
use native.Mathlib.Omega.{arith}
use Rattle.fibre.proofs.Laws.{good}
use Rattle.fibre.proofs.good.Good.status.Goals as goal

pub overflow_add-result-2 : goal.overflow_add-result-2
overflow_add-result-2 c = omega (arith, (good _ c.args.self.good).receive)
