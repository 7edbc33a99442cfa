-- `Good::control` meets its contract. The control has twelve bits, so the sum fits. Assumes nothing.
use native.Mathlib.Omega.{arith}
use Rattle.fibre.proofs.Laws.{good}
use Rattle.fibre.proofs.good.Good.control.Goals as goal

pub overflow_add-result-4 : goal.overflow_add-result-4
overflow_add-result-4 c = omega (arith, (good _ c.args.self.good).transmit)
