-- `Good::word_zero` meets its contract. The health is at most 3, so the sum is a byte. Assumes nothing.
use native.Mathlib.Omega.{arith}
use Rattle.end.proofs.Laws.{good}
use Rattle.end.proofs.good.Good.word_zero.Goals as goal

pub overflow_cast-result : goal.overflow_cast-result
overflow_cast-result c = omega (arith, (good _ c.args.self.good).health)
