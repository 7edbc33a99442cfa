-- `Good::acked` meets its contract. By definition. Assumes nothing.
use mathlib.Core.Path.{refl}
use Rattle.end.specs.Sending.{acked}
use Rattle.end.proofs.good.Good.acked.Goals as goal

pub returns : goal.returns
unfolding acked
returns c = refl
