-- `good::bad` meets its contract. Both sides are the same disjunction, bracketed otherwise. Assumes nothing.
use Rattle.fibre.specs.Good.{bad}
use Rattle.laws.proofs.Bools.{or_assoc}
use Rattle.fibre.proofs.good.bad.Goals as goal

pub returns : goal.returns
unfolding bad
returns c = simp or_assoc
