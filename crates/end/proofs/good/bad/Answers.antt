-- `good::bad` meets its contract. Both sides are the same disjunction, bracketed otherwise. Assumes nothing.
use Rattle.end.specs.Good.{bad}
use Rattle.laws.proofs.Bools.{or_assoc}
use Rattle.end.proofs.good.bad.Goals as goal

pub returns : goal.returns
unfolding bad
returns c = rw (c.above.ensures, c.above-2.ensures) (simp or_assoc)
