-- `End::present` meets its contract. By definition. Assumes nothing.
use Rattle.end.specs.Good.{present_of}
use Rattle.end.proofs.End.present.Goals as goal

pub returns : goal.returns
unfolding present_of
returns c = rw c.bad.ensures
