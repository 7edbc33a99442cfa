-- `taking::enters` meets its contract. Both sides are the same conjunction, bracketed otherwise. Assumes nothing.
use Rattle.laws.proofs.Bools.{and_assoc}
use Rattle.receiver.proofs.taking.enters.Goals as goal

pub returns : goal.returns
returns c = simp and_assoc
