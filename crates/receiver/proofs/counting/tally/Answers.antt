-- `counting::tally` meets its contract. Each arm knows which reason it is for, and counts that one. Assumes nothing.
use Rattle.receiver.specs.Counting.{tallied}
use Rattle.receiver.proofs.counting.tally.Goals as goal

pub returns-in-Nothing : goal.returns-in-Nothing
unfolding tallied
returns-in-Nothing c = rw c.in-Nothing.is

pub returns-in-Accepted : goal.returns-in-Accepted
unfolding tallied
returns-in-Accepted c = rw (c.in-Accepted.is, c.more.ensures)

pub returns-in-Crc : goal.returns-in-Crc
unfolding tallied
returns-in-Crc c = rw (c.in-Crc.is, c.more-in-Crc.ensures)

pub returns-in-Marked : goal.returns-in-Marked
unfolding tallied
returns-in-Marked c = rw (c.in-Marked.is, c.more-in-Marked.ensures)

pub returns-in-Parity : goal.returns-in-Parity
unfolding tallied
returns-in-Parity c = rw (c.in-Parity.is, c.more-in-Parity.ensures)
