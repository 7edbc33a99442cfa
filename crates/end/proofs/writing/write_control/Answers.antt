-- `writing::write_control` meets its contract. Each return knows whether a message is pending. Assumes nothing.
use Rattle.std.proofs.lemmas.Bool.{not-true, not-false}
use Rattle.crc.specs.Bits.{odd}
use Rattle.end.proofs.writing.write_control.Goals as goal

pub returns-then-not-outbox : goal.returns-then-not-outbox
unfolding odd
returns-then-not-outbox c = rw (not-true _ c.if-not-outbox.true)

pub returns-else-not-outbox : goal.returns-else-not-outbox
unfolding odd
returns-else-not-outbox c = rw (not-false _ c.if-not-outbox.false)
