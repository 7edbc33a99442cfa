-- `reading::end_of` meets its contract: each part is what its own function reads.
-- Assumes nothing.
use Rattle.recordspec.specs.Record.{end_of}
use Rattle.recordbytes.proofs.reading.end_of.Goals as goal

pub returns : goal.returns
unfolding end_of
returns c =
    rw (
      c.sender_of.ensures,
      c.outbox_of.ensures,
      c.collector_of.ensures,
      c.heard_of.ensures,
      c.inbox_of.ensures,
      c.counts_of.ensures,
      c.presence_of.ensures,
    )
