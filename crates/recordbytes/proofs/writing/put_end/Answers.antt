-- `writing::put_end` meets its contract: one part behind the other.
-- Assumes nothing.
use Rattle.receiver.specs.Counting.{listed}
use Rattle.recordspec.specs.Record.{size, version, two, twos, head_of, front_of, back_of, body_of, record_of, sender_bytes}
use Rattle.recordspec.specs.Record.{outbox_bytes, collector_bytes, heard_bytes, inbox_bytes}
use Rattle.recordspec.proofs.Parts.{built}
use Rattle.recordbytes.proofs.writing.put_end.Goals as goal

pub returns : goal.returns
unfolding record_of body_of front_of back_of
returns c =
    let e = c.args.end in
    built (head_of size version) (sender_bytes e.sender) (outbox_bytes e.outbox) (collector_bytes e.collector)
    (heard_bytes e.heard) (inbox_bytes e.inbox) (twos (listed e.counts)) (two e.presence)
    c.put_head.ensures c.put_sender.ensures c.put_outbox.ensures c.put_collector.ensures
    c.put_heard.ensures c.put_inbox.ensures c.put_counts.ensures c.put_presence.ensures
