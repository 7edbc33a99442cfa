-- The values of an end's fields.
--   bit_of b        1 where the bool b is set
--   value_of e f i  element i of the field f of the end e, as a number
-- Assumes nothing.
use Rattle.std.specs.Prelude.{ℕ, Bool, cond, get_or}
use Rattle.benchcommands.specs.declared.fields.Field.{Field}
use Rattle.end.specs.declared.End.{End}

abbrev pub bit_of : Bool → ℕ
bit_of b = cond b 1 0

abbrev pub value_of : End → Field → ℕ → ℕ
value_of e Field.Tx i = get_or e.sender.symbols i 0
value_of e Field.Position i = e.sender.position
value_of e Field.SendingToggle i = bit_of e.sender.toggle
value_of e Field.Ready i = bit_of e.sender.ready
value_of e Field.Health i = e.sender.health
value_of e Field.LoadedHealth i = e.sender.loaded
value_of e Field.Pending i = bit_of e.outbox.pending
value_of e Field.RegisterToggle i = bit_of e.outbox.toggle
value_of e Field.Received i = bit_of e.outbox.received
value_of e Field.ReceivedToggle i = bit_of e.outbox.confirmed
value_of e Field.Number i = e.outbox.number
value_of e Field.PingTx i = bit_of e.outbox.ping
value_of e Field.Bytes i = get_or e.outbox.bytes i 0
value_of e Field.Rx i = get_or e.collector.symbols i 0
value_of e Field.Count i = e.collector.count
value_of e Field.PartnerHealth i = e.heard.health
value_of e Field.PingGot i = bit_of e.heard.got
value_of e Field.PartnerPing i = bit_of e.heard.ping
value_of e Field.Valid i = bit_of e.heard.valid
value_of e Field.Toggle i = bit_of e.heard.toggle
value_of e Field.Ack i = bit_of e.heard.ack
value_of e Field.Togack i = bit_of e.heard.togack
value_of e Field.ExpectedToggle i = bit_of e.inbox.expected
value_of e Field.Acknowledge i = bit_of e.inbox.acknowledge
value_of e Field.Full i = bit_of e.inbox.full
value_of e Field.RxToggle i = bit_of e.inbox.toggle
value_of e Field.RxNumber i = e.inbox.number
value_of e Field.RxBytes i = get_or e.inbox.bytes i 0
value_of e Field.AcceptedCount i = e.counts.accepted
value_of e Field.CrcCount i = e.counts.crc
value_of e Field.MarkedCount i = e.counts.marked
value_of e Field.EarlyCount i = e.counts.early
value_of e Field.PresenceLeft i = e.presence
