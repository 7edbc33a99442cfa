-- Ends and their parts with something changed: what a definition does not name stays as it was.
--   with_sender e s, with_outbox e o, with_inbox e i  the end e with another part
--   beside k p e   the end e, with the counts k and the presence p for its own
--   at_position, with_symbols, with_toggle, with_ready, with_health_to_send, with_loaded  a sender with another field
--   with_pending, with_register, with_received, with_confirmed, with_number, with_ping, with_bytes  an outbox likewise
--   with_full   an inbox likewise
-- Assumes nothing.
use Rattle.std.specs.Prelude.{ℕ, Bool, List}
use Rattle.receiver.specs.declared.Counts.{Counts}
use Rattle.receiver.specs.declared.Inbox.{Inbox}
use Rattle.end.specs.declared.End.{End}
use Rattle.end.specs.declared.Outbox.{Outbox}
use Rattle.end.specs.declared.Sender.{Sender}

-- The end

abbrev pub with_sender : End → Sender → End
with_sender e p = record {
  sender = p;
  outbox = e.outbox;
  collector = e.collector;
  heard = e.heard;
  inbox = e.inbox;
  counts = e.counts;
  presence = e.presence;
}

abbrev pub with_outbox : End → Outbox → End
with_outbox e p = record {
  sender = e.sender;
  outbox = p;
  collector = e.collector;
  heard = e.heard;
  inbox = e.inbox;
  counts = e.counts;
  presence = e.presence;
}

abbrev pub with_inbox : End → Inbox → End
with_inbox e p = record {
  sender = e.sender;
  outbox = e.outbox;
  collector = e.collector;
  heard = e.heard;
  inbox = p;
  counts = e.counts;
  presence = e.presence;
}

abbrev pub beside : Counts → ℕ → End → End
beside k p e = record {
  sender = e.sender;
  outbox = e.outbox;
  collector = e.collector;
  heard = e.heard;
  inbox = e.inbox;
  counts = k;
  presence = p;
}

-- The sender

abbrev pub with_symbols : Sender → List ℕ → Sender
with_symbols s x = record {
  symbols = x;
  position = s.position;
  toggle = s.toggle;
  ready = s.ready;
  health = s.health;
  loaded = s.loaded;
}

abbrev pub at_position : Sender → ℕ → Sender
at_position s x = record {
  symbols = s.symbols;
  position = x;
  toggle = s.toggle;
  ready = s.ready;
  health = s.health;
  loaded = s.loaded;
}

abbrev pub with_toggle : Sender → Bool → Sender
with_toggle s x = record {
  symbols = s.symbols;
  position = s.position;
  toggle = x;
  ready = s.ready;
  health = s.health;
  loaded = s.loaded;
}

abbrev pub with_ready : Sender → Bool → Sender
with_ready s x = record {
  symbols = s.symbols;
  position = s.position;
  toggle = s.toggle;
  ready = x;
  health = s.health;
  loaded = s.loaded;
}

abbrev pub with_health_to_send : Sender → ℕ → Sender
with_health_to_send s x = record {
  symbols = s.symbols;
  position = s.position;
  toggle = s.toggle;
  ready = s.ready;
  health = x;
  loaded = s.loaded;
}

abbrev pub with_loaded : Sender → ℕ → Sender
with_loaded s x = record {
  symbols = s.symbols;
  position = s.position;
  toggle = s.toggle;
  ready = s.ready;
  health = s.health;
  loaded = x;
}

-- The outbox

abbrev pub with_pending : Outbox → Bool → Outbox
with_pending o x = record {
  pending = x;
  toggle = o.toggle;
  received = o.received;
  confirmed = o.confirmed;
  number = o.number;
  ping = o.ping;
  bytes = o.bytes;
}

abbrev pub with_register : Outbox → Bool → Outbox
with_register o x = record {
  pending = o.pending;
  toggle = x;
  received = o.received;
  confirmed = o.confirmed;
  number = o.number;
  ping = o.ping;
  bytes = o.bytes;
}

abbrev pub with_received : Outbox → Bool → Outbox
with_received o x = record {
  pending = o.pending;
  toggle = o.toggle;
  received = x;
  confirmed = o.confirmed;
  number = o.number;
  ping = o.ping;
  bytes = o.bytes;
}

abbrev pub with_confirmed : Outbox → Bool → Outbox
with_confirmed o x = record {
  pending = o.pending;
  toggle = o.toggle;
  received = o.received;
  confirmed = x;
  number = o.number;
  ping = o.ping;
  bytes = o.bytes;
}

abbrev pub with_number : Outbox → ℕ → Outbox
with_number o x = record {
  pending = o.pending;
  toggle = o.toggle;
  received = o.received;
  confirmed = o.confirmed;
  number = x;
  ping = o.ping;
  bytes = o.bytes;
}

abbrev pub with_ping : Outbox → Bool → Outbox
with_ping o x = record {
  pending = o.pending;
  toggle = o.toggle;
  received = o.received;
  confirmed = o.confirmed;
  number = o.number;
  ping = x;
  bytes = o.bytes;
}

abbrev pub with_bytes : Outbox → List ℕ → Outbox
with_bytes o x = record {
  pending = o.pending;
  toggle = o.toggle;
  received = o.received;
  confirmed = o.confirmed;
  number = o.number;
  ping = o.ping;
  bytes = x;
}

-- The inbox

abbrev pub with_full : Inbox → Bool → Inbox
with_full i x = record {
  expected = i.expected;
  acknowledge = i.acknowledge;
  full = x;
  toggle = i.toggle;
  number = i.number;
  bytes = i.bytes;
}
