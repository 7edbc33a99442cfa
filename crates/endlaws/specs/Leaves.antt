-- What each call leaves as it was: e is the end before the call, f the end after it.
--   SendLeaves e f        send leaves the receive side, the counts and presence
--   TakeLeaves e f        take leaves the send side
--   ReadLeaves r e f      reading the register r leaves all but Received and full, which only 3.2308 and 3.2317 clear
--   WriteLeaves r e f     writing to the register r leaves all but the transmit registers: of these 3.2308 leaves the
--                         bytes, any other register all but the bytes, and a pending message stays as it is
--   HealthLeaves e f      setting the health leaves all but the health to send
-- Assumes nothing.
use Rattle.std.specs.Prelude.{ℕ, true, ◌≡◌}
use Rattle.end.specs.declared.End.{End}

pub record SendLeaves (e f : End) : Type 0 where
  pub collector : f.collector ≡ e.collector
  pub heard : f.heard ≡ e.heard
  pub inbox : f.inbox ≡ e.inbox
  pub counts : f.counts ≡ e.counts
  pub presence : f.presence ≡ e.presence

pub record TakeLeaves (e f : End) : Type 0 where
  pub sender : f.sender ≡ e.sender
  pub outbox : f.outbox ≡ e.outbox

pub record ReadLeaves (r : ℕ) (e f : End) : Type 0 where
  pub sender : f.sender ≡ e.sender
  pub collector : f.collector ≡ e.collector
  pub heard : f.heard ≡ e.heard
  pub pending : f.outbox.pending ≡ e.outbox.pending
  pub toggle : f.outbox.toggle ≡ e.outbox.toggle
  pub received : ¬ (r ≡ 2308) → f.outbox.received ≡ e.outbox.received
  pub confirmed : f.outbox.confirmed ≡ e.outbox.confirmed
  pub number : f.outbox.number ≡ e.outbox.number
  pub ping : f.outbox.ping ≡ e.outbox.ping
  pub bytes : f.outbox.bytes ≡ e.outbox.bytes
  pub expected : f.inbox.expected ≡ e.inbox.expected
  pub acknowledge : f.inbox.acknowledge ≡ e.inbox.acknowledge
  pub full : ¬ (r ≡ 2317) → f.inbox.full ≡ e.inbox.full
  pub toggle_in : f.inbox.toggle ≡ e.inbox.toggle
  pub number_in : f.inbox.number ≡ e.inbox.number
  pub bytes_in : f.inbox.bytes ≡ e.inbox.bytes
  pub counts : f.counts ≡ e.counts
  pub presence : f.presence ≡ e.presence

pub record WriteLeaves (r : ℕ) (e f : End) : Type 0 where
  pub sender : f.sender ≡ e.sender
  pub collector : f.collector ≡ e.collector
  pub heard : f.heard ≡ e.heard
  pub inbox : f.inbox ≡ e.inbox
  pub toggle : f.outbox.toggle ≡ e.outbox.toggle
  pub received : f.outbox.received ≡ e.outbox.received
  pub confirmed : f.outbox.confirmed ≡ e.outbox.confirmed
  pub bytes : r ≡ 2308 → f.outbox.bytes ≡ e.outbox.bytes
  pub pending : ¬ (r ≡ 2308) → f.outbox.pending ≡ e.outbox.pending
  pub number : ¬ (r ≡ 2308) → f.outbox.number ≡ e.outbox.number
  pub ping : ¬ (r ≡ 2308) → f.outbox.ping ≡ e.outbox.ping
  pub still_pending : e.outbox.pending ≡ true → f.outbox.pending ≡ true
  pub pending_number : e.outbox.pending ≡ true → f.outbox.number ≡ e.outbox.number
  pub pending_bytes : e.outbox.pending ≡ true → f.outbox.bytes ≡ e.outbox.bytes
  pub counts : f.counts ≡ e.counts
  pub presence : f.presence ≡ e.presence

pub record HealthLeaves (e f : End) : Type 0 where
  pub outbox : f.outbox ≡ e.outbox
  pub collector : f.collector ≡ e.collector
  pub heard : f.heard ≡ e.heard
  pub inbox : f.inbox ≡ e.inbox
  pub symbols : f.sender.symbols ≡ e.sender.symbols
  pub position : f.sender.position ≡ e.sender.position
  pub toggle : f.sender.toggle ≡ e.sender.toggle
  pub ready : f.sender.ready ≡ e.sender.ready
  pub loaded : f.sender.loaded ≡ e.sender.loaded
  pub counts : f.counts ≡ e.counts
  pub presence : f.presence ≡ e.presence
