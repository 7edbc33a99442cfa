-- Two ends joined by two lines, each with its host. This page says what a run is; Demand.antt says what is demanded of
-- every run. Crate joined has what is the same for any kind of ends: directions, lines, events, and what a host has.
-- The delays are D slots from a to b and E slots from b to a.
--   Message       a number and eight bytes, of crate end; message_in: the one in the receive register
--   Host          what a host did and was answered
--   Log           what happens in an end, for the statements alone: messages loaded, acknowledged, entered, and how
--                 many were acknowledged when 3.2308 was last read
--   Side, World   an end with all that it has sent (newest first), its host and its log; two of them
--   reset_side, reset_world  before anything is called or sent
--   Access, hosted   what a host may call between slots; a side after such a call, written: after a write; with_host,
--                 with another end and host
--   ruled_call    the rule for taking a message; Rule.antt says it in document 01's words
--   receive_side, message_side  of a register number
--   bytes_of       the bytes of several values, of each the two halves, 7:0 first
--   gathered, advance   what a host has after a receive_side read
--   did_read, read_log  what a host has after a read; the log
--   accepts, stores   a write that was answered 0, or not, accepts a message, stores message bytes
--   message_written, wrote  the message that a write accepts; what a host has after a write
--   answered0, accepts_now  an end answers a write 0, and accepts a message by it
--   acks_now, loads_now, enters_now  a message is acknowledged, loaded, and enters
--   sends         a side after it has sent; sent_log: its log
--   Harm, harmed  what happens to a symbol on its way: nothing, or a mark, any value from 512 to 1,023; what arrives
--                 then
--   arriving, taking, entering   what arrives, one symbol or none; a side after it has taken that; its log
--   takes_from    a side after it has taken what the other one sent d slots ago
--   Event, step, run   a slot, or one host's call; the world after it; after a list of events
--   ruled d       in a run every call of the host that takes the messages of direction d is by the rule; ruled_step:
--                 in one event
-- Assumes nothing.
use Rattle.std.specs.Prelude.{ℕ, ◌+◌, ◌-◌, ◌/◌, ◌%◌, ◌≤◌, ◌<◌, Bool, true, cond, ◌&&◌, List, [], ◌∷◌, ◌++◌, map, eqb, replicate}
use Rattle.answer.specs.Number.{number_of}
pub use Rattle.weights.specs.Weights.{halves}
use Rattle.end.specs.declared.End.{End}
pub use Rattle.end.specs.Message.{Message}
use Rattle.end.specs.Good.{reset_of}
use Rattle.end.specs.Sending.{acked, step_one, loads, send_of}
use Rattle.receiver.specs.Receiving.{said_by, placed, enters, accepts as accepts_frame}
use Rattle.end.specs.Taking.{settled, take_of}
use Rattle.end.specs.Registers.{read_of, write_of, health_of}
use Rattle.joined.specs.Joined.{HostOf, within, may_read, advance_of, did_read_of, wrote_of, due, step_by, ruled_by}
pub use Rattle.joined.specs.Joined.{Pair, Direction, a_to_b, b_to_a, near, far, EventOf, slot, at_a, at_b, also, bit15}
unfoldable pub use Rattle.joined.specs.Joined.{run_by, every}

abbrev pub Host : Type 0
Host = HostOf Message

pub record Log : Type 0 where
  pub load_count : ℕ
  pub ack_count : ℕ
  pub seen_count : ℕ
  pub entered : List Message

pub record Side : Type 0 where
  pub end : End
  pub sent : List ℕ
  pub host : Host
  pub log : Log

abbrev pub World : Type 0
World = Pair Side

abbrev pub reset_side : Side
reset_side = record {
  end = reset_of;
  sent = [];
  host = record {
    written = replicate 4 0;
    stage = 0;
    so_far = record { number = 0; bytes = [] };
    accepted = [];
    taken = [];
  };
  log = record { load_count = 0; ack_count = 0; seen_count = 0; entered = [] };
}

abbrev pub reset_world : World
reset_world = record { a = reset_side; b = reset_side }

abbrev pub message_in : End → Message
message_in e = record { number = e.inbox.number; bytes = e.inbox.bytes }

-- Between slots: a host's call

pub data Access : Type 0 where
  read : ℕ → Access
  write : (r v : ℕ) → v < 65536 → Access
  health : ℕ → Access
  present : Access

abbrev pub receive_side : ℕ → Bool
receive_side r = within 2313 2317 r

abbrev pub message_side : ℕ → Bool
message_side r = within 2309 2312 r

-- at stage n of a take a host reads 3.2313 + n next of its receive_side registers, or 3.2313, which begins anew; all
-- other calls are free
abbrev pub ruled_call : Access → Host → Bool
ruled_call (read r) h = may_read 2313 2317 h.stage r
ruled_call (write r v l) h = true
ruled_call (health k) h = true
ruled_call present h = true

unfoldable pub bytes_of : List ℕ → List ℕ
bytes_of [] = []
bytes_of (v ∷ l) = halves v ++ bytes_of l

-- register r gave the value v: 3.2313 the number, each of the others two bytes
abbrev pub gathered : ℕ → ℕ → Message → Message
gathered r v m = record {
  number = cond (eqb r 2313) (v / 256 % 16) m.number;
  bytes = cond (eqb r 2313) [] (m.bytes ++ halves v);
}

-- 3.2313 begins a take where bit 15 is set, 3.2317 completes it
abbrev pub advance : ℕ → ℕ → Host → Host
advance r v h = advance_of 2313 2317 gathered r v h

-- register r gave the value v; a register that is not there gives none, and is not of the receive side
abbrev pub did_read : ℕ → ℕ → Host → Host
did_read r v h = did_read_of 2313 2317 gathered r v h

-- reading 3.2308 shows what was acknowledged by then
abbrev pub read_log : ℕ → Log → Log
read_log r g = record {
  load_count = g.load_count;
  ack_count = g.ack_count;
  seen_count = cond (eqb r 2308) g.ack_count g.seen_count;
  entered = g.entered;
}

-- a write of v to 3.2308 with bit 15, answered 0 (done), accepts a message
abbrev pub accepts : ℕ → ℕ → Bool → Bool
accepts r v done = eqb r 2308 && (bit15 v && done)

abbrev pub stores : ℕ → Bool → Bool
stores r done = message_side r && done

-- its number is bits 11:8 of the value, its bytes are those last written
abbrev pub message_written : ℕ → Host → Message
message_written v h = record { number = v / 256 % 16; bytes = bytes_of h.written }

-- v was written to register r: it accepts a message where a, and stores message bytes where s
abbrev pub wrote : Bool → Bool → ℕ → ℕ → Host → Host
wrote a s r v h = wrote_of a s (message_written v h) (r - 2309) v h

-- what the end e answers
abbrev pub answered0 : ℕ → ℕ → End → Bool
answered0 r v e = eqb (number_of (write_of e r v).answer) 0

abbrev pub accepts_now : ℕ → ℕ → End → Bool
accepts_now r v e = accepts r v (answered0 r v e)

abbrev pub with_host : Side → End → Host → Side
with_host s e h = record { end = e; sent = s.sent; host = h; log = s.log }

abbrev pub written : ℕ → ℕ → Side → Side
written r v s =
    with_host s (write_of s.end r v).end
    (wrote (accepts_now r v s.end) (stores r (answered0 r v s.end)) r v s.host)

abbrev pub hosted : Access → Side → Side
hosted (read r) s = record {
  end = (read_of s.end r).end;
  sent = s.sent;
  host = did_read r (read_of s.end r).value s.host;
  log = read_log r s.log;
}
hosted (write r v l) s = written r v s
hosted (health k) s = with_host s (health_of s.end k).end s.host
hosted present s = s

-- In a slot

-- where a frame is made, step 1 may act on an acknowledgement, and step 3 may load a message
abbrev pub acks_now : End → Bool
acks_now e = eqb e.sender.position 0 && acked e

abbrev pub loads_now : End → Bool
loads_now e = eqb e.sender.position 0 && loads (step_one (acked e) e)

-- the log when the end e sends
abbrev pub sent_log : End → Log → Log
sent_log e g = record {
  load_count = cond (loads_now e) (g.load_count + 1) g.load_count;
  ack_count = cond (acks_now e) (g.ack_count + 1) g.ack_count;
  seen_count = g.seen_count;
  entered = g.entered;
}

abbrev pub sends : Side → Side
sends s = record {
  end = (send_of s.end).end;
  sent = (send_of s.end).symbol ∷ s.sent;
  host = s.host;
  log = sent_log s.end s.log;
}

pub data Harm : Type 0 where
  sound : Harm
  mark : (v : ℕ) → 512 ≤ v → v < 1024 → Harm

abbrev pub harmed : Harm → ℕ → ℕ
harmed sound y = y
harmed (mark v l h) y = v

-- what was sent d slots ago; nothing where nothing was
abbrev pub arriving : ℕ → Harm → List ℕ → List ℕ
arriving d h sent = map (harmed h) (due d sent)

-- the symbol y brings a message into the receive register
abbrev pub enters_now : ℕ → End → Bool
enters_now y e = enters (accepts_frame y e.collector) (said_by (placed y e.collector)) (settled e)

abbrev pub entering : Bool → Message → Log → Log
entering b m g = record {
  load_count = g.load_count;
  ack_count = g.ack_count;
  seen_count = g.seen_count;
  entered = also b m g.entered;
}

unfoldable pub taking : List ℕ → Side → Side
taking [] s = s
taking (y ∷ l) s = record {
  end = (take_of s.end y).end;
  sent = s.sent;
  host = s.host;
  log = entering (enters_now y s.end) (message_in (take_of s.end y).end) s.log;
}

-- Events and runs

abbrev pub Event : Type 0
Event = EventOf Harm Access

abbrev pub takes_from : ℕ → Harm → Side → Side → Side
takes_from d h other s = taking (arriving d h other.sent) s

-- in a slot both send, then both take what arrives
abbrev pub step : ℕ → ℕ → Event → World → World
step D E e w = step_by sends takes_from hosted D E e w

abbrev pub run : ℕ → ℕ → List Event → World → World
run D E es w = run_by (step D E) es w

-- a is a's host, b is b's
abbrev pub ruled_step : Direction → Event → Host → Host → Bool
ruled_step d e a b = ruled_by ruled_call d e a b

abbrev pub ruled : Direction → ℕ → ℕ → List Event → World → Bool
ruled d D E es w = every (λ e w. ruled_step d e w.a.host w.b.host) (step D E) es w
