-- Two fibre ends joined by two lines, each with its host. This page says what a run is; Demand.antt says what is
-- demanded of every run. Crate joined has what is the same for any kind of ends: directions, lines, events, and what a
-- host has.
-- A slot is a block each way; the delays are D blocks from a to b and E blocks from b to a.
--   Message       a control and eight words, 140 bits; message_in, message_out, message_of: the one in the receive words,
--                 in the transmit words, in a block
--   Host          what a host did and was answered
--   Log           what happens in an end, for the statements alone: messages loaded and entered, and how many times
--                 PHYT has changed
--   Side, World   an end with all that it has sent (newest first), its host and its log; two of them
--   reset_side, reset_world  before anything is called or sent
--   Access, hosted   what a host may call between slots; a side after such a call
--   ruled_call    the rule for taking a message: word 9 and, only if bit 15 is set, next of the receive words 10 to 17
--                 in that order; the last completes it. Word 9 again begins the take anew
--   gathered      what the receive words read so far make of a message
--   accepts, stores   a write that was answered 0, or not, accepts a message, stores one of its words
--   message_written  the message that a write to word 0 accepts: its control, and the words last written
--   differ        two bools are not the same
--   sends, sent_log  a side after it has sent; its log: TXREQ falls where a message is loaded
--   Arrival, Harm, harmed   what arrives: a block, marked bad or not. What happens on the way: nothing, or the block
--                 arrives marked bad, with any other content
--   arriving      what was sent d slots ago, as it arrives
--   taking, took_log  a side after it has taken that; its log: PHYT changes, and RXVAL rises where a message enters
--   takes_from    a side after it has taken what the other one sent d slots ago
--   Event, step, run   a slot, or one host's call; the world after it; after a list of events
--   ruled d       in a run every call of the host that takes the messages of direction d is by the rule
-- Assumes nothing.
use Rattle.std.specs.Prelude.{ℕ, suc, ◌-◌, ◌%◌, ◌<◌, Bool, true, false, not, cond, ◌&&◌, List, [], ◌∷◌, ◌++◌, map, eqb, replicate}
use Rattle.std.specs.Bool.{beq}
use Rattle.answer.specs.Number.{number_of}
use Rattle.fibre.specs.declared.Block.{Block}
use Rattle.fibre.specs.declared.End.{End}
use Rattle.fibre.specs.Good.{reset_of}
use Rattle.fibre.specs.Sending.{send_of}
use Rattle.fibre.specs.Taking.{take_of}
use Rattle.fibre.specs.Words.{read_of, write_of}
use Rattle.joined.specs.Joined.{HostOf, Pair, Direction, EventOf, also, within, bit15, may_read, did_read_of, wrote_of}
use Rattle.joined.specs.Joined.{due, step_by, run_by, every, ruled_by}

pub record Message : Type 0 where
  pub control : ℕ
  pub words : List ℕ

abbrev pub message_out : End → Message
message_out e = record { control = e.transmit.control; words = e.transmit.words }

abbrev pub message_of : Block → Message
message_of b = record { control = b.control; words = b.words }

abbrev pub message_in : End → Message
message_in e = record { control = e.receive.control; words = e.receive.words }

abbrev pub Host : Type 0
Host = HostOf Message

pub record Log : Type 0 where
  pub load_count : ℕ
  pub ack_count : ℕ
  pub entered : List Message

pub record Side : Type 0 where
  pub end : End
  pub sent : List Block
  pub host : Host
  pub log : Log

abbrev pub World : Type 0
World = Pair Side

abbrev pub reset_side : Side
reset_side = record {
  end = reset_of;
  sent = [];
  host = record {
    written = replicate 8 0;
    stage = 0;
    so_far = record { control = 0; words = [] };
    accepted = [];
    taken = [];
  };
  log = record { load_count = 0; ack_count = 0; entered = [] };
}

abbrev pub reset_world : World
reset_world = record { a = reset_side; b = reset_side }

-- Between slots: a host's call

pub data Access : Type 0 where
  read : ℕ → Access
  write : (w v : ℕ) → v < 65536 → Access

abbrev pub ruled_call : Access → Host → Bool
ruled_call (read w) h = may_read 9 17 h.stage w
ruled_call (write w v l) h = true

-- word w gave the value v: word 9 the control, each of the others a word
abbrev pub gathered : ℕ → ℕ → Message → Message
gathered w v m = record {
  control = cond (eqb w 9) (v % 4096) m.control;
  words = cond (eqb w 9) [] (m.words ++ (v ∷ []));
}

-- a write of v to word 0 with bit 15, answered 0 (done), accepts a message
abbrev pub accepts : ℕ → ℕ → Bool → Bool
accepts w v done = eqb w 0 && (bit15 v && done)

abbrev pub stores : ℕ → Bool → Bool
stores w done = within 1 8 w && done

abbrev pub message_written : ℕ → Host → Message
message_written v h = record { control = v % 4096; words = h.written }

-- what the end e answers
abbrev pub answered0 : ℕ → ℕ → End → Bool
answered0 w v e = eqb (number_of (write_of e w v).answer) 0

abbrev pub accepts_now : ℕ → ℕ → End → Bool
accepts_now w v e = accepts w v (answered0 w v e)

abbrev pub with_host : Side → End → Host → Side
with_host s e h = record { end = e; sent = s.sent; host = h; log = s.log }

abbrev pub hosted : Access → Side → Side
hosted (read w) s =
    with_host s (read_of s.end w).end (did_read_of 9 17 gathered w (read_of s.end w).value s.host)
hosted (write w v l) s =
    with_host s (write_of s.end w v).end
    (wrote_of (accepts_now w v s.end) (stores w (answered0 w v s.end)) (message_written v s.host) (w - 1) v
    s.host)

-- In a slot

-- e is the end before, f the end after
abbrev pub sent_log : End → End → Log → Log
sent_log e f g = record {
  load_count = cond (e.transmit.txreq && not f.transmit.txreq) (suc g.load_count) g.load_count;
  ack_count = g.ack_count;
  entered = g.entered;
}

abbrev pub sends : Side → Side
sends s = record {
  end = (send_of s.end).end;
  sent = (send_of s.end).block ∷ s.sent;
  host = s.host;
  log = sent_log s.end (send_of s.end).end s.log;
}

pub record Arrival : Type 0 where
  pub marked : Bool
  pub block : Block

pub data Harm : Type 0 where
  sound : Harm
  spoilt : Block → Harm

abbrev pub harmed : Harm → Block → Arrival
harmed sound b = record { marked = false; block = b }
harmed (spoilt c) b = record { marked = true; block = c }

abbrev pub arriving : ℕ → Harm → List Block → List Arrival
arriving d h sent = map (harmed h) (due d sent)

abbrev pub differ : Bool → Bool → Bool
differ p q = not (beq p q)

abbrev pub took_log : End → End → Log → Log
took_log e f g = record {
  load_count = g.load_count;
  ack_count = cond (differ e.transmit.phyt f.transmit.phyt) (suc g.ack_count) g.ack_count;
  entered = also (not e.receive.rxval && f.receive.rxval) (message_in f) g.entered;
}

abbrev pub takes : Arrival → Side → Side
takes y s = record {
  end = (take_of s.end y.marked y.block).end;
  sent = s.sent;
  host = s.host;
  log = took_log s.end (take_of s.end y.marked y.block).end s.log;
}

unfoldable pub taking : List Arrival → Side → Side
taking [] s = s
taking (y ∷ l) s = takes y s

abbrev pub takes_from : ℕ → Harm → Side → Side → Side
takes_from d h other s = taking (arriving d h other.sent) s

-- Events and runs

abbrev pub Event : Type 0
Event = EventOf Harm Access

abbrev pub step : ℕ → ℕ → Event → World → World
step D E e w = step_by sends takes_from hosted D E e w

abbrev pub run : ℕ → ℕ → List Event → World → World
run D E es w = run_by (step D E) es w

abbrev pub ruled : Direction → ℕ → ℕ → List Event → World → Bool
ruled d D E es w = every (λ e w. ruled_by ruled_call d e w.a.host w.b.host) (step D E) es w
