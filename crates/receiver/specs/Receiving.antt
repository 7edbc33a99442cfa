-- Document 01, "Taking, one symbol", over the parts of the receiving side.
--   releases h i   step 1's test: the last accepted frame had Valid 0, or the acknowledge is 0
--   settled_by h i  step 1: the receive register with expected toggle and acknowledge settled
--   completes s c  the symbol s is the twelfth of the collection c
--   placed, count_with, collected  step 2, and the emptying of step 3: the collection's symbols, its count, both
--   said_by l      what the twelve symbols l say
--   accepts s c    step 3's test: the twelfth symbol, and the CRC is right
--   ended_by s n l  request #105: what becomes with the symbol s of a collection of n symbols, l being its symbols then
--   reason_by s c  that of the collection c
--   enters, entered   step 3's second test: the register empty, Valid 1, Toggle the expected one; and the entering
--   Outcome, steps_of   the three steps, with what became of the collection counted (request #106), and presence begun anew
--                  or one symbol older (request #107)
-- Assumes nothing.
use Rattle.std.specs.Prelude.{ℕ, ◌+◌, ◌/◌, ◌%◌, Bool, true, false, not, cond, ◌&&◌, ◌||◌, List, map, eqb, get_or, set, take, drop}
use Rattle.std.specs.Bool.{beq}
use Rattle.crc.specs.Bits.{odd}
use Rattle.frame.specs.declared.reason.Reason.{Reason}
use Rattle.frame.specs.declared.reason.Reason.TheVariants.{Nothing, Accepted, Crc, Marked, Parity}
use Rattle.frame.specs.Frame.{data_of, marked, even, crc_right}
use Rattle.receiver.specs.declared.Collector.{Collector}
use Rattle.receiver.specs.declared.Heard.{Heard}
use Rattle.receiver.specs.declared.Inbox.{Inbox}
use Rattle.receiver.specs.declared.Counts.{Counts}
use Rattle.receiver.specs.Counting.{tallied}
use Rattle.receiver.specs.Presence.{left_after}

-- 1. Settle
abbrev pub releases : Heard → Inbox → Bool
releases h i = not h.valid || not i.acknowledge

abbrev pub settle : Bool → Bool → Inbox → Inbox
settle r toggle i = record {
  expected = cond r toggle i.expected;
  acknowledge = cond r false i.acknowledge;
  full = i.full;
  toggle = i.toggle;
  number = i.number;
  bytes = i.bytes;
}

abbrev pub settled_by : Heard → Inbox → Inbox
settled_by h i = settle (releases h i) h.toggle i

-- 2. Collect
abbrev pub completes : ℕ → Collector → Bool
completes s c = not (marked s) && (not (even s) && eqb c.count 11)

abbrev pub placed : ℕ → Collector → List ℕ
placed s c =
    cond (marked s) c.symbols
    (cond (even s) (set c.symbols 0 s)
    (cond (eqb c.count 0) c.symbols
    (set c.symbols c.count s)))

abbrev pub count_with : ℕ → Collector → ℕ
count_with s c =
    cond (marked s) 0
    (cond (even s) 1
    (cond (eqb c.count 0) 0
    (cond (eqb c.count 11) 0
    (c.count + 1))))

abbrev pub collected : ℕ → Collector → Collector
collected s c = record { symbols = placed s c; count = count_with s c }

-- 3. With the twelfth symbol
abbrev pub said_by : List ℕ → Heard
said_by l = record {
  health = get_or l 0 0 % 4;
  got = odd (get_or l 0 0 / 8);
  ping = odd (get_or l 0 0 / 4);
  valid = odd (get_or l 1 0 / 128);
  toggle = odd (get_or l 1 0 / 64);
  ack = odd (get_or l 1 0 / 32);
  togack = odd (get_or l 1 0 / 16);
}

abbrev pub accepts : ℕ → Collector → Bool
accepts s c = completes s c && crc_right (placed s c)

-- an empty collection cannot be broken; a mark breaks any other, an even symbol comes early
abbrev pub ended_by : ℕ → ℕ → List ℕ → Reason
ended_by s n l =
    cond (eqb n 0) Nothing
    (cond (marked s) (Marked n)
    (cond (even s) (Parity n)
    (cond (eqb n 11) (cond (crc_right l) Accepted Crc)
    Nothing)))

abbrev pub reason_by : ℕ → Collector → Reason
reason_by s c = ended_by s c.count (placed s c)

-- one of two, field by field
abbrev pub pick_heard : Bool → Heard → Heard → Heard
pick_heard b x y = record {
  health = cond b x.health y.health;
  got = cond b x.got y.got;
  ping = cond b x.ping y.ping;
  valid = cond b x.valid y.valid;
  toggle = cond b x.toggle y.toggle;
  ack = cond b x.ack y.ack;
  togack = cond b x.togack y.togack;
}

abbrev pub enters : Bool → Heard → Inbox → Bool
enters accepted h i = accepted && (not i.full && (h.valid && beq h.toggle i.expected))

-- number, bytes and toggle enter the receive register together
abbrev pub entered : Bool → List ℕ → Inbox → Inbox
entered b l i = record {
  expected = cond b (not (said_by l).toggle) i.expected;
  acknowledge = cond b true i.acknowledge;
  full = cond b true i.full;
  toggle = cond b (said_by l).toggle i.toggle;
  number = cond b (get_or l 1 0 % 16) i.number;
  bytes = cond b (map data_of (take 8 (drop 2 l))) i.bytes;
}

-- the three steps: what became of the collection, and the parts as they are then
pub record Outcome : Type 0 where
  pub reason : Reason
  pub collector : Collector
  pub heard : Heard
  pub inbox : Inbox
  pub counts : Counts
  pub presence : ℕ

abbrev pub steps_of : ℕ → Collector → Heard → Inbox → Counts → ℕ → Outcome
steps_of s c h i k left = record {
  reason = reason_by s c;
  collector = collected s c;
  heard = pick_heard (accepts s c) (said_by (placed s c)) h;
  inbox = entered (enters (accepts s c) (said_by (placed s c)) (settled_by h i)) (placed s c) (settled_by h i);
  counts = tallied (reason_by s c) k;
  presence = left_after (accepts s c) left;
}
