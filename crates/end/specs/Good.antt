-- Answer 1 of document 01, the end after reset, and presence.
--   bad e         what answer 1 meets: a position or count above 11, a stored symbol above 511, a health above 3, a
--                 number above 15 or (request #107) a presence above 768
--   reset_of      everything 0, the sender ready, the position 0
--   present_of e  something is left of presence; no for an end that answer 1 meets
-- Assumes nothing.
use Rattle.std.specs.Prelude.{Bool, true, false, not, ◌&&◌, ◌||◌, ltb, replicate}
use Rattle.laws.specs.Above.{above}
use Rattle.end.specs.declared.End.{End}
use Rattle.receiver.specs.Counting.{no_counts}
use Rattle.receiver.specs.Presence.{lasting}

unfoldable pub bad : End → Bool
bad e =
    ltb 11 e.sender.position
    || (ltb 11 e.collector.count
    || (above 511 e.sender.symbols
    || (above 511 e.collector.symbols
    || (ltb 3 e.sender.health
    || (ltb 3 e.sender.loaded
    || (ltb 3 e.heard.health
    || (ltb 15 e.outbox.number
    || (ltb 15 e.inbox.number
    || ltb lasting e.presence))))))))

abbrev pub reset_of : End
reset_of = record {
  sender = record { symbols = replicate 12 0; position = 0; toggle = false; ready = true; health = 0; loaded = 0 };
  outbox = record {
    pending = false;
    toggle = false;
    received = false;
    confirmed = false;
    number = 0;
    ping = false;
    bytes = replicate 8 0;
  };
  collector = record { symbols = replicate 12 0; count = 0 };
  heard = record {
    health = 0;
    got = false;
    ping = false;
    valid = false;
    toggle = false;
    ack = false;
    togack = false;
  };
  inbox = record {
    expected = false;
    acknowledge = false;
    full = false;
    toggle = false;
    number = 0;
    bytes = replicate 8 0;
  };
  counts = no_counts;
  presence = 0;
}

unfoldable pub present_of : End → Bool
present_of e = not (bad e) && ltb 0 e.presence
