-- Two records joined by two lines, each kept by a C program that lends it to the calls of include/simhadol.h. Lines,
-- events and what a host has are those of crate joined and of link/specs/Link.antt; here the ends are bytes, and a host
-- knows the replies alone. The delays are D slots from a to b and E slots from b to a.
--   Area, Areas   a record's bytes with the values that sending on it gave (newest first), its host, and the log; two
--                 of them
--   started r     an area with whatever bytes r, reset; both_started: two of them
--   done          a reply's answer is 0
--   hosted        an area after a host's call
--   sends         an area after it has sent; the log is by the end of its record
--   taking        an area after it has taken what arrives, one symbol or none
--   takes_from    an area after it has taken what the other one sent d slots ago
--   step, run     the areas after an event; after a list of events
--   ruled d       in a run every call of the host that takes the messages of direction d is by the rule
--   unmarked      no symbol that arrives at either area is marked
-- Assumes nothing.
use Rattle.std.specs.Prelude.{ℕ, Bool, List, [], ◌∷◌, eqb}
use Rattle.answer.specs.Number.{number_of}
use Rattle.end.specs.Calls.{Call}
use Rattle.recordspec.specs.Record.{end_of}
use Rattle.record.specs.declared.Reply.{Reply}
use Rattle.record.specs.Calls.{resetting}
use Rattle.record.specs.Runs.{called}
use Rattle.joined.specs.Joined.{Pair, Direction, step_by, run_by, every}
use Rattle.link.specs.Link.{Host, Log, reset_side, Access, read, write, health, present}
use Rattle.link.specs.Link.{message_in, did_read, read_log, accepts, stores, wrote, sent_log, arriving, enters_now, entering}
use Rattle.link.specs.Link.{Harm, Event, ruled_step}
use Rattle.link.specs.Demand.{unmarked_step}

pub record Area : Type 0 where
  pub bytes : List ℕ
  pub sent : List ℕ
  pub host : Host
  pub log : Log

abbrev pub Areas : Type 0
Areas = Pair Area

abbrev pub started : List ℕ → Area
started r = record {
  bytes = (resetting r).bytes;
  sent = [];
  host = reset_side.host;
  log = reset_side.log;
}

abbrev pub both_started : List ℕ → List ℕ → Areas
both_started p q = record { a = started p; b = started q }

-- Between slots

abbrev pub done : Reply → Bool
done p = eqb (number_of p.answer) 0

abbrev pub with_host : Area → List ℕ → Host → Area
with_host x r h = record { bytes = r; sent = x.sent; host = h; log = x.log }

abbrev pub hosted : Access → Area → Area
hosted (read r) x = record {
  bytes = (called (Call.read r) x.bytes).bytes;
  sent = x.sent;
  host = did_read r (called (Call.read r) x.bytes).reply.value x.host;
  log = read_log r x.log;
}
hosted (write r v l) x =
    with_host x (called (Call.write r v l) x.bytes).bytes
    (wrote (accepts r v (done (called (Call.write r v l) x.bytes).reply))
    (stores r (done (called (Call.write r v l) x.bytes).reply)) r v x.host)
hosted (health k) x = with_host x (called (Call.health k) x.bytes).bytes x.host
hosted present x = with_host x (called Call.present x.bytes).bytes x.host

-- In a slot

abbrev pub sends : Area → Area
sends x = record {
  bytes = (called Call.send x.bytes).bytes;
  sent = (called Call.send x.bytes).reply.value ∷ x.sent;
  host = x.host;
  log = sent_log (end_of x.bytes) x.log;
}

unfoldable pub taking : List ℕ → Area → Area
taking [] x = x
taking (y ∷ l) x = record {
  bytes = (called (Call.take y) x.bytes).bytes;
  sent = x.sent;
  host = x.host;
  log = entering (enters_now y (end_of x.bytes)) (message_in (end_of (called (Call.take y) x.bytes).bytes)) x.log;
}

-- Events and runs

abbrev pub takes_from : ℕ → Harm → Area → Area → Area
takes_from d h other x = taking (arriving d h other.sent) x

abbrev pub step : ℕ → ℕ → Event → Areas → Areas
step D E e w = step_by sends takes_from hosted D E e w

abbrev pub run : ℕ → ℕ → List Event → Areas → Areas
run D E es w = run_by (step D E) es w

abbrev pub ruled : Direction → ℕ → ℕ → List Event → Areas → Bool
ruled d D E es w = every (λ e w. ruled_step d e w.a.host w.b.host) (step D E) es w

abbrev pub unmarked : ℕ → ℕ → List Event → Areas → Bool
unmarked D E es w = every (λ e w. unmarked_step D E e (sends w.a).sent (sends w.b).sent) (step D E) es w
