-- The runs of Cases.antt, and those that lead to each row of table 2, computed.
--   cases          what Cases.antt says of its runs
--   not_all_said   what word 0 says when the far host has not read the message
--   no_more, not_denied   the statements of specs/Status.antt
--   most_tight     and of specs/Tight.antt
-- Assumes nothing.
use Prim.{tt}
use native.Mathlib.Omega.{arith}
use mathlib.Core.Bool.{Bool, true, false, cond, false≢true}
use mathlib.Core.List.{List, [], ◌++◌}
use mathlib.Core.Path.{◌≡◌, refl, ap}
use lib.ListN.{length, length-append}
use Rattle.crc.specs.Bits.{odd}
use Rattle.fibre.specs.Good.{bad}
use Rattle.fibre.specs.Sending.{send_of}
use Rattle.fibre.specs.Taking.{take_of}
use Rattle.fibre.specs.Words.{read_of, write_of}
use Rattle.joined.specs.Joined.{a_to_b, run_by, every, slots}
use Rattle.fibrelink.specs.Link.{Message, Side, reset_world, taking, Event, run, ruled}
use Rattle.fibrelink.specs.Demand.{word_zero, none_bad, AllSaid}
use Rattle.fibrelink.specs.Tight.{crowding, MostTight}
use Rattle.fibrelink.specs.Cases.{Case, Request, Sent, Read, Second, Full, Held, Spoilt, Harmed, Delayed, Refused}
use Rattle.fibrelink.specs.Cases.{Told}
use Rattle.fibrelink.specs.Cases.{Ruled, Unharmed, Agree, table}
use Rattle.fibrelink.specs.Cases.{puts, first, reads, ok, at_far, at_near, after}
use Rattle.fibrelink.specs.Status.{Row, row_of, Reaches, NoMore, NotDenied}

pub cases : (c : Case) → Agree (table c)
unfolding table run_by every slots taking none_bad bad odd send_of take_of read_of write_of
cases Request = (refl, tt)
cases Sent = (refl, (refl, tt))
cases Read = (refl, (refl, (refl, (refl, (refl, tt)))))
cases Second = (refl, (refl, (refl, tt)))
cases Full = (refl, (refl, (refl, (refl, (refl, tt)))))
cases Held = (refl, (refl, tt))
cases Spoilt = (refl, (refl, (refl, (refl, (refl, tt)))))
cases Harmed = (refl, (refl, (refl, tt)))
cases Delayed = (refl, (refl, (refl, (refl, tt))))
cases Refused = (refl, (refl, (refl, tt)))
cases Told = (refl, tt)
cases Ruled = (refl, (refl, tt))
cases Unharmed = (refl, (refl, tt))

-- received and not read: not all is said, since MERT does not equal MSGT
not_all_said : AllSaid (word_zero (after 0 0 (first ++ (ok ++ ok))).a) → ⊥
unfolding run_by taking bad odd send_of take_of read_of write_of
not_all_said s = false≢true s.read

-- Table 2

asks : List Event
asks = puts 0x8000 (omega arith)

-- a message is sent, taken, and known to be
whole : List Event
whole = asks ++ (ok ++ (reads 9 ++ ok))

-- sent, and known to have entered
known : List Event
known = asks ++ (ok ++ ok)

-- behind the events es another message is requested, or not
behind : Bool → List Event → List Event
behind t es = es ++ cond t asks []

reach : {r : Row} {P : Side → Side → Type 0} (es : List Event) → ruled a_to_b 0 0 es reset_world ≡ true
    → (run 0 0 es reset_world).a.log.load_count ≡ 2 → row_of (word_zero (run 0 0 es reset_world).a) ≡ r
    → P (run 0 0 es reset_world).a (run 0 0 es reset_world).b → Reaches r P
reach es p q r s = record { D = 0; E = 0; events = es; by_rule = p; second = q; row_is = r; shows = s }

-- the second one has just so much true of it, and the first one
pub no_more : NoMore
unfolding run_by every taking bad odd send_of take_of read_of write_of asks whole known behind
no_more true true true = reach (behind true (whole ++ whole)) refl refl refl (omega arith, omega arith)
no_more true true false =
    reach (behind true (whole ++ known)) refl refl refl ((omega arith, omega arith), omega arith)
no_more true false true =
    reach (behind true (known ++ (asks ++ at_far))) refl refl refl (omega arith, (omega arith, omega arith))
no_more true false false = reach (behind true (whole ++ (asks ++ at_far))) refl refl refl (omega arith, omega arith)
no_more false true true = reach (behind false (whole ++ whole)) refl refl refl (omega arith, omega arith)
no_more false true false =
    reach (behind false (whole ++ known)) refl refl refl ((omega arith, omega arith), omega arith)
no_more false false true =
    reach (behind false (known ++ (asks ++ at_far))) refl refl refl (omega arith, (omega arith, omega arith))
no_more false false false = reach (behind false (whole ++ (asks ++ at_far))) refl refl refl (omega arith, omega arith)

-- it was taken, and what tells of it is on its way, or was spoilt
pub not_denied : NotDenied
unfolding run_by every taking bad odd send_of take_of read_of write_of asks whole known behind
not_denied true true true = reach (behind true (whole ++ whole)) refl refl refl (omega arith)
not_denied true true false = reach (behind true (whole ++ (known ++ reads 9))) refl refl refl (omega arith)
not_denied true false true =
    reach (behind true (known ++ (reads 9 ++ (asks ++ (at_near ++ reads 9))))) refl refl refl (omega arith)
not_denied true false false = reach (behind true (whole ++ (asks ++ (ok ++ reads 9)))) refl refl refl (omega arith)
not_denied false true true = reach (behind false (whole ++ whole)) refl refl refl (omega arith)
not_denied false true false = reach (behind false (whole ++ (known ++ reads 9))) refl refl refl (omega arith)
not_denied false false true =
    reach (behind false (known ++ (reads 9 ++ (asks ++ (at_near ++ reads 9))))) refl refl refl (omega arith)
not_denied false false false = reach (behind false (whole ++ (asks ++ (ok ++ reads 9)))) refl refl refl (omega arith)

-- Three messages held

crowded_ruled : ruled a_to_b 0 0 crowding reset_world ≡ true
unfolding run_by every taking bad odd send_of take_of read_of write_of
crowded_ruled = refl

-- how many of both
crowded_counts : (length (run 0 0 crowding reset_world).a.host.accepted ≡ 3)
    × (length (run 0 0 crowding reset_world).b.host.taken ≡ 0)
unfolding run_by taking bad odd send_of take_of read_of write_of
crowded_counts = (refl, refl)

pub most_tight : MostTight
most_tight h =
    let t = h a_to_b 0 0 crowding crowded_ruled (run 0 0 crowding reset_world) refl in
    let a = ap (λ (l : List Message). length l) t.whole in
    let b = length-append (run 0 0 crowding reset_world).b.host.taken t.rest in
    absurd (omega (arith, a, b, t.few, crowded_counts.0, crowded_counts.1))
