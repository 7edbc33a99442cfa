-- The invariant of a run, one way: the messages of near on their way to far.
--   no_message    what stands where no message does
--   Carries, DataOk       what a frame of near carries, made when ackd were acknowledged: its Toggle, and where Valid
--                         is set, that message
--   Acknowledges, AckOk   what a frame of far acknowledges, made when ent had entered
--   Holding       the sending half of near, what is pending and what is in the sender: HoldingBy, of its parts
--   message_at    the message that stands in a receive register
--   Filling       the receiving half of far; the frame that it heard last was made when ha were acknowledged
--   Onward, Back  the frames on the two lines; those older than D, E slots have arrived
--   Way           all of it; he had entered when the frame that near heard last was made
--   onward_push, back_push     one cell more on a line: none of those that have arrived
--   onward_older, back_older   one cell more has arrived, and nothing of it is heard yet
--   back_later    more are acknowledged
-- Assumes nothing.
use Prim.Native.Nat.{ℕ, zero, suc, ◌+◌, ◌-◌, ◌*◌, ◌%◌, ◌≤◌, ◌<◌}
use mathlib.Core.Bool.{Bool, true, false, not}
use mathlib.Core.List.{List, [], ◌∷◌}
use mathlib.Core.Path.{◌≡◌}
use native.Mathlib.Nat.{le_trans}
use native.Mathlib.Omega.{arith}
use lib.ListN.{length, get_or, take}
use Rattle.frame.specs.Frame.{build}
use Rattle.end.specs.declared.End.{End}
use Rattle.receiver.specs.declared.Heard.{Heard}
use Rattle.receiver.specs.declared.Inbox.{Inbox}
use Rattle.end.specs.Sending.{old_valid}
use Rattle.receiver.specs.Receiving.{said_by}
use Rattle.protocol.specs.Steps.{num, Out}
use Rattle.protocol.proofs.Keeps.{Sending, Hearing, Receiving}
use Rattle.link.specs.Link.{Message, Side}
use Rattle.link.specs.Demand.{message_out, message_sent}
use Rattle.link.proofs.Line.Words.{message_is}
use Rattle.link.proofs.Line.{Frame, Cell, frame_at, rank, Line}
use Rattle.link.proofs.Invariant.Views.{out_of, in_of}

abbrev pub no_message : Message
no_message = record { number = 0; bytes = [] }

pub record Carries (acc : List Message) (l : List ℕ) (ackd : ℕ) : Type 0 where
  pub toggle : num (said_by l).toggle ≡ ackd % 2
  pub message : (said_by l).valid ≡ true → (ackd < length acc) × (get_or acc ackd no_message ≡ message_is l)

pub record Acknowledges (ackd : ℕ) (l : List ℕ) (ent : ℕ) : Type 0 where
  pub upto : ent ≤ ackd + num (said_by l).ack
  pub some : num (said_by l).ack ≤ ent
  pub toggle : num (said_by l).togack ≡ (ent - 1) % 2

abbrev pub DataOk : List Message → Frame → Type 0
DataOk acc f = Carries acc (build f.ten) f.ack_count

abbrev pub AckOk : ℕ → Frame → Type 0
AckOk ackd f = Acknowledges ackd (build f.ten) f.enter_count

-- o is the sending half; v is the Valid of the frame being sent, in_frame the message in it; out stands in the
-- registers
pub record HoldingBy (o : Out) (v : Bool) (out in_frame : Message) (acc : List Message) (ld ackd : ℕ) : Type 0 where
  pub sending : Sending (length acc) ld ackd o
  pub valid : v ≡ not o.ready
  pub pending : o.pending ≡ true → get_or acc ld no_message ≡ out
  pub sent : o.ready ≡ false → get_or acc ackd no_message ≡ in_frame

abbrev pub Holding : End → List Message → ℕ → ℕ → Type 0
Holding e acc ld ackd = HoldingBy (out_of e) (old_valid e) (message_out e) (message_sent e) acc ld ackd

abbrev pub message_at : Inbox → Message
message_at i = record { number = i.number; bytes = i.bytes }

-- ent entered, of which `gone` have left the register
pub record Filling (h : Heard) (i : Inbox) (acc ent : List Message) (ha : ℕ) : Type 0 where
  pub gone : ℕ
  pub receiving : Receiving (length ent) gone ha h.valid h.toggle (in_of i)
  pub register : i.full ≡ true → get_or acc gone no_message ≡ message_at i
  pub entered_is : ent ≡ take (length ent) acc

pub record Onward (cn : List Cell) (D : ℕ) (acc : List Message) (ackd ld ha : ℕ) (valid : Bool) : Type 0 where
  pub newest : rank (frame_at cn 0) ≡ ackd + ld
  pub heard : 2 * ha + num valid ≤ rank (frame_at cn D)
  pub frames : (i : ℕ) → DataOk acc (frame_at cn i)

pub record Back (cf : List Cell) (E ackd ent he : ℕ) : Type 0 where
  pub newest : (frame_at cf 0).enter_count ≤ ent
  pub heard : he ≤ (frame_at cf E).enter_count
  pub frames : (i : ℕ) → AckOk ackd (frame_at cf i)

pub record Way (near far : Side) (cn cf : List Cell) (D E he : ℕ) : Type 0 where
  pub ha : ℕ
  pub holding : Holding near.end near.host.accepted near.log.load_count near.log.ack_count
  pub filling : Filling far.end.heard far.end.inbox near.host.accepted far.log.entered ha
  pub hearing : Hearing near.log.ack_count he near.end.heard.ack near.end.heard.togack
  pub order : length far.log.entered ≤ near.log.load_count
  pub onward : Onward cn D near.host.accepted near.log.ack_count near.log.load_count ha
      far.end.heard.valid
  pub back : Back cf E near.log.ack_count (length far.log.entered) he

pub onward_push : {cn : List Cell} {D ackd ld ha : ℕ} {acc : List Message} {valid : Bool}
    → Onward cn D acc ackd ld ha valid → (c : Cell) (ackd' ld' : ℕ) → rank c.frame ≡ ackd' + ld'
    → DataOk acc c.frame
    → Onward (c ∷ cn) (suc D) acc ackd' ld' ha valid
onward_push {cn} {acc = acc} o c ackd' ld' r d = record { newest = r; heard = o.heard; frames = frames }
  where
    frames : (i : ℕ) → DataOk acc (frame_at (c ∷ cn) i)
    frames zero = d
    frames (suc i) = o.frames i

pub back_push : {cf : List Cell} {E ackd ent he : ℕ} → Back cf E ackd ent he → (c : Cell) → c.frame.enter_count ≤ ent
    → AckOk ackd c.frame → Back (c ∷ cf) (suc E) ackd ent he
back_push {cf} {ackd = ackd} b c n k = record { newest = n; heard = b.heard; frames = frames }
  where
    frames : (i : ℕ) → AckOk ackd (frame_at (c ∷ cf) i)
    frames zero = k
    frames (suc i) = b.frames i

pub onward_older : {cn : List Cell} {D ackd ld ha : ℕ} {acc : List Message} {valid : Bool} → Line cn
    → Onward cn (suc D) acc ackd ld ha valid → Onward cn D acc ackd ld ha valid
onward_older {D = D} line o = record {
  newest = o.newest;
  heard = le_trans o.heard (line.ranks D);
  frames = o.frames;
}

pub back_older : {cf : List Cell} {E ackd ent he : ℕ} → Line cf → Back cf (suc E) ackd ent he → Back cf E ackd ent he
back_older {E = E} line b = record {
  newest = b.newest;
  heard = le_trans b.heard (line.entries E);
  frames = b.frames;
}

pub back_later : {cf : List Cell} {E ackd ent he : ℕ} → Back cf E ackd ent he → (ackd' : ℕ) → ackd ≤ ackd'
    → Back cf E ackd' ent he
back_later {cf} {ackd = ackd} b ackd' h = record { newest = b.newest; heard = b.heard; frames = λ i. later i }
  where
    wider : (x p q r : ℕ) → x ≤ p + q → p ≤ r → x ≤ r + q
    wider x p q r e f = omega arith

    later : (i : ℕ) → AckOk ackd' (frame_at cf i)
    later i =
        let k = b.frames i in
        record { upto = wider _ ackd _ ackd' k.upto h; some = k.some; toggle = k.toggle }
