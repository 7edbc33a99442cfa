-- The receiving half at a symbol: settling, and where a frame is accepted, its message entering the register.
--   settled_filling   settling keeps what the receiving half says
--   heard_filling     an accepted frame is heard, and its message enters where it is the next one
-- Assumes nothing.
use Prim.Native.Nat.{ℕ, ◌+◌, ◌*◌, ◌≤◌, ◌<◌}
use mathlib.Core.Bool.{Bool, true, false}
use mathlib.Core.List.{List}
use mathlib.Core.Path.{◌≡◌, sym, ap, ◌∙◌, subst}
use native.Mathlib.Nat.{add-zero}
use lib.ListN.{length, get_or, length-append}
use Rattle.end.specs.declared.End.{End}
use Rattle.receiver.specs.declared.Heard.{Heard}
use Rattle.receiver.specs.declared.Inbox.{Inbox}
use Rattle.end.specs.Taking.{settled}
use Rattle.receiver.specs.Receiving.{said_by, enters, entered}
use Rattle.protocol.specs.Steps.{num}
use Rattle.protocol.proofs.Keeps.{Receiving, settle_receiving, enter_receiving, enters_next}
use Rattle.link.specs.Link.{Message, also}
use Rattle.link.proofs.Line.Words.{message_is}
use Rattle.link.proofs.Invariant.Views.{in_of}
use Rattle.link.proofs.Invariant.Logs.{part_more}
use Rattle.link.proofs.Invariant.OneWay.{no_message, Carries, message_at, Filling}

pub settled_filling : (e : End) {ha : ℕ} {acc ent : List Message} → ha ≤ length ent
    → Filling e.heard e.inbox acc ent ha → Filling e.heard (settled e) acc ent ha
settled_filling e h f = record {
  gone = f.gone;
  receiving = settle_receiving h f.receiving;
  register = f.register;
  entered_is = f.entered_is;
}

-- the twelve symbols l of a frame that was made when ackd were acknowledged
module _ {h : Heard} {i : Inbox} {ha : ℕ} {acc ent : List Message}
    (f : Filling h i acc ent ha) (l : List ℕ) (ackd : ℕ) (carries : Carries acc l ackd)
    (upto : ackd ≤ length ent) (newer : 2 * ha + num h.valid ≤ 2 * ackd + num (said_by l).valid) where
  next : enters true (said_by l) i ≡ true → (ackd ≡ length ent) × (f.gone ≡ length ent) × ((said_by l).valid ≡ true)
  next =
      enters_next ackd upto (said_by l).valid (said_by l).toggle (in_of i) carries.toggle newer f.receiving

  received : (b : Bool) → enters true (said_by l) i ≡ b
      → Receiving (length ent + num b) f.gone ackd (said_by l).valid (said_by l).toggle (in_of (entered b l i))
  received b e =
      subst (λ (b : Bool). Receiving (length ent + num b) f.gone ackd (said_by l).valid (said_by l).toggle
      (in_of (entered b l i))) e
      (enter_receiving ackd upto (said_by l).valid (said_by l).toggle (in_of i) carries.toggle newer f.receiving)

  pub heard_filling : (b : Bool) → enters true (said_by l) i ≡ b
      → Filling (said_by l) (entered b l i) acc (also b (message_at (entered b l i)) ent) ackd
  heard_filling true e = record {
    gone = f.gone;
    receiving = rw length-append (received true e);
    register = λ q. ap (λ (n : ℕ). get_or acc n no_message) (next e).1 ∙ message;
    entered_is =
        part_more no_message acc ent (message_is l) f.entered_is
        (subst (λ (n : ℕ). n < length acc) (next e).0 there.0)
        message;
  }
    where
      there : (ackd < length acc) × (get_or acc ackd no_message ≡ message_is l)
      there = carries.message (next e).2

      message : get_or acc (length ent) no_message ≡ message_is l
      message = ap (λ (n : ℕ). get_or acc n no_message) (sym (next e).0) ∙ there.1
  heard_filling false e = record {
    gone = f.gone;
    receiving = rw add-zero at (received false e);
    register = f.register;
    entered_is = f.entered_is;
  }
