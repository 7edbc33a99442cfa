-- A frame is made: what it says, and what the sending half holds after it.
--   one_more         a count that goes up by one, or not
--   Makes            an end that is about to make a frame
--   made_long, made_says   its length, and its words
--   acked_is         all that the frame last heard acknowledges is acknowledged by it
--   made_first       the sending half after step 1
--   made_holding     the sending half after steps 1 to 4
--   made_rank, made_data, made_ack   what the frame carries and acknowledges
-- Assumes nothing.
use Prim.Native.Nat.{ℕ, ◌+◌, ◌*◌, ◌≤◌, ◌<◌}
use mathlib.Core.Bool.{Bool, true, false, not, cond, false≢true, true≢false}
use mathlib.Core.List.{List}
use mathlib.Core.Path.{◌≡◌, refl, sym, ap, ◌∙◌}
use native.Mathlib.Nat.{add-zero, zero-add, add_comm}
use native.Mathlib.Omega.{arith}
use lib.ListN.{length, get_or, take, drop, length-map, length-take, length-drop}
use Rattle.frame.specs.Frame.{build}
use Rattle.end.specs.declared.End.{End}
use Rattle.end.specs.Good.{bad}
use Rattle.laws.specs.Above.{above}
use Rattle.end.specs.Sending.{acked, step_one, loads, old_valid, old_number, old_bytes, frame_start, moved_on, started}
use Rattle.end.specs.Shape.{Shaped}
use Rattle.laws.proofs.Bools.{and_both}
use Rattle.frame.proofs.FrameLaws.{above_data}
use Rattle.endlaws.proofs.Shapes.{ten_length}
use Rattle.endlaws.proofs.Goods.{good}
use Rattle.protocol.specs.Steps.{num}
use Rattle.protocol.proofs.Keeps.{Sending, Hearing, Receiving, acks_heard, step_one_sending, step_three_sending}
use Rattle.protocol.proofs.Keeps.{valid_sent, valid_counts, sent_below, acknowledge_made}
use Rattle.link.specs.Link.{Message}
use Rattle.link.specs.Demand.{message_out, message_sent}
use Rattle.link.proofs.Line.Words.{said, message_is, Says, word_says, bytes_built}
use Rattle.link.proofs.Line.{Frame, rank}
use Rattle.link.proofs.Line.Sent.{ten_of}
use Rattle.link.proofs.Invariant.Views.{out_of, in_of}
use Rattle.link.proofs.Invariant.OneWay.{no_message, DataOk, AckOk, Holding}

one_more : (b : Bool) (n : ℕ) → cond b (n + 1) n ≡ num b + n
one_more true n = omega arith
one_more false n = omega arith

pub record Makes (e : End) (acc : List Message) (ld ackd he : ℕ) : Type 0 where
  pub fine : bad e ≡ false
  pub shaped : Shaped e
  pub holding : Holding e acc ld ackd
  pub hearing : Hearing ackd he e.heard.ack e.heard.togack
  pub upto : he ≤ ld

module _ {e : End} {acc : List Message} {ld ackd he : ℕ} (m : Makes e acc ld ackd he) where
  abbrev one : End
  one = step_one (acked e) e

  pub made_long : length (ten_of e) ≡ 10
  made_long = ten_length (acked e) (loads one) one m.shaped.eight_out m.shaped.sending

  number_below : (l : Bool) → cond l e.outbox.number (old_number e) ≤ 15
  number_below true = (good e m.fine).number
  number_below false = omega arith

  made_says : Says (ten_of e) (cond (loads one) true (cond (acked e) false (old_valid e))) one.sender.toggle
      e.inbox.acknowledge e.inbox.toggle (cond (loads one) e.outbox.number (old_number e))
  made_says = word_says (ten_of e) _ _ _ _ _ made_long (number_below (loads one)) refl

  bytes_long : (l : Bool) → length (cond l e.outbox.bytes (old_bytes e)) ≡ 8
  bytes_long true = m.shaped.eight_out
  bytes_long false = simp (length-map, length-take, length-drop) (omega (arith, m.shaped.sending))

  bytes_below : (l : Bool) → above 255 (cond l e.outbox.bytes (old_bytes e)) ≡ false
  bytes_below true = m.shaped.bytes_out
  bytes_below false = above_data (take 8 (drop 2 e.sender.symbols))

  -- the message in the frame: the pending one where it is loaded, else the one that stood in the frame before
  made_message : (l : Bool) → loads one ≡ l → message_is (build (ten_of e)) ≡ cond l (message_out e) (message_sent e)
  made_message l h = by l number_is bytes_is
    where
      number_is : (message_is (build (ten_of e))).number ≡ cond l e.outbox.number (old_number e)
      number_is = made_says.number ∙ ap (λ (b : Bool). cond b e.outbox.number (old_number e)) h

      bytes_is : (message_is (build (ten_of e))).bytes ≡ cond l e.outbox.bytes (old_bytes e)
      bytes_is =
          bytes_built _ _ _ (bytes_long (loads one)) (bytes_below (loads one))
          ∙ ap (λ (b : Bool). cond b e.outbox.bytes (old_bytes e)) h

      by : (l : Bool) → (message_is (build (ten_of e))).number ≡ cond l e.outbox.number (old_number e)
          → (message_is (build (ten_of e))).bytes ≡ cond l e.outbox.bytes (old_bytes e)
          → message_is (build (ten_of e)) ≡ cond l (message_out e) (message_sent e)
      by true p q = λ i. record { number = p i; bytes = q i }
      by false p q = λ i. record { number = p i; bytes = q i }

  -- the end after steps 1 to 4
  abbrev made_end : End
  made_end = moved_on (started true e)

  acks_is : num (acked e) + ackd ≡ he
  unfolding acked
  acks_is = acks_heard e.heard.ack e.heard.togack e.sender.toggle m.hearing m.holding.sending.toggle

  pub acked_is : cond (acked e) (ackd + 1) ackd ≡ he
  acked_is = one_more (acked e) ackd ∙ acks_is

  pub made_first : Sending (length acc) ld he (out_of (step_one (acked e) e))
  made_first = step_one_sending (acked e) m.holding.sending acks_is m.upto

  valid_is : old_valid made_end ≡ not made_end.sender.ready
  unfolding frame_start
  valid_is =
      made_says.valid
      ∙ ap (λ (b : Bool). cond (loads one) true (cond (acked e) false b)) m.holding.valid
      ∙ valid_sent (acked e) (out_of e)

  pending_is : (l : Bool) → loads one ≡ l → cond l false e.outbox.pending ≡ true
      → get_or acc (ld + num l) no_message ≡ message_out e
  pending_is true h p = absurd (false≢true p)
  pending_is false h p = rw add-zero (m.holding.pending p)

  sent_is : (l a : Bool) → loads one ≡ l → acked e ≡ a → cond l false (cond a true e.sender.ready) ≡ false
      → get_or acc he no_message ≡ cond l (message_out e) (message_sent e)
  sent_is true a h k p =
      let both = and_both e.outbox.pending one.sender.ready h in
      let r : num one.sender.ready ≡ 1 = ap num both.1 in
      let f : ld + num one.sender.ready ≡ he + 1 = made_first.loaded in
      let q : he ≡ ld = omega arith in
      ap (λ (n : ℕ). get_or acc n no_message) q ∙ m.holding.pending both.0
  sent_is false true h k p = absurd (true≢false p)
  sent_is false false h k p =
      let q : he ≡ ackd = sym acks_is ∙ ap (λ (b : Bool). num b + ackd) k ∙ zero-add ackd in
      ap (λ (n : ℕ). get_or acc n no_message) q ∙ m.holding.sent p

  pub made_holding : Holding made_end acc (cond (loads one) (ld + 1) ld) (cond (acked e) (ackd + 1) ackd)
  unfolding frame_start
  made_holding = rw (acked_is, one_more (loads one) ld, add_comm (num (loads one)) ld) (record {
    sending = step_three_sending made_first;
    valid = valid_is;
    pending = pending_is (loads one) refl;
    sent = λ r. sent_is (loads one) (acked e) refl refl r ∙ sym (made_message (loads one) refl);
  })

  -- the frame as a cell carries it, with the counts after it
  abbrev frame : ℕ → Frame
  frame n = record { ten = ten_of e; ack_count = cond (acked e) (ackd + 1) ackd; enter_count = n }

  valid_end : (said (ten_of e)).valid ≡ not made_end.sender.ready
  unfolding frame_start
  valid_end = valid_is

  pub made_rank : (n : ℕ) → rank (frame n) ≡ cond (acked e) (ackd + 1) ackd + cond (loads one) (ld + 1) ld
  made_rank n = sums (cond (acked e) (ackd + 1) ackd) (ap num valid_end) (valid_counts made_holding.sending)
    where
      sums : {x y q : ℕ} (p : ℕ) → x ≡ y → y + p ≡ q → 2 * p + x ≡ p + q
      sums p e f = omega arith

  pub made_data : (n : ℕ) → DataOk acc (frame n)
  unfolding frame_start
  made_data n = record {
    toggle = ap num made_says.toggle ∙ made_holding.sending.toggle;
    message = λ v. at made_end.sender.ready refl (sym valid_end ∙ v);
  }
    where
      now : ℕ
      now = cond (acked e) (ackd + 1) ackd

      at : (r : Bool) → made_end.sender.ready ≡ r → not made_end.sender.ready ≡ true
          → (now < length acc) × (get_or acc now no_message ≡ message_is (build (ten_of e)))
      at true q h = absurd (false≢true (sym (ap not q) ∙ h))
      at false q h = (sent_below made_holding.sending q, made_holding.sent q)

  pub made_ack : {ent tk ha : ℕ} {valid toggle : Bool} (ackd ld : ℕ)
      → Receiving ent tk ha valid toggle (in_of e.inbox)
      → 2 * ha + num valid ≤ ackd + ld → ent ≤ ld → ld ≤ ackd + 1 → (n : ℕ)
      → AckOk ackd (record { ten = ten_of e; ack_count = n; enter_count = ent })
  made_ack ackd ld r h o u n = record {
    upto = rw made_says.ack (acknowledge_made ackd ld r h o u);
    some = rw made_says.ack r.some;
    toggle = ap num made_says.togack ∙ r.register;
  }
