-- Document 01, "Sending, one symbol a slot".
--   acked e          step 1's test: the last accepted frame acknowledged what is in the sender
--   acked_sender, acked_outbox, step_one  step 1, where its test gave a, but for Valid, which stands in the frame
--   loads e          step 3's test: a message is pending and the sender is ready
--   word_zero, word_one, ten_bytes  the ten data bytes of the frame made in steps 2 and 3
--   made_sender, made_outbox, steps_two_to_four  steps 2 to 4, from the end after step 1
--   frame_start e    the end with the frame of position 0 made, steps 1 to 4
--   slot_of e         the end whose symbol goes out: a frame is made at position 0
--   moved_on e       the position moves on
--   send_of e        what send gives
-- Assumes nothing.
use Rattle.std.specs.Prelude.{ℕ, ◌+◌, ◌/◌, ◌%◌, Bool, true, false, not, cond, ◌&&◌, List, ◌∷◌, map, eqb, get_or, take, drop}
use Rattle.std.specs.Bool.{beq}
use Rattle.answer.specs.declared.Answer.TheVariants.{Done, BadEnd}
use Rattle.crc.specs.Bits.{odd}
use Rattle.frame.specs.Frame.{build, data_of}
use Rattle.weights.specs.Weights.{bit}
use Rattle.end.specs.declared.End.{End}
use Rattle.end.specs.declared.Outbox.{Outbox}
use Rattle.end.specs.declared.Sender.{Sender}
use Rattle.end.specs.declared.Sent.{Sent}
use Rattle.end.specs.Good.{bad}
use Rattle.end.specs.Parts.{with_sender, with_outbox, at_position, with_symbols, with_toggle, with_ready, with_loaded}
use Rattle.end.specs.Parts.{with_pending, with_register, with_received, with_confirmed}

unfoldable pub acked : End → Bool
acked e = e.heard.ack && beq e.heard.togack e.sender.toggle

-- step 1, where its test gave a
abbrev pub acked_sender : Bool → End → Sender
acked_sender a e =
    with_ready (with_toggle e.sender (cond a e.outbox.toggle e.sender.toggle))
    (cond a true e.sender.ready)

abbrev pub acked_outbox : Bool → End → Outbox
acked_outbox a e =
    with_confirmed (with_received e.outbox (cond a true e.outbox.received))
    (cond a e.heard.togack e.outbox.confirmed)

abbrev pub step_one : Bool → End → End
step_one a e = with_outbox (with_sender e (acked_sender a e)) (acked_outbox a e)

abbrev pub loads : End → Bool
loads e = e.outbox.pending && e.sender.ready

-- what stands in the frame sent before: symbol 1's Valid and number, and the message bytes
abbrev pub old_valid : End → Bool
old_valid e = odd (get_or e.sender.symbols 1 0 / 128)

abbrev pub old_number : End → ℕ
old_number e = get_or e.sender.symbols 1 0 % 16

abbrev pub old_bytes : End → List ℕ
old_bytes e = map data_of (take 8 (drop 2 e.sender.symbols))

-- symbol 0's data: step 2, from the end after step 1
abbrev pub word_zero : End → ℕ
word_zero e = bit e.heard.ping 8 + bit e.outbox.ping 4 + e.sender.health

-- symbol 1's data: steps 1 to 3, from the end after step 1; a is step 1's test, l is step 3's
abbrev pub word_one : Bool → Bool → End → ℕ
word_one a l e =
    bit (cond l true (cond a false (old_valid e))) 128
    + bit e.sender.toggle 64
    + bit e.inbox.acknowledge 32
    + bit e.inbox.toggle 16
    + cond l e.outbox.number (old_number e)

abbrev pub ten_bytes : Bool → Bool → End → List ℕ
ten_bytes a l e = word_zero e ∷ word_one a l e ∷ cond l e.outbox.bytes (old_bytes e)

-- steps 2 to 4, from the end after step 1: the frame, the health as loaded, and where a message is loaded (l) pending,
-- register toggle and readiness
abbrev pub made_sender : Bool → Bool → End → Sender
made_sender a l e =
    with_loaded (with_ready (with_symbols e.sender (build (ten_bytes a l e))) (cond l false e.sender.ready))
    e.sender.health

abbrev pub made_outbox : Bool → End → Outbox
made_outbox l e =
    with_register (with_pending e.outbox (cond l false e.outbox.pending))
    (cond l (not e.outbox.toggle) e.outbox.toggle)

abbrev pub steps_two_to_four : Bool → Bool → End → End
steps_two_to_four a l e = with_outbox (with_sender e (made_sender a l e)) (made_outbox l e)

unfoldable pub frame_start : End → End
frame_start e = steps_two_to_four (acked e) (loads (step_one (acked e) e)) (step_one (acked e) e)

-- the position moves on by one, from 11 to 0
abbrev pub moved_on : End → End
moved_on e =
    with_sender e (at_position e.sender (cond (eqb e.sender.position 11) 0 (e.sender.position + 1)))

-- the end whose symbol goes out in this slot, where n says that a new frame is made
abbrev pub started : Bool → End → End
started n e =
    with_outbox (with_sender e (cond n (frame_start e).sender e.sender)) (cond n (frame_start e).outbox e.outbox)

-- the end of this slot: at position 0 a frame is made
abbrev pub slot_of : End → End
slot_of e = started (eqb e.sender.position 0) e

abbrev pub symbol_at : End → ℕ
symbol_at e = get_or e.sender.symbols e.sender.position 0

unfoldable pub send_of : End → Sent
send_of e =
    cond (bad e)
    (record { answer = BadEnd; symbol = 0; end = e })
    (record { answer = Done; symbol = symbol_at (slot_of e); end = moved_on (slot_of e) })
