-- The words: 0 to 8 are transmit, 9 to 17 receive.
--   outside w, receives w   a number above 17; one of the receive words, 9 and up
--   control e, status e     words 0 and 9
--   value_of e w             what reading the word w gives
--   emptied l e             the end after a read, where l says that word 17 was read: with RXVAL set RXVAL drops and
--                           the sent MERT becomes the message's toggle
--   read_of e w              what read gives
--   with_control e v        word 0 written: bit 15 and 11:0 are stored, 14:12 ignored
--   with_word e i v         one of words 1 to 8 written, counted from 0
--   unless_requested e f    while TXREQ is 1 a write to a transmit word is refused; else the end is f
--   write_of e w v          what write gives
-- Assumes nothing.
use Rattle.std.specs.Prelude.{ℕ, ◌+◌, ◌-◌, ◌/◌, ◌%◌, Bool, false, cond, ◌&&◌, eqb, leb, ltb, get_or, set}
use Rattle.answer.specs.declared.Answer.TheVariants.{Done, BadEnd, NoRegister, ReadOnly, Blocked}
use Rattle.crc.specs.Bits.{odd}
use Rattle.weights.specs.Weights.{bit}
use Rattle.fibre.specs.declared.End.{End}
use Rattle.fibre.specs.declared.Read.{Read}
use Rattle.fibre.specs.declared.Next.{Next}
use Rattle.fibre.specs.Good.{bad}

abbrev pub outside : ℕ → Bool
outside w = ltb 17 w

abbrev pub receives : ℕ → Bool
receives w = leb 9 w

-- Reading

abbrev pub control : End → ℕ
control e =
    bit e.transmit.txreq 32768
    + bit e.transmit.phyt 16384
    + bit e.transmit.mert 8192
    + bit e.sent.msgt 4096
    + e.transmit.control

abbrev pub status : End → ℕ
status e = bit e.receive.rxval 32768 + bit e.receive.toggle 4096 + e.receive.control

abbrev pub value_of : End → ℕ → ℕ
value_of e w =
    cond (eqb w 0) (control e)
    (cond (leb w 8) (get_or e.transmit.words (w - 1) 0)
    (cond (eqb w 9) (status e)
    (get_or e.receive.words (w - 10) 0)))

abbrev pub emptied : Bool → End → End
emptied l e = record {
  transmit = e.transmit;
  sent = record {
    msgt = e.sent.msgt;
    phyt = e.sent.phyt;
    mert = cond (l && e.receive.rxval) e.receive.toggle e.sent.mert;
    control = e.sent.control;
    words = e.sent.words;
  };
  receive = record {
    rxval = cond (l && e.receive.rxval) false e.receive.rxval;
    toggle = e.receive.toggle;
    control = e.receive.control;
    words = e.receive.words;
  };
}

unfoldable pub read_of : End → ℕ → Read
read_of e w =
    cond (bad e)
    (record { answer = BadEnd; value = 0; end = e })
    (cond (outside w)
    (record { answer = NoRegister; value = 0; end = e })
    (record { answer = Done; value = value_of e w; end = emptied (eqb w 17) e }))

-- Writing

abbrev pub with_control : End → ℕ → End
with_control e v = record {
  transmit = record {
    txreq = odd (v / 32768);
    phyt = e.transmit.phyt;
    mert = e.transmit.mert;
    control = v % 4096;
    words = e.transmit.words;
  };
  sent = e.sent;
  receive = e.receive;
}

abbrev pub with_word : End → ℕ → ℕ → End
with_word e i v = record {
  transmit = record {
    txreq = e.transmit.txreq;
    phyt = e.transmit.phyt;
    mert = e.transmit.mert;
    control = e.transmit.control;
    words = set e.transmit.words i v;
  };
  sent = e.sent;
  receive = e.receive;
}

abbrev pub unless_requested : End → End → Next
unless_requested e f =
    cond e.transmit.txreq
    (record { answer = Blocked; end = e })
    (record { answer = Done; end = f })

unfoldable pub write_of : End → ℕ → ℕ → Next
write_of e w v =
    cond (bad e)
    (record { answer = BadEnd; end = e })
    (cond (outside w)
    (record { answer = NoRegister; end = e })
    (cond (receives w)
    (record { answer = ReadOnly; end = e })
    (cond (eqb w 0)
    (unless_requested e (with_control e v))
    (unless_requested e (with_word e (w - 1) v)))))
