-- Taking a block.
--   heard b e      the block b updates PHYT and MERT
--   enters b e     its MSGT differs from the sent PHYT, and RXVAL is 0
--   stored n b e   where n, it is stored, RXVAL rises, and the sent PHYT becomes its MSGT; all else stays
--   take_of e m b   what take gives; m says that the block is marked bad
-- Assumes nothing.
use Rattle.std.specs.Prelude.{Bool, true, not, cond, ◌&&◌, ◌||◌, ltb}
use Rattle.std.specs.Bool.{beq}
use Rattle.answer.specs.declared.Answer.TheVariants.{Done, BadEnd}
use Rattle.fibre.specs.declared.Block.{Block}
use Rattle.fibre.specs.declared.End.{End}
use Rattle.fibre.specs.declared.Next.{Next}
use Rattle.fibre.specs.Good.{largest, bad}

abbrev pub heard : Block → End → End
heard b e = record {
  transmit = record {
    txreq = e.transmit.txreq;
    phyt = b.phyt;
    mert = b.mert;
    control = e.transmit.control;
    words = e.transmit.words;
  };
  sent = e.sent;
  receive = e.receive;
}

abbrev pub enters : Block → End → Bool
enters b e = not (beq b.msgt e.sent.phyt) && not e.receive.rxval

abbrev pub stored : Bool → Block → End → End
stored n b e = record {
  transmit = e.transmit;
  sent = record {
    msgt = e.sent.msgt;
    phyt = cond n b.msgt e.sent.phyt;
    mert = e.sent.mert;
    control = e.sent.control;
    words = e.sent.words;
  };
  receive = record {
    rxval = cond n true e.receive.rxval;
    toggle = cond n b.msgt e.receive.toggle;
    control = cond n b.control e.receive.control;
    words = cond n b.words e.receive.words;
  };
}

unfoldable pub take_of : End → Bool → Block → Next
take_of e m b =
    cond (bad e || ltb largest b.control)
    (record { answer = BadEnd; end = e })
    (cond m
    (record { answer = Done; end = e })
    (record { answer = Done; end = stored (enters b e) b (heard b e) }))
