-- Sending a block.
--   loads e       a request is taken at this block: TXREQ is 1 and PHYT equals MSGT
--   loaded l e    where l, MSGT flips, the 140 bits load together and TXREQ falls; all else stays
--   send_of e     what send gives: the block that the end has then
-- Assumes nothing.
use Rattle.std.specs.Prelude.{Bool, false, not, cond, ◌&&◌}
use Rattle.std.specs.Bool.{beq}
use Rattle.answer.specs.declared.Answer.TheVariants.{Done, BadEnd}
use Rattle.fibre.specs.declared.End.{End}
use Rattle.fibre.specs.declared.Sent.{Sent}
use Rattle.fibre.specs.Good.{bad, no_block}

abbrev pub loads : End → Bool
loads e = e.transmit.txreq && beq e.transmit.phyt e.sent.msgt

abbrev pub loaded : Bool → End → End
loaded l e = record {
  transmit = record {
    txreq = cond l false e.transmit.txreq;
    phyt = e.transmit.phyt;
    mert = e.transmit.mert;
    control = e.transmit.control;
    words = e.transmit.words;
  };
  sent = record {
    msgt = cond l (not e.sent.msgt) e.sent.msgt;
    phyt = e.sent.phyt;
    mert = e.sent.mert;
    control = cond l e.transmit.control e.sent.control;
    words = cond l e.transmit.words e.sent.words;
  };
  receive = e.receive;
}

unfoldable pub send_of : End → Sent
send_of e =
    cond (bad e)
    (record { answer = BadEnd; block = no_block; end = e })
    (record { answer = Done; block = (loaded (loads e) e).sent; end = loaded (loads e) e })
