-- Answer 1 of request #109, and the end after reset.
--   largest     4,095, the largest control value: twelve bits
--   bad e       what answer 1 meets: a control above it in the transmit words, in the block being sent or in the
--               receive words
--   no_block     the block of a refused send: all is 0
--   reset_of    all is 0
-- Assumes nothing.
use Rattle.std.specs.Prelude.{ℕ, Bool, false, ◌||◌, ltb, replicate}
use Rattle.fibre.specs.declared.Block.{Block}
use Rattle.fibre.specs.declared.End.{End}

abbrev pub largest : ℕ
largest = 4095

unfoldable pub bad : End → Bool
bad e = ltb largest e.transmit.control || (ltb largest e.sent.control || ltb largest e.receive.control)

abbrev pub no_block : Block
no_block = record { msgt = false; phyt = false; mert = false; control = 0; words = replicate 8 0 }

abbrev pub reset_of : End
reset_of = record {
  transmit = record { txreq = false; phyt = false; mert = false; control = 0; words = replicate 8 0 };
  sent = no_block;
  receive = record { rxval = false; toggle = false; control = 0; words = replicate 8 0 };
}
