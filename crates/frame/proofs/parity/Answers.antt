-- `frame::parity` meets its contract: the count of ones is odd where their exclusive or is. Assumes nothing.
use Rattle.crc.specs.Bits.{odd}
use Rattle.crc.proofs.BitsLaws.{ones_parity}
use Rattle.frame.proofs.parity.Goals as goal

pub returns : goal.returns
unfolding odd
returns c = ones_parity 9 c.args.symbol
