-- `frame::words::odd` meets its contract: the count of ones is odd where their exclusive or is. Assumes nothing.
use Rattle.crc.specs.Bits.{odd}
use Rattle.crc.proofs.BitsLaws.{ones_odd}
use Rattle.frame.proofs.words.odd.Goals as goal

pub returns : goal.returns
unfolding odd
returns c = ones_odd 32 c.args.word c.ranges.word.fits
