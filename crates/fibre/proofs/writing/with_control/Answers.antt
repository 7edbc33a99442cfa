-- `writing::with_control` meets its contract. Assumes nothing.
use Rattle.crc.specs.Bits.{odd}
use borrow.Author.Rules.{rules}
use Rattle.fibre.proofs.writing.with_control.Goals as goal

pub returns : goal.returns
unfolding odd
returns c = search rules
