-- `taking::said_by` meets its contract. By definition. Assumes nothing.
use mathlib.Core.Path.{refl}
use Rattle.crc.specs.Bits.{odd}
use Rattle.receiver.proofs.taking.said_by.Goals as goal

pub returns : goal.returns
unfolding odd
returns c = refl
