-- `Good::is_valid` meets its contract. The last return is the case of the choice that it knows. Assumes nothing.
use mathlib.Core.Path.{sym, ◌∙◌}
use Rattle.crc.specs.Bits.{odd}
use Rattle.laws.proofs.Bools.{cond_false}
use Rattle.end.proofs.good.Good.is_valid.Goals as goal

pub returns-else-acknowledged : goal.returns-else-acknowledged
unfolding odd
returns-else-acknowledged c = sym (cond_false _ _ c.if-loading.false ∙ cond_false _ _ c.if-acknowledged.false)
