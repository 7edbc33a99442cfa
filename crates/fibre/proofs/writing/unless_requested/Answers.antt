-- `writing::unless_requested` meets its contract. Each return knows TXREQ. Assumes nothing.
use mathlib.Core.Path.{sym}
use Rattle.laws.proofs.Bools.{cond_true, cond_false}
use Rattle.fibre.proofs.writing.unless_requested.Goals as goal

pub returns-then-end : goal.returns-then-end
returns-then-end c = sym (cond_true _ _ c.if-end.true)

pub returns : goal.returns
returns c = sym (cond_false _ _ c.if-end.false)
