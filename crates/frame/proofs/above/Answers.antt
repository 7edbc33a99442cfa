-- `frame::above` meets its contract: the list has a number above the limit where one of those passed is, or what is left
-- of it has one. Assumes nothing.
use mathlib.Core.Path.{◌∙◌}
use Rattle.laws.proofs.AboveLaws.{above_step, above_end}
use Rattle.frame.proofs.above.Goals as goal

pub loop-number-preserved : goal.loop-number-preserved
loop-number-preserved c =
    let at = c.loop-number in
    above_step c.args.limit c.args.list.now at.number-index at.found c.loop-number-test.true ∙ at.invariant

pub returns : goal.returns
returns c =
    let at = c.loop-number in
    above_end c.args.limit c.args.list.now at.number-index at.found c.loop-number-test.false ∙ at.invariant
