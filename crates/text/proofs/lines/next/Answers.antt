-- `text::lines::next` meets its contract: a newline stands in what was not looked at yet, or none does.
-- Assumes nothing.
use mathlib.Core.Path.{sym, ◌∙◌}
use native.Mathlib.Omega.{arith}
use Rattle.text.proofs.LineLaws.{line_found, line_open}
use Rattle.text.proofs.lines.next.Goals as goal

pub returns-then-passed-left-clause-value : goal.returns-then-passed-left-clause-value
returns-then-passed-left-clause-value c =
    line_open c.args.text.now c.args.held c.requires (sym c.to_newline-passed.ensures.value ∙ c.if-passed-left.true)

pub returns-clause-value : goal.returns-clause-value
returns-clause-value c =
    line_found c.args.text.now c.args.held c.requires _ c.to_newline-passed.ensures.value (omega arith)
    c.found_at.ensures.value
