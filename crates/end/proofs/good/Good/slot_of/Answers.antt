-- `Good::slot_of` meets its contract. The end at the known test is the definition at it. Assumes nothing.
use mathlib.Core.Bool.{Bool}
use mathlib.Core.Path.{sym, ap, ◌∙◌}
use borrow.Author.Tests.{eq-eqb}
use Rattle.end.specs.Sending.{started, frame_start}
use Rattle.end.proofs.good.Good.slot_of.Goals as goal

pub returns-then-self-eq0 : goal.returns-then-self-eq0
unfolding frame_start
returns-then-self-eq0 c =
    c.frame_start.ensures
    ∙ ap (λ (n : Bool). started n c.args.self.end) (sym (eq-eqb _ 0 c.if-self-eq0.true))
