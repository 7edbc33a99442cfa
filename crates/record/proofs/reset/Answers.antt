-- `reset` meets its contract: the area is filled with the end after reset.
-- Assumes nothing.
use mathlib.Core.Path.{ap, ◌∙◌}
use Rattle.end.specs.declared.End.{End}
use Rattle.record.specs.Calls.{filled, resetting}
use Rattle.record.proofs.reset.Goals as goal

pub returns : goal.returns
unfolding resetting
returns c =
    let a = c.args.area.now in
    record {
      value = c.fill.ensures.value ∙ ap (λ (x : End). (filled x a).reply) c.reset.ensures;
      area_after = c.fill.ensures.area_after ∙ ap (λ (x : End). (filled x a).bytes) c.reset.ensures;
    }
