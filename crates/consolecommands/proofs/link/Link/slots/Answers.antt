-- `consolecommands::link::Link::slots` meets its contract. Assumes nothing.
use Rattle.std.proofs.Common.{ap, arith, refl, ◌∙◌}
use Rattle.std.proofs.lemmas.Grind.{common_steps}
use Rattle.consolecommands.proofs.SlotLaws.{slots_more, slots_none}
use Rattle.consolecommands.proofs.link.Link.slots.Goals as goal

pub loop-init : goal.loop-init
loop-init g c = (refl, grind (arith, common_steps), refl, refl, slots_none _ _ _ _)

pub loop-preserved : goal.loop-preserved
loop-preserved g c =
    let (same, counted, delay_a, delay_b, run) = c.loop.invariant in
    let step = c.slot-slots.ensures.stepped in (
      c.slot-slots.ensures.value,
      grind (arith, common_steps),
      ap (λ l. l.delay) step.to_a ∙ delay_a,
      ap (λ l. l.delay) step.to_b ∙ delay_b,
      slots_more _ _ _ c.loop.counter _ _ _ run step,
    )
