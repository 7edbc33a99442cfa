-- `take` meets its contract: it is the take that says why, without the reason.
-- Assumes nothing.
use mathlib.Core.Path.{ap}
use Rattle.record.specs.declared.Told.{Told}
use Rattle.record.proofs.Gave.{take_reply}
use Rattle.record.proofs.take.Goals as goal

pub returns : goal.returns
returns c = record {
  value = take_reply _ _ (ap (λ (x : Told). x.answer) c.take_reason-answer.ensures.value);
  area_after = c.take_reason-answer.ensures.area_after;
}
