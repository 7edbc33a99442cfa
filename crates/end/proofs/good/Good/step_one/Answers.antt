-- `Good::step_one` meets its contract. It leaves what answer 1 looks at. Assumes nothing.
use Rattle.end.specs.Good.{bad}
use Rattle.end.proofs.good.Good.step_one.Goals as goal
use Rattle.end.proofs.good.Good.step_one.Goals.{then-acknowledged, else-acknowledged}

pub invariant_of-self : goal.invariant_of-self
unfolding bad
invariant_of-self c = record {
  good = elim c.if-acknowledged.branch [
    | then-acknowledged w ↦ rw w.self-is c.args.self.good
    | else-acknowledged w ↦ rw w.self-is c.args.self.good
  ];
}
