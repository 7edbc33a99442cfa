-- `Good::frame_start` meets its contract. The steps in their order. Assumes nothing.
use Rattle.end.specs.Sending.{frame_start}
use Rattle.end.proofs.good.Good.frame_start.Goals as goal

pub returns : goal.returns
unfolding frame_start
returns c = rw (c.steps_two_to_four.ensures, c.step_one.ensures, c.acked-acknowledged.ensures)
