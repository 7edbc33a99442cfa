-- `Good::message_number` meets its contract. The number of a good end is at most 15. Assumes nothing.
use Rattle.end.proofs.Laws.{good}
use Rattle.end.proofs.good.Good.message_number.Goals as goal

pub returns-then-loading-clause-upper_bound : goal.returns-then-loading-clause-upper_bound
returns-then-loading-clause-upper_bound c = (good _ c.args.self.good).number
