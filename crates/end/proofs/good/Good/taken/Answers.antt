-- `Good::taken` meets its contract. The steps in their order; that the reason is accepted is step 3's test.
-- Assumes nothing.
use mathlib.Core.Path.{ap, ◌∙◌}
use Rattle.frame.specs.Reason.{is_accepted}
use Rattle.receiver.proofs.Laws.{accepts_reason}
use Rattle.end.specs.Taking.{taken}
use Rattle.end.proofs.Laws.{good}
use Rattle.end.proofs.good.Good.taken.Goals as goal

pub collect-collector-requires : goal.collect-collector-requires
collect-collector-requires c = (good _ c.args.self.good).count

pub returns : goal.returns
unfolding taken
returns c =
    let x = c.args in
    let step = accepts_reason x.symbol x.self.end.collector.count c.collect-collector.result.symbols in
    let accepted = c.is_accepted-accepted.ensures ∙ ap is_accepted c.reason_of-reason.ensures ∙ step in
    rw (c.left_after.ensures, c.tally-end.ensures, c.enter-end.ensures, c.hear-end.ensures, accepted, c.reason_of-reason.ensures)
    (rw (c.collect-collector.ensures, c.settle-settled.ensures))
