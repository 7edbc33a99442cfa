-- `counts` meets its contract: it is refused, or the counts of the end that was read.
-- Assumes nothing.
use mathlib.Core.Path.{◌≡◌}
use Rattle.receiver.specs.Counting.{no_counts}
use Rattle.record.proofs.Gave.{counts_bad, counts_done}
use Rattle.record.proofs.counts.Goals as goal

pub returns-in_default : goal.returns-in_default
returns-in_default c =
    let zero = c.default.ensures in
    let none : c.default.result ≡ no_counts = λ i. record {
      accepted = zero.0 i;
      crc = zero.1.0 i;
      marked = zero.1.1.0 i;
      early = zero.1.1.1 i;
    } in
    rw none (counts_bad _ c.in_default.ensures)

pub returns : goal.returns
returns c = counts_done _ _ c.in-Some.ensures.0 c.in-Some.ensures.1
