-- `take_reason` meets its contract: it is refused, or the take of the end that was read.
-- Assumes nothing.
use borrow.Author.Rules.{rules}
use Rattle.record.proofs.Gave.{gave_told}
use Rattle.record.proofs.take_reason.Goals as goal

pub returns : goal.returns
returns c =
    let e = gave_told c.args.symbol _ _ _ _ c.on_end.ensures (λ x n h. search rules) c.unwrap_or.ensures in
    record { value = e.0; area_after = e.1 }
