-- `read` meets its contract: it is refused, or the call on the end that was read.
-- Assumes nothing.
use borrow.Author.Rules.{rules}
use Rattle.recordspec.specs.Results.{reading}
use Rattle.record.proofs.Gave.{gave}
use Rattle.record.proofs.read.Goals as goal

pub returns : goal.returns
returns c =
    let e = gave (reading c.args.register) _ _ _ _ c.on_end.ensures (λ x n h. search rules) c.unwrap_or.ensures in
    record { value = e.0; area_after = e.1 }
