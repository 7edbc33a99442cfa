-- `on_end` meets its contract: a record that is not refused has the right length.
-- Assumes nothing.
use Rattle.recordspec.proofs.Refusing.{good_length}
use Rattle.record.proofs.on_end.Goals as goal

pub returns-in_err-record : goal.returns-in_err-record
returns-in_err-record g c = absurd (c.in_err-record.ensures.cases (good_length _ c.refused.ensures c.if-refused.false))
