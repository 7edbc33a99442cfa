-- Replies that satisfy one contract are identical: for each call, any two that its `ensures` allows for the same bytes
-- and arguments, whatever the bytes are said to be afterwards. What they are is one equation to a definition. `Post` is
-- the contract as it stands in the source. Assumes nothing.
use mathlib.Core.Path.{sym, ◌∙◌}
use Rattle.laws.specs.Identical.{Same}
use Rattle.record.proofs.reset.Reads as reset
use Rattle.record.proofs.send.Reads as send
use Rattle.record.proofs.take.Reads as take
use Rattle.record.proofs.take_reason.Reads as take_reason
use Rattle.record.proofs.read.Reads as read
use Rattle.record.proofs.write.Reads as write
use Rattle.record.proofs.set_health.Reads as set-health
use Rattle.record.proofs.present.Reads as present
use Rattle.record.proofs.upgrade.Reads as upgrade
use Rattle.record.proofs.counts.Reads as counts

pub reset_identical : Same reset.Post
reset_identical κs a x y s t e f = e.0 ∙ sym f.0

pub send_identical : Same send.Post
send_identical κs a x y s t e f = e.0 ∙ sym f.0

pub take_identical : Same take.Post
take_identical κs a x y s t e f = e.0 ∙ sym f.0

pub take_reason_identical : Same take_reason.Post
take_reason_identical κs a x y s t e f = e.0 ∙ sym f.0

pub read_identical : Same read.Post
read_identical κs a x y s t e f = e.0 ∙ sym f.0

pub write_identical : Same write.Post
write_identical κs a x y s t e f = e.0 ∙ sym f.0

pub set_health_identical : Same set-health.Post
set_health_identical κs a x y s t e f = e.0 ∙ sym f.0

pub present_identical : Same present.Post
present_identical κs a x y s t e f = e ∙ sym f

pub upgrade_identical : Same upgrade.Post
upgrade_identical κs a x y s t e f = e.0 ∙ sym f.0

pub counts_identical : Same counts.Post
counts_identical κs a x y s t e f = e ∙ sym f
