-- Replies that satisfy one contract are identical, for each call that the C side makes. Assumes nothing.
use mathlib.Core.Path.{sym, ◌∙◌}
use Rattle.laws.specs.Identical.{Same}
use Rattle.simhadol.proofs.simhadol_record_length.Reads as record_length
use Rattle.simhadol.proofs.simhadol_reset.Reads as reset
use Rattle.simhadol.proofs.simhadol_send.Reads as send
use Rattle.simhadol.proofs.simhadol_take.Reads as take
use Rattle.simhadol.proofs.simhadol_take_reason.Reads as take_reason
use Rattle.simhadol.proofs.simhadol_read.Reads as read
use Rattle.simhadol.proofs.simhadol_write.Reads as write
use Rattle.simhadol.proofs.simhadol_set_health.Reads as set-health
use Rattle.simhadol.proofs.simhadol_present.Reads as present
use Rattle.simhadol.proofs.simhadol_counts.Reads as counts
use Rattle.simhadol.proofs.simhadol_upgrade.Reads as upgrade

pub record_length_identical : Same record_length.Post
record_length_identical κs a x y s t e f = e ∙ sym f

pub reset_identical : Same reset.Post
reset_identical κs a x y s t e f = e.0 ∙ sym f.0

pub send_identical : Same send.Post
send_identical κs a x y s t e f = e.0 ∙ sym f.0

pub take_identical : Same take.Post
take_identical κs a x y s t e f = e.0 ∙ sym f.0

pub take_reason_identical : Same take_reason.Post
take_reason_identical κs a x y s t e f = e.0 ∙ sym f.0

pub read_identical : Same read.Post
read_identical κs a x y s t e f = e.0 ∙ sym f.0

pub write_identical : Same write.Post
write_identical κs a x y s t e f = e.0 ∙ sym f.0

pub set_health_identical : Same set-health.Post
set_health_identical κs a x y s t e f = e.0 ∙ sym f.0

pub present_identical : Same present.Post
present_identical κs a x y s t e f = e ∙ sym f

pub counts_identical : Same counts.Post
counts_identical κs a x y s t e f = e ∙ sym f

pub upgrade_identical : Same upgrade.Post
upgrade_identical κs a x y s t e f = e.0 ∙ sym f.0
