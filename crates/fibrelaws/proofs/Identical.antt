-- Any two results that satisfy one statement are identical.
--   CALL-identical   any two results that the call's contract allows for the same arguments; `Post` is the contract as
--                    it stands in the source
-- Assumes nothing.
use mathlib.Core.Path.{sym, ◌∙◌}
use Rattle.laws.specs.Identical.{Identical}
use Rattle.fibre.proofs.End.reset.Reads as reset
use Rattle.fibre.proofs.End.send.Reads as send
use Rattle.fibre.proofs.End.take.Reads as take
use Rattle.fibre.proofs.End.read.Reads as read
use Rattle.fibre.proofs.End.write.Reads as write

pub reset_identical : Identical reset.Post
reset_identical κs a x y s e f = e ∙ sym f

pub send_identical : Identical send.Post
send_identical κs a x y s e f = e ∙ sym f

pub take_identical : Identical take.Post
take_identical κs a x y s e f = e ∙ sym f

pub read_identical : Identical read.Post
read_identical κs a x y s e f = e ∙ sym f

pub write_identical : Identical write.Post
write_identical κs a x y s e f = e ∙ sym f
