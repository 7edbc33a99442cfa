-- Any two results that satisfy one statement are identical.
--   CALL-identical   any two results that the call's contract allows for the same arguments; `Post` is the contract as
--                    it stands in the source
-- Assumes nothing.
use mathlib.Core.Path.{sym, ◌∙◌}
use Rattle.laws.specs.Identical.{Identical}
use Rattle.report.proofs.SendingHost.fresh.Reads as sending_fresh
use Rattle.report.proofs.SendingHost.offer.Reads as offer
use Rattle.report.proofs.SendingHost.push.Reads as push
use Rattle.report.proofs.TakingHost.fresh.Reads as taking_fresh
use Rattle.report.proofs.TakingHost.take.Reads as take
use Rattle.report.proofs.TakingHost.pull.Reads as pull

pub sending_fresh_identical : Identical sending_fresh.Post
sending_fresh_identical κs a x y s e f = e ∙ sym f

pub offer_identical : Identical offer.Post
offer_identical κs a x y s e f = e ∙ sym f

pub push_identical : Identical push.Post
push_identical κs a x y s e f = e ∙ sym f

pub taking_fresh_identical : Identical taking_fresh.Post
taking_fresh_identical κs a x y s e f = e ∙ sym f

pub take_identical : Identical take.Post
take_identical κs a x y s e f = e ∙ sym f

pub pull_identical : Identical pull.Post
pull_identical κs a x y s e f = e ∙ sym f
