-- The contracts of the calls, as they stand in the source, are of the definitions that all else is said of, and ask for
-- nothing.
--   CALL-any     any arguments may come
--   CALL-gives   what the contract allows is what the definition gives
-- Assumes nothing.
use Prim.{tt}
use Rattle.laws.specs.Contract.{Any, Gives}
use Rattle.report.specs.Sending.{fresh_sending, offer_of, push_of}
use Rattle.report.specs.Taking.{fresh_taking, take_of, pull_of}
use Rattle.report.proofs.SendingHost.fresh.Reads as sending_fresh
use Rattle.report.proofs.SendingHost.offer.Reads as offer
use Rattle.report.proofs.SendingHost.push.Reads as push
use Rattle.report.proofs.TakingHost.fresh.Reads as taking_fresh
use Rattle.report.proofs.TakingHost.take.Reads as take
use Rattle.report.proofs.TakingHost.pull.Reads as pull

pub sending_fresh_any : Any sending_fresh.Pre
sending_fresh_any κs a = tt

pub sending_fresh_gives : Gives sending_fresh.Post (λ κs a. fresh_sending)
sending_fresh_gives κs a x s e = e

pub offer_any : Any offer.Pre
offer_any κs a = tt

pub offer_gives : Gives offer.Post (λ κs a. offer_of a.0 a.1.0)
offer_gives κs a x s e = e

pub push_any : Any push.Pre
push_any κs a = tt

pub push_gives : Gives push.Post (λ κs a. push_of a.0 a.1.0)
push_gives κs a x s e = e

pub taking_fresh_any : Any taking_fresh.Pre
taking_fresh_any κs a = tt

pub taking_fresh_gives : Gives taking_fresh.Post (λ κs a. fresh_taking)
taking_fresh_gives κs a x s e = e

pub take_any : Any take.Pre
take_any κs a = tt

pub take_gives : Gives take.Post (λ κs a. take_of a.0 a.1.0 a.1.1.0)
take_gives κs a x s e = e

pub pull_any : Any pull.Pre
pull_any κs a = tt

pub pull_gives : Gives pull.Post (λ κs a. pull_of a.0 a.1.0)
pull_gives κs a x s e = e
