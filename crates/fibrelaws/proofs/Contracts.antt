-- The contracts of the calls, as they stand in the source, are of the definitions that all else is said of, and ask for
-- nothing.
--   CALL-any     any arguments may come
--   CALL-gives   what the contract allows is what the definition gives
-- Assumes nothing.
use Prim.{tt}
use Rattle.laws.specs.Contract.{Any, Gives}
use Rattle.fibre.specs.Good.{reset_of}
use Rattle.fibre.specs.Sending.{send_of}
use Rattle.fibre.specs.Taking.{take_of}
use Rattle.fibre.specs.Words.{read_of, write_of}
use Rattle.fibre.proofs.End.reset.Reads as reset
use Rattle.fibre.proofs.End.send.Reads as send
use Rattle.fibre.proofs.End.take.Reads as take
use Rattle.fibre.proofs.End.read.Reads as read
use Rattle.fibre.proofs.End.write.Reads as write

pub reset_any : Any reset.Pre
reset_any κs a = tt

pub reset_gives : Gives reset.Post (λ κs a. reset_of)
reset_gives κs a x s e = e

pub send_any : Any send.Pre
send_any κs a = tt

pub send_gives : Gives send.Post (λ κs a. send_of a.0)
send_gives κs a x s e = e

pub take_any : Any take.Pre
take_any κs a = tt

pub take_gives : Gives take.Post (λ κs a. take_of a.0 a.1.0 a.1.1.0)
take_gives κs a x s e = e

pub read_any : Any read.Pre
read_any κs a = tt

pub read_gives : Gives read.Post (λ κs a. read_of a.0 a.1.0)
read_gives κs a x s e = e

pub write_any : Any write.Pre
write_any κs a = tt

pub write_gives : Gives write.Post (λ κs a. write_of a.0 a.1.0 a.1.1.0)
write_gives κs a x s e = e
