-- Any two results that satisfy one statement are identical.
--   CALL-identical  any two results that the call's contract allows for the same arguments; `Post` is the contract as it
--                   stands in the source
--   number_of_same  two answers of one number are one answer
-- Assumes nothing.
use Prim.Native.Nat.{ℕ, zero, suc}
use mathlib.Core.Path.{◌≡◌, refl, sym, ap, ◌∙◌}
use Rattle.laws.specs.Identical.{Identical}
use Rattle.end.proofs.End.reset.Reads as reset
use Rattle.end.proofs.End.send.Reads as send
use Rattle.end.proofs.End.take.Reads as take
use Rattle.end.proofs.End.read.Reads as read
use Rattle.end.proofs.End.write.Reads as write
use Rattle.end.proofs.End.set_health.Reads as health
use Rattle.end.proofs.End.present.Reads as present
use Rattle.answer.proofs.U8FromAnswer.from.Reads as number
use Rattle.answer.specs.Number.{number_of}
use Rattle.answer.specs.declared.Answer.{Answer}
use Rattle.answer.specs.declared.Answer.TheVariants.{Done, BadEnd, NoRegister, ReadOnly, Blocked, BadSymbol}
use Rattle.answer.specs.declared.Answer.TheVariants.{BadHealth, BadLength, NothingFound, NotAcceptable, ReadOnlyBits}
use Rattle.answer.specs.declared.Answer.TheVariants.{BadRecord}

pub reset_identical : Identical reset.Post
reset_identical κs a x y s e f = e ∙ sym f

pub send_identical : Identical send.Post
send_identical κs a x y s e f = e ∙ sym f

pub take_identical : Identical take.Post
take_identical κs a x y s e f = e ∙ sym f

pub read_identical : Identical read.Post
read_identical κs a x y s e f = e ∙ sym f

pub write_identical : Identical write.Post
write_identical κs a x y s e f = e ∙ sym f

pub health_identical : Identical health.Post
health_identical κs a x y s e f = e ∙ sym f

pub present_identical : Identical present.Post
present_identical κs a x y s e f = e ∙ sym f

pub number_identical : Identical number.Post
number_identical κs a x y s e f = e ∙ sym f

from : ℕ → Answer
from zero = Done
from (suc zero) = BadEnd
from (suc (suc zero)) = NoRegister
from (suc (suc (suc zero))) = ReadOnly
from (suc (suc (suc (suc zero)))) = Blocked
from (suc (suc (suc (suc (suc zero))))) = BadSymbol
from (suc (suc (suc (suc (suc (suc zero)))))) = BadHealth
from (suc (suc (suc (suc (suc (suc (suc zero))))))) = BadLength
from (suc (suc (suc (suc (suc (suc (suc (suc zero)))))))) = NothingFound
from (suc (suc (suc (suc (suc (suc (suc (suc (suc zero))))))))) = NotAcceptable
from (suc (suc (suc (suc (suc (suc (suc (suc (suc (suc zero)))))))))) = ReadOnlyBits
from (suc (suc (suc (suc (suc (suc (suc (suc (suc (suc (suc n))))))))))) = BadRecord

from_number : (a : Answer) → from (number_of a) ≡ a
unfolding from
from_number Done = refl
from_number BadEnd = refl
from_number NoRegister = refl
from_number ReadOnly = refl
from_number Blocked = refl
from_number BadSymbol = refl
from_number BadHealth = refl
from_number BadLength = refl
from_number NothingFound = refl
from_number NotAcceptable = refl
from_number ReadOnlyBits = refl
from_number BadRecord = refl

pub number_of_same : (a b : Answer) → number_of a ≡ number_of b → a ≡ b
number_of_same a b h = sym (from_number a) ∙ (ap from h ∙ from_number b)
