-- The answer numbers of document 01, 10 of request #101 and 11 of #104.
--   number_of a      the number of the answer a in the table
-- Assumes nothing.
use Rattle.std.specs.Prelude.{ℕ}
use Rattle.answer.specs.declared.Answer.{Answer}
use Rattle.answer.specs.declared.Answer.TheVariants.{Done, BadEnd, NoRegister, ReadOnly, Blocked}
use Rattle.answer.specs.declared.Answer.TheVariants.{BadSymbol, BadHealth, BadLength, NothingFound, NotAcceptable, ReadOnlyBits}
use Rattle.answer.specs.declared.Answer.TheVariants.{BadRecord}

abbrev pub number_of : Answer → ℕ
number_of Done = 0
number_of BadEnd = 1
number_of NoRegister = 2
number_of ReadOnly = 3
number_of Blocked = 4
number_of BadSymbol = 5
number_of BadHealth = 6
number_of BadLength = 7
number_of NothingFound = 8
number_of NotAcceptable = 9
number_of ReadOnlyBits = 10
number_of BadRecord = 11
