-- The commands on lists.
--   word_of c  the word of the command c
-- Assumes nothing.
use Rattle.std.specs.Prelude.{ℕ, List, codes}
use Rattle.benchcommands.specs.declared.lists.ListCommand.{ListCommand}

abbrev pub word_of : ListCommand → List ℕ
word_of ListCommand.Check = codes "check"
word_of ListCommand.Find = codes "find"
word_of ListCommand.Crc = codes "crc"
word_of ListCommand.Build = codes "build"
