-- What a line asks of an end, and what a call keeps to that was read of one.
--   Bools l   of a block's numbers l, those that say yes or no are 0 or 1: the mark, MSGT, PHYT and MERT
--   Within c  a block that the call c takes is such, and what it sets is an element of the field and no more than its
--             largest value
--   Asks w ws c   the word w asks for the call c, with the words ws behind it
--   Reads ws c    the words ws ask for c
-- Assumes nothing.
use Rattle.std.specs.Prelude.{ℕ, ◌≤◌, ◌<◌, List, [], ◌∷◌, ◌≡◌, Ok, true, All, take, codes}
use Rattle.consolecommands.specs.Commands.{two_of}
use Rattle.consolecommands.specs.Fields.{Sets}
use Rattle.fibrecommands.specs.Fields.{name_of, elements_of, largest_of}
use Rattle.fibrecommands.specs.declared.call.Call.{Call}
use Rattle.fibrecommands.specs.declared.call.Call.TheVariants.{Reset, Send, Take, Read, Write, Dump, Set}
use Rattle.text.specs.Numbers.{last_of, list_of, these}
use Rattle.text.specs.Words.{none_of}

abbrev pub Bools : List ℕ → Type 0
Bools l = All (λ n. n ≤ 1) (take 4 l)

abbrev pub Within : Call → Type 0
Within (Take l) = Bools l
Within (Set s) = (s.element < elements_of s.field) × (s.value ≤ largest_of s.field)
Within _ = Unit {0}

abbrev pub Asks : List ℕ → List (List ℕ) → Call → Type 0
Asks w ws Reset = (w ≡ codes "reset") × (none_of ws ≡ true)
Asks w ws Send = (w ≡ codes "send") × (none_of ws ≡ true)
Asks w ws (Take l) = (w ≡ codes "take") × (list_of 65535 13 ws ≡ these l)
Asks w ws (Read n) = (w ≡ codes "read") × (last_of 10 65535 ws ≡ Ok n)
Asks w ws (Write n v) = (w ≡ codes "write") × (two_of 10 65535 16 65535 ws ≡ Ok (n, v))
Asks w ws Dump = (w ≡ codes "dump") × (none_of ws ≡ true)
Asks w ws (Set s) = (w ≡ codes "set") × Sets name_of elements_of largest_of ws s.field s.element s.value

abbrev pub Reads : List (List ℕ) → Call → Type 0
Reads [] c = ⊥
Reads (w ∷ ws) c = Asks w ws c
