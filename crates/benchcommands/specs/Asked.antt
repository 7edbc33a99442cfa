-- What a line asks of an end.
--   Fits a       what set writes is within the field: one of its elements, and no value above its largest
--   Asks w ws a  the word w asks for a, with the words ws behind it; behind a call on the host stands what is left
--   Reads ws a   the words ws ask for a
-- Assumes nothing.
use Rattle.std.specs.Prelude.{ℕ, ◌≤◌, ◌<◌, List, [], ◌∷◌, ◌≡◌, Ok, true, codes}
use Rattle.benchcommands.specs.Fields.{name_of, elements_of, largest_of}
use Rattle.benchcommands.specs.declared.call.Asked.{Asked}
use Rattle.benchcommands.specs.declared.call.Call.{Call}
use Rattle.benchcommands.specs.declared.call.HostCall.{HostCall}
use Rattle.consolecommands.specs.Commands.{two_of}
use Rattle.consolecommands.specs.Fields.{Sets}
use Rattle.text.specs.Numbers.{last_of}
use Rattle.text.specs.Words.{none_of, words_of}

abbrev pub Fits : Asked → Type 0
Fits (Asked.Set s) = (s.element < elements_of s.field) × (s.value ≤ largest_of s.field)
Fits (Asked.Call c) = Unit {0}
Fits Asked.Dump = Unit {0}
Fits (Asked.Host h l) = Unit {0}

abbrev pub AsksCall : List ℕ → List (List ℕ) → Call → Type 0
AsksCall w ws Call.Reset = (w ≡ codes "reset") × (none_of ws ≡ true)
AsksCall w ws Call.Send = (w ≡ codes "send") × (none_of ws ≡ true)
AsksCall w ws (Call.Take s) = (w ≡ codes "take") × (last_of 16 65535 ws ≡ Ok s)
AsksCall w ws (Call.Read r) = (w ≡ codes "read") × (last_of 10 65535 ws ≡ Ok r)
AsksCall w ws (Call.Write r v) = (w ≡ codes "write") × (two_of 10 65535 16 65535 ws ≡ Ok (r, v))
AsksCall w ws (Call.Health h) = (w ≡ codes "health") × (last_of 16 65535 ws ≡ Ok h)
AsksCall w ws Call.Present = (w ≡ codes "present") × (none_of ws ≡ true)

abbrev pub AsksHost : List ℕ → List (List ℕ) → HostCall → List ℕ → Type 0
AsksHost w ws HostCall.Offer l = (w ≡ codes "offer") × (words_of l ≡ ws)
AsksHost w ws HostCall.Push l = (w ≡ codes "push") × (none_of ws ≡ true)
AsksHost w ws HostCall.Pull l = (w ≡ codes "pull") × (none_of ws ≡ true)
AsksHost w ws HostCall.Report l = (w ≡ codes "report") × (none_of ws ≡ true)

abbrev pub Asks : List ℕ → List (List ℕ) → Asked → Type 0
Asks w ws (Asked.Call c) = AsksCall w ws c
Asks w ws Asked.Dump = (w ≡ codes "dump") × (none_of ws ≡ true)
Asks w ws (Asked.Set s) = (w ≡ codes "set") × Sets name_of elements_of largest_of ws s.field s.element s.value
Asks w ws (Asked.Host h l) = AsksHost w ws h l.now

abbrev pub Reads : List (List ℕ) → Asked → Type 0
Reads [] a = ⊥
Reads (w ∷ ws) a = Asks w ws a
