-- `consolecommands::dump::dumped` meets its contract: there is room for the fields from this one on. With what is to be
-- printed of them, what was printed is that of them all.
-- Assumes nothing.
use Rattle.std.proofs.Common.{ℕ, List, ◌≡◌, ◌≤◌, ◌+◌, ◌++◌, length, drop}
use Rattle.text.specs.Written.{Kept, written}
use Rattle.consolecommands.specs.Dump.{Dump, dump_room}
use Rattle.consolecommands.proofs.dump.dumped.Given as goal

abbrev pub invariant-loop-i : goal.invariant-loop-i
invariant-loop-i g l =
    (l.out.at + dump_room g.F.Field.name_of g.F.Field.elements_of (drop l.i l.fields) ≤ length l.out.bytes.now)
    × Kept l.fn.out l.out
    × ((rest : List ℕ) → Dump g.F.Field.name_of g.F.Field.elements_of (goal.V-post g l.value) (drop l.i l.fields) rest
    → (text : List ℕ)
    × Dump g.F.Field.name_of g.F.Field.elements_of (goal.V-post g l.value) l.fields text
    × (written l.out ++ rest ≡ written l.fn.out ++ text))
