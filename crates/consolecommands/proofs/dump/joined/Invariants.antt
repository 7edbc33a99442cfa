-- `consolecommands::dump::joined` meets its contract: four digits are the most that a value takes, and with a comma before
-- it five. What was printed so far are the elements before this one.
-- Assumes nothing.
use Rattle.std.proofs.Common.{ℕ, List, ◌≡◌, ◌≤◌, ◌+◌, ◌*◌, ◌++◌}
use Rattle.text.specs.Written.{Kept, written}
use Rattle.consolecommands.specs.Dump.{Elements}
use Rattle.consolecommands.proofs.dump.joined.Given as goal

abbrev pub invariant-loop-i : goal.invariant-loop-i
invariant-loop-i g l =
    (l.out.at ≤ l.fn.out.at + 5 * l.i)
    × Kept l.fn.out l.out
    × ((text : List ℕ)
    × Elements (goal.V-post g l.value l.field) l.i text
    × (written l.out ≡ written l.fn.out ++ text))
