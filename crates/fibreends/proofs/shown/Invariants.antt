-- `fibreends::shown` meets its contract: a space and four digits are the most that a number takes.
-- Assumes nothing.
use Rattle.std.proofs.Common.{◌≡◌, ◌≤◌, ◌+◌, ◌*◌, length}
use Rattle.fibreends.proofs.shown.Given as goal

abbrev pub invariant-loop-i : goal.invariant-loop-i
invariant-loop-i l =
    (l.out.at ≤ l.initial.out.at + 5 * l.i)
    × (l.out.bytes.ghost_name ≡ l.initial.out.bytes.ghost_name)
    × (length l.out.bytes.now ≡ length l.initial.out.bytes.now)
