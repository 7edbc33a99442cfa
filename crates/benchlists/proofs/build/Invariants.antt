-- `benchlists::build` meets its contract: a symbol takes four bytes, and those so far stand behind what stood there.
-- Assumes nothing.
use Rattle.std.proofs.Common.{◌≡◌, ◌≤◌, ◌+◌, ◌*◌, ◌++◌, length, take}
use Rattle.benchlists.specs.Listed.{symbols_of}
use Rattle.benchlists.proofs.build.Given as goal

abbrev pub invariant-loop-i : goal.invariant-loop-i
invariant-loop-i l =
    (l.out.at ≤ l.fn.out.at + 4 * l.i)
    × (l.out.bytes.ghost_name ≡ l.fn.out.bytes.ghost_name)
    × (length l.out.bytes.now ≡ length l.fn.out.bytes.now)
    × (take l.out.at l.out.bytes.now ≡ take l.fn.out.at l.fn.out.bytes.now ++ symbols_of l.i l.symbol-items)
