-- `console::serve` is safe and ends: what is held of the input stands in the buffer, and the output has the room of a
-- turn.
-- Assumes nothing.
use Rattle.std.proofs.Common.{◌≡◌, ◌≤◌, length}
use Rattle.console.specs.Ready.{turn_room}
use Rattle.text.specs.Lines.{Holds}
use Rattle.text.specs.Written.{Kept}
use Rattle.console.proofs.serve.Given as goal

abbrev pub invariant-loop : goal.invariant-loop
invariant-loop g l =
    Holds l.held (length l.text)
    × (length l.text ≡ length l.initial.text)
    × (turn_room ≤ length l.out.bytes.now)
    × Kept l.fn.out l.out
