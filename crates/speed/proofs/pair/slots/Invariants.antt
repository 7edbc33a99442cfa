-- `pair::slots` meets its contract. The loop's invariant: what is left to run from here ends where the whole run ends.
-- Assumes nothing.
use mathlib.Core.Path.{◌≡◌}
use Rattle.speed.specs.Pair.{run, start}
use Rattle.speed.proofs.pair.slots.Given as goal

abbrev pub invariant-loop-left : goal.invariant-loop-left
invariant-loop-left l = run l.left l.pair ≡ run l.count start
