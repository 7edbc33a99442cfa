-- `writing::put_each` meets its contract. The invariant: what stood before the place, and behind it the bytes before i.
-- Assumes nothing.
use Prim.Native.Nat.{◌+◌}
use mathlib.Core.List.{◌++◌}
use mathlib.Core.Path.{◌≡◌}
use lib.ListN.{length, take}
use Rattle.recordspec.specs.Record.{size}
use Rattle.recordbytes.proofs.writing.put_each.Given as goal

abbrev pub invariant-loop-i : goal.invariant-loop-i
invariant-loop-i l =
    (length l.area ≡ size) × (take (l.fn.at + l.i) l.area ≡ take l.fn.at l.fn.area ++ take l.i l.fn.bytes)
