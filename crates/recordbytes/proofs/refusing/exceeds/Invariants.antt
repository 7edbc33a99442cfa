-- `refusing::exceeds` meets its contract. The invariant: found so far, or found in what is left.
-- Assumes nothing.
use mathlib.Core.Bool.{◌||◌}
use mathlib.Core.Path.{◌≡◌}
use Rattle.std.specs.Iterator.Adapters.{zip_first, zip_second}
use Rattle.std.specs.Slice.Iter.{iter_rest}
use Rattle.recordspec.specs.Record.{exceeds}
use Rattle.recordbytes.proofs.refusing.exceeds.Given as goal

abbrev pub invariant-loop-byte : goal.invariant-loop-byte
invariant-loop-byte l =
    (l.found || exceeds (iter_rest (zip_first l.byte-iterator)) (iter_rest (zip_second l.byte-iterator)))
    ≡ exceeds l.bytes l.limits
