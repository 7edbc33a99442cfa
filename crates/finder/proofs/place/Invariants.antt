-- `finder::place` meets its contract: no place before the present one passes, and SearchLaws says what the inner
-- loop keeps of the twelve symbols there, and which places a fault rules out. Assumes nothing.
use Prim.Native.Nat.{◌+◌, ◌-◌, ◌≤◌}
use mathlib.Core.Bool.{false}
use mathlib.Core.Path.{◌≡◌}
use lib.ListN.{length}
use Rattle.finder.proofs.FinderLaws.{NoneBefore}
use Rattle.finder.proofs.SearchLaws.{window, Matching}
use Rattle.finder.proofs.place.Given as goal

abbrev pub invariant-loop-k : goal.invariant-loop-k
invariant-loop-k l =
    (l.at ≡ l.initial.at) × (l.at + 12 ≤ length l.list) × NoneBefore l.list l.at × Matching (window l.list l.at) l.symbols l.k

abbrev pub invariant-places : goal.invariant-places
invariant-places l =
    (l.at ≤ length l.list) × (length l.symbols ≡ 12) × (l.found ≡ false) × NoneBefore l.list l.at

abbrev pub decreases-places : goal.decreases-places
decreases-places l = length l.list - l.at
