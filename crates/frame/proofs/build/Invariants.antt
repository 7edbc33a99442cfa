-- `frame::build` meets its contract: BuildLaws says what its loop keeps. Assumes nothing.
use mathlib.Core.Path.{◌≡◌}
use lib.ListN.{length}
use Rattle.frame.proofs.BuildLaws.{Building}
use Rattle.frame.proofs.build.Given as goal

abbrev pub invariant-loop-place : goal.invariant-loop-place
invariant-loop-place l = (length l.symbols ≡ 12) × Building l.fn.bytes l.symbols l.place
