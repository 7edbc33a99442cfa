-- `frame::crc_right` meets its contract: BuildLaws says what its loop keeps. Assumes nothing.
use lib.ListN.{length}
use mathlib.Core.Path.{◌≡◌}
use Rattle.frame.proofs.BuildLaws.{Reading}
use Rattle.frame.proofs.crc_right.Given as goal

abbrev pub invariant-loop-place : goal.invariant-loop-place
invariant-loop-place l = (length l.byte-items ≡ 10) × Reading l.symbols l.byte-items l.place
