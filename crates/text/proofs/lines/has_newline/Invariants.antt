-- `text::lines::has_newline` meets its contract: one of the bytes gone over is a newline, or none is.
-- Assumes nothing.
use mathlib.Core.Path.{◌≡◌}
use lib.ListN.{take}
use Rattle.text.proofs.LineLaws.{has}
use Rattle.text.proofs.lines.has_newline.Given as goal

abbrev pub invariant-loop-byte : goal.invariant-loop-byte
invariant-loop-byte l = l.found ≡ has (take l.byte-index l.bytes)
