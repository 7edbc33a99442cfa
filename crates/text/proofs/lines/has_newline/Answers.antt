-- `text::lines::has_newline` meets its contract: one of the bytes gone over is a newline, or none is.
-- Assumes nothing.
use mathlib.Core.Path.{refl}
use native.Mathlib.Omega.{arith}
use Rattle.text.specs.Bytes.{index_of}
use Rattle.text.proofs.LineLaws.{has_more, has_whole}
use Rattle.text.proofs.lines.has_newline.Goals as goal

pub loop-byte-init : goal.loop-byte-init
unfolding index_of
loop-byte-init c = refl

pub loop-byte-preserved : goal.loop-byte-preserved
loop-byte-preserved c = has_more c.args.bytes.now c.loop-byte.byte-index (omega arith) c.loop-byte.invariant

pub returns : goal.returns
returns c = has_whole c.args.bytes.now c.loop-byte.byte-index (omega arith) c.loop-byte.invariant
