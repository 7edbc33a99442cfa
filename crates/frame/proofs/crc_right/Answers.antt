-- `frame::crc_right` meets its contract: BuildLaws says what its loop keeps. Assumes nothing.
use native.Mathlib.Omega.{arith}
use Rattle.frame.proofs.BuildLaws.{data_last}
use Rattle.frame.proofs.crc_right.Goals as goal

pub returns : goal.returns
returns c =
    let at = c.loop-place in
    rw (c.from_le_bytes.ensures, c.data_of-2.ensures, c.data_of-3.ensures)
    (data_last c.args.symbols at.byte-items at.place c.crc.result (omega arith) at.invariant.0 c.crc.ensures at.invariant.1)
