-- `frame::symbol_of` meets its contract, by the parity of its byte. Assumes nothing.
use native.Mathlib.Nat.{add-zero}
use mathlib.Core.Path.{sym, ◌∙◌}
use Rattle.frame.proofs.FrameLaws.{symbol_compared}
use Rattle.frame.proofs.symbol_of.Goals as goal

pub returns-then-parity-odd : goal.returns-then-parity-odd
returns-then-parity-odd c =
    let e = c.from-data.ensures in
    let p = rw e at c.parity.ensures in
    let h = symbol_compared c.args.byte c.parity.result c.args.odd c.ranges.byte.fits p in
    e ∙ sym (add-zero c.args.byte) ∙ rw c.if-parity-odd.true at h

pub returns-else-parity-odd : goal.returns-else-parity-odd
returns-else-parity-odd c =
    let e = c.from-data.ensures in
    let p = rw e at c.parity.ensures in
    let h = symbol_compared c.args.byte c.parity.result c.args.odd c.ranges.byte.fits p in
    rw e (rw c.if-parity-odd.false at h)
