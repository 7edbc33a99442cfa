-- `Good::to_control` meets its contract, by the two tests. Assumes nothing.
use mathlib.Core.Path.{refl, sym}
use Rattle.crc.specs.Bits.{odd}
use Rattle.end.proofs.RegisterLaws.{mask_set, mask_clear, write_bits, write_blocked, write_done}
use Rattle.end.proofs.good.Good.to_control.Goals as goal

pub returns-then-value-ne0 : goal.returns-then-value-ne0
returns-then-value-ne0 c =
    let a = c.args in
    sym (write_bits a.self.end 2308 a.value a.self.good refl refl (mask_set a.value c.if-value-ne0.true refl))

pub returns-then-blocked : goal.returns-then-blocked
unfolding odd
returns-then-blocked c =
    let a = c.args in
    let m = mask_clear a.value c.if-value-ne0.false refl in
    sym (write_blocked a.self.end 2308 a.value a.self.good refl refl m c.if-blocked.true)

pub returns : goal.returns
unfolding odd
returns c =
    let a = c.args in
    let m = mask_clear a.value c.if-value-ne0.false refl in
    rw c.write_control-end.ensures
    (sym (write_done a.self.end 2308 a.value a.self.good refl refl m c.if-blocked.false))
