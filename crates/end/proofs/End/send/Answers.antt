-- `End::send` meets its contract. The slot leaves the position, so it is a place of the twelve symbols. Assumes
-- nothing.
use mathlib.Core.Path.{sym}
use native.Mathlib.Omega.{arith}
use Rattle.end.specs.Sending.{send_of}
use Rattle.laws.proofs.Bools.{cond_true, cond_false, hence}
use Rattle.end.proofs.Laws.{good, slot_position}
use Rattle.end.proofs.End.send.Goals as goal

pub returns-then-bad : goal.returns-then-bad
unfolding send_of
returns-then-bad c = sym (cond_true _ _ (hence c.bad.ensures c.if-bad.true))

pub bounds-slot-from : goal.bounds-slot-from
bounds-slot-from c =
    let g = good _ (hence c.bad.ensures c.if-bad.false) in
    rw (c.from.ensures, c.slot_of-slot.ensures, slot_position) (omega (arith, g.position))

pub moved_on-requires : goal.moved_on-requires
moved_on-requires c =
    rw (c.slot_of-slot.ensures, slot_position) (good _ (hence c.bad.ensures c.if-bad.false)).position

pub returns : goal.returns
unfolding send_of
returns c =
    rw (c.from.ensures, c.moved_on.ensures, c.slot_of-slot.ensures)
    (sym (cond_false _ _ (hence c.bad.ensures c.if-bad.false)))
