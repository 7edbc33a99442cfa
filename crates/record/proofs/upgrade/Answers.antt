-- `upgrade` meets its contract: neither version, a wrong size, or the record of before as one of now.
-- Assumes nothing.
use mathlib.Core.Path.{refl}
use Rattle.recordspec.proofs.Refusing.{one_of_two}
use Rattle.record.proofs.Gave.{upgrade_bad, upgrade_size, upgrade_done}
use Rattle.record.proofs.upgrade.Goals as goal

pub returns-then-refused_before : goal.returns-then-refused_before
returns-then-refused_before c =
    let e =
    upgrade_bad c.args.old.now c.args.area.now c.refused_before.ensures c.refused_before-2.ensures
    c.if-refused_before.true refl
    in
    record { value = e.0; area_after = e.1 }

pub returns-in_default : goal.returns-in_default
returns-in_default c =
    let e =
    upgrade_size c.args.old.now c.args.area.now c.refused_before.ensures c.refused_before-2.ensures
    c.if-refused_before.false c.in_default.ensures.cases refl
    in
    record { value = e.0; area_after = e.1 }

pub put_newer-requires : goal.put_newer-requires
put_newer-requires c =
    let l = one_of_two _ c.refused_before.ensures c.refused_before-2.ensures c.if-refused_before.false in
    record { size_one_in_bounds = l.0; len_bound = l.1 }

pub returns : goal.returns
returns c =
    let e =
    upgrade_done c.args.old.now c.args.area.now c.refused_before.ensures c.refused_before-2.ensures
    c.if-refused_before.false c.in-Some.ensures.cases.long c.put_newer.ensures
    in
    record { value = e.0; area_after = e.1 }
