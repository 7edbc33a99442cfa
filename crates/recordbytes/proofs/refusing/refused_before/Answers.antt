-- `refusing::refused_before` meets its contract: the head, then the bool and the bytes on both sides of it.
-- Assumes nothing.
use Prim.Native.Nat.{ℕ}
use mathlib.Core.Bool.{Bool, ◌||◌}
use mathlib.Core.List.{List}
use mathlib.Core.Path.{◌≡◌, sym, ap, ◌∙◌}
use native.Mathlib.Omega.{arith}
use lib.Dec.{ltb}
use lib.ListN.{length, length-drop}
use lib.Seq.{length-take-le}
use Rattle.recordspec.specs.Record.{at, limits, front_of, back_of, refused_before}
use Rattle.recordspec.proofs.Refusing.{head_long, refused_head, refused_values, two_parts}
use borrow.Author.Rules.{rules}
use Rattle.recordbytes.proofs.refusing.refused_before.Goals as goal

limits_long : {l : List ℕ} → l ≡ limits → length l ≡ 98
unfolding limits front_of back_of
limits_long e = ap length e

pub returns-then-wrong_head : goal.returns-then-wrong_head
unfolding refused_before
returns-then-wrong_head c = refused_head _ _ _ _ _ _ c.wrong_head.ensures c.if-wrong_head.true

pub bounds-area-71 : goal.bounds-area-71
bounds-area-71 c =
    let l = head_long _ _ _ c.wrong_head.ensures c.if-wrong_head.false in
    search rules

pub slice_bounds-exceeds-count : goal.slice_bounds-exceeds-count
slice_bounds-exceeds-count c =
    let l = head_long _ _ _ c.wrong_head.ensures c.if-wrong_head.false in
    search rules

pub slice_bounds-exceeds-start : goal.slice_bounds-exceeds-start
slice_bounds-exceeds-start c =
    let l = head_long _ _ _ c.wrong_head.ensures c.if-wrong_head.false in
    search rules

pub slice_bounds-exceeds-end : goal.slice_bounds-exceeds-end
slice_bounds-exceeds-end c =
    let l = head_long _ _ _ c.wrong_head.ensures c.if-wrong_head.false in
    search rules

pub exceeds-front-requires : goal.exceeds-front-requires
exceeds-front-requires c =
    let l = head_long _ _ _ c.wrong_head.ensures c.if-wrong_head.false in
    let m = limits_long c.limits-limits.ensures in
    length-take-le 68 _ (rw length-drop (omega arith)) ∙ sym (length-take-le 68 _ (omega arith))

pub slice_bounds-exceeds-count-2 : goal.slice_bounds-exceeds-count-2
slice_bounds-exceeds-count-2 c =
    let l = head_long _ _ _ c.wrong_head.ensures c.if-wrong_head.false in
    search rules

pub slice_bounds-exceeds-start-2 : goal.slice_bounds-exceeds-start-2
slice_bounds-exceeds-start-2 c =
    let l = head_long _ _ _ c.wrong_head.ensures c.if-wrong_head.false in
    search rules

pub slice_bounds-exceeds-end-2 : goal.slice_bounds-exceeds-end-2
slice_bounds-exceeds-end-2 c =
    let m = limits_long c.limits-limits.ensures in
    search (rules, length-take-le 68 c.limits-limits.result (omega arith))

pub exceeds-back-requires : goal.exceeds-back-requires
exceeds-back-requires c =
    let l = head_long _ _ _ c.wrong_head.ensures c.if-wrong_head.false in
    let m = limits_long c.limits-limits.ensures in
    search rules

pub returns : goal.returns
unfolding refused_before
returns c =
    let a = c.args in
    let l = head_long _ _ _ c.wrong_head.ensures c.if-wrong_head.false in
    ap (λ (b : Bool). ltb 1 (at a.area.now 71) || b)
    (two_parts a.area.now a.version.size _ _ _ l (search rules) (search rules) c.limits-limits.ensures c.exceeds-front.ensures
    c.exceeds-back.ensures)
    ∙ refused_values _ _ _ _ _ _ c.wrong_head.ensures c.if-wrong_head.false
