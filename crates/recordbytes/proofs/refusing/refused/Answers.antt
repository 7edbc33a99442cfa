-- `refusing::refused` meets its contract: the head, then presence as a number and every byte by its limit.
-- Assumes nothing.
use Prim.Native.Nat.{ℕ}
use mathlib.Core.Bool.{Bool, ◌||◌}
use mathlib.Core.List.{List}
use mathlib.Core.Path.{◌≡◌, ap, ap₂, ◌∙◌}
use lib.Dec.{ltb}
use native.Mathlib.Omega.{arith}
use lib.ListN.{length, take, drop, length-drop}
use lib.Seq.{take_all}
use Rattle.receiver.specs.Presence.{lasting}
use Rattle.recordspec.specs.Record.{size, version, presence_of, exceeds, refused}
use Rattle.recordspec.proofs.Refusing.{head_long, refused_head, refused_values}
use Rattle.recordbytes.proofs.refusing.refused.Goals as goal

pub returns-then-wrong_head : goal.returns-then-wrong_head
unfolding refused
returns-then-wrong_head c = refused_head _ _ _ _ _ _ c.wrong_head.ensures c.if-wrong_head.true

pub returns-in_default : goal.returns-in_default
returns-in_default c =
    let l = head_long _ _ _ c.wrong_head.ensures c.if-wrong_head.false in
    absurd (c.in_default.ensures.cases l)

pub returns : goal.returns
unfolding refused
returns c =
    let area = c.args.area.now in
    let same : c.in-Some.record.now ≡ area = c.in-Some.ensures.cases.same in
    let long : length area ≡ size = head_long _ _ _ c.wrong_head.ensures c.if-wrong_head.false in
    let behind : take 98 (drop 3 area) ≡ drop 3 area = take_all 98 (drop 3 area) (rw length-drop (omega arith)) in
    ap₂ (λ (x : ℕ) (b : Bool). ltb lasting x || b) (c.presence_of-left.ensures ∙ ap presence_of same)
    (c.exceeds-above.ensures
    ∙ ap₂ exceeds (ap (λ (r : List ℕ). take 98 (drop 3 r)) same ∙ behind) c.limits.ensures)
    ∙ refused_values size version lasting (presence_of area) (drop 3 area) area c.wrong_head.ensures c.if-wrong_head.false
