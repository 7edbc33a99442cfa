-- `writing::put_newer` meets its contract: one part behind the other, and zeros in what is left.
-- Assumes nothing.
use Prim.Native.Nat.{ℕ, ◌-◌}
use mathlib.Core.Path.{◌≡◌, refl, ap, ◌∙◌}
use native.Mathlib.Omega.{arith}
use lib.ListN.{length, replicate}
use borrow.Rule.Slice.PartMut.{same_len_mid}
use Rattle.std.proofs.lemmas.Slice.{take-put_mid}
use Rattle.laws.proofs.Pieces.{rest}
use Rattle.recordspec.proofs.Parts.{built_newer}
use borrow.Author.Rules.{rules}
use Rattle.recordbytes.proofs.writing.put_newer.Goals as goal

pub returns : goal.returns
returns c =
    let r = c.args.old.now in
    let zeros = c.fill.new.self in
    let cleared : zeros ≡ replicate (102 - length r) 0 =
    c.fill.ensures.after (λ y e. e) ∙ ap (λ (n : ℕ). replicate {A = ℕ} n 0) (search rules)
    in
    let long = same_len_mid (length r - 1) _ c.put_each.new.area zeros c.fill.ensures.len ∙ c.put_each.array_long in
    built_newer r c.put_head.new.area c.put.new.area c.put_each.new.area _ _ _ zeros (omega arith) (omega arith) long refl (rest 72 r) cleared c.put_head.ensures
    c.put.ensures c.put_each.ensures (take-put_mid (length r - 1) _ c.put_each.new.area zeros _ refl (omega arith))
