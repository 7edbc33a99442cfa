-- `SendingHost::push` meets its contract. Each return knows whether a block is under way, and whether a write was refused.
-- Assumes nothing.
use Prim.Native.Nat.{ℕ}
use mathlib.Core.Bool.{true, false}
use mathlib.Core.Path.{◌≡◌, ap, ◌∙◌, sym, subst}
use borrow.Author.Rules.{rules}
use borrow.Author.Tests.{lt-ltb, le-ltb}
use Rattle.std.specs.Prelude.{ltb}
use Rattle.end.specs.declared.Next.{Next}
use Rattle.laws.proofs.Bools.{cond_true, cond_false}
use Rattle.report.specs.declared.part.Part.{Part}
use Rattle.report.specs.Sending.{done, written_of, pushed_by, push_of}
use Rattle.report.proofs.SendingHost.push.Goals as goal

-- the number of a part is one of 0 to 15
small : {n : ℕ} (p : Part) → p.number ≡ n → ltb n 16 ≡ true
small p h = subst (λ (n : ℕ). ltb n 16 ≡ true) h (lt-ltb _ _ p.in_block)

pub returns-in_default : goal.returns-in_default
unfolding push_of
returns-in_default c = sym (cond_false _ _ (le-ltb _ _ c.in_default.ensures))

pub returns-then-ne : goal.returns-then-ne
unfolding push_of
returns-then-ne c =
    let h = c.args.self in
    let refused : done c.written-written.result.answer ≡ false = search rules in
    rw c.refusal.ensures
    (sym
    (cond_true _ _ (small c.in-Some.part c.in-Some.ensures)
    ∙ (ap (λ (n : ℕ). pushed_by h (written_of h.block n c.args.end)) (sym c.in-Some.ensures)
    ∙ (ap (λ (x : Next). pushed_by h x) (sym c.written-written.ensures) ∙ cond_false _ _ refused))))

pub returns : goal.returns
unfolding push_of
returns c =
    let h = c.args.self in
    let written : done c.written-written.result.answer ≡ true = search rules in
    sym
    (cond_true _ _ (small c.in-Some.part c.in-Some.ensures)
    ∙ (ap (λ (n : ℕ). pushed_by h (written_of h.block n c.args.end)) (sym c.in-Some.ensures)
    ∙ (ap (λ (x : Next). pushed_by h x) (sym c.written-written.ensures) ∙ cond_true _ _ written)))
