-- `TakingHost::take` meets its contract. Each return knows whether the number is in turn, and whether it is 0.
-- Assumes nothing.
use Prim.Native.Nat.{ℕ}
use mathlib.Core.List.{List}
use mathlib.Core.Path.{sym, ap, ◌∙◌}
use borrow.Author.Tests.{eq-eqb, ne_eqb}
use Rattle.laws.proofs.Bools.{cond_true, cond_false}
use Rattle.report.specs.Taking.{filled_of, whole_or, take_of}
use Rattle.report.proofs.TakingHost.take.Goals as goal

pub returns-in-Some : goal.returns-in-Some
unfolding take_of
returns-in-Some c =
    let h = c.args.self in
    let p = c.in-Some in
    c.whole_or.ensures
    ∙ (ap (λ (b : List ℕ). whole_or b p.part.number) c.filled.ensures
    ∙ (ap (λ (n : ℕ). whole_or (filled_of h.block n c.args.bytes) n) p.ensures.1 ∙ sym (cond_true _ _ p.ensures.0)))

pub returns-then-number-eq0 : goal.returns-then-number-eq0
unfolding take_of
returns-then-number-eq0 c =
    c.whole_or-then-number-eq0.ensures
    ∙ (ap (λ (b : List ℕ). whole_or b 0) c.filled-then-number-eq0.ensures
    ∙ sym (cond_false _ _ c.in_default.ensures ∙ cond_true _ _ (eq-eqb _ _ c.if-number-eq0.true)))

pub returns : goal.returns
unfolding take_of
returns c =
    rw c.fresh-fresh.ensures
    (sym (cond_false _ _ c.in_default.ensures ∙ cond_false _ _ (ne_eqb _ _ c.if-number-eq0.false)))
