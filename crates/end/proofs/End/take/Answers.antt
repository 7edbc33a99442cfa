-- `End::take` meets its contract. Each return is the row of `take_of` whose test it knows. Assumes nothing.
use mathlib.Core.Bool.{false}
use mathlib.Core.Path.{◌≡◌, sym, subst, ◌∙◌}
use borrow.Author.Tests.{lt-ltb, le-ltb}
use Rattle.end.specs.declared.End.{End}
use Rattle.end.specs.declared.good.Good.{Good}
use Rattle.end.specs.Good.{bad}
use Rattle.end.specs.Taking.{take_of}
use Rattle.laws.proofs.Bools.{cond_true, cond_false}
use Rattle.end.proofs.End.take.Goals as goal

-- past the first test the end is one that answer 1 does not meet
fine : {e : End} (g : Good) → g.end ≡ e → bad e ≡ false
fine g h = subst (λ (e : End). bad e ≡ false) h g.good

pub returns-in_default : goal.returns-in_default
unfolding take_of
returns-in_default c = sym (cond_true _ _ c.in_default.ensures)

pub returns-then-symbol-gt-LARGEST : goal.returns-then-symbol-gt-LARGEST
unfolding take_of
returns-then-symbol-gt-LARGEST c =
    sym (cond_false _ _ (fine c.in-Some.good c.in-Some.ensures) ∙ cond_true _ _ (lt-ltb 1023 _ c.if-symbol-gt-LARGEST.true))

pub returns : goal.returns
unfolding take_of
returns c =
    rw (c.taken.ensures, c.in-Some.ensures)
    (sym (cond_false _ _ (fine c.in-Some.good c.in-Some.ensures) ∙ cond_false _ _ (le-ltb 1023 _ c.if-symbol-gt-LARGEST.false)))
