-- `End::set_health` meets its contract. Each return is the row of `health_of` whose test it knows. Assumes nothing.
use mathlib.Core.Bool.{false}
use mathlib.Core.Path.{◌≡◌, sym, ◌∙◌}
use borrow.Author.Tests.{lt-ltb, le-ltb}
use Rattle.end.specs.Good.{bad}
use Rattle.end.specs.Registers.{health_of}
use Rattle.laws.proofs.Bools.{cond_true, cond_false, hence}
use Rattle.end.proofs.End.set_health.Goals as goal
use Rattle.end.proofs.End.set_health.Goals.{Else-bad}

-- past the first test the end is one that answer 1 does not meet
fine : (c : Else-bad) → bad c.args.self ≡ false
fine c = hence c.bad.ensures c.if-bad.false

pub returns-then-bad : goal.returns-then-bad
unfolding health_of
returns-then-bad c = sym (cond_true _ _ (hence c.bad.ensures c.if-bad.true))

pub returns-then-health-gt3 : goal.returns-then-health-gt3
unfolding health_of
returns-then-health-gt3 c = sym (cond_false _ _ (fine (goal.at.returns-then-health-gt3 c).Else-bad) ∙ cond_true _ _ (lt-ltb 3 _ c.if-health-gt3.true))

pub returns : goal.returns
unfolding health_of
returns c = sym (cond_false _ _ (fine (goal.at.returns c).Else-bad) ∙ cond_false _ _ (le-ltb 3 _ c.if-health-gt3.false))
