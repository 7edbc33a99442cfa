-- `End::take` meets its contract. Each return is the row of `take_of` whose test it knows. Assumes nothing.
use mathlib.Core.Bool.{Bool, false, ◌||◌}
use mathlib.Core.Path.{◌≡◌, sym, ap, ◌∙◌}
use lib.Dec.{ltb}
use Rattle.fibre.specs.Good.{largest, bad}
use Rattle.fibre.specs.Taking.{take_of}
use Rattle.laws.proofs.Bools.{cond_true, cond_false, hence}
use Rattle.fibre.proofs.End.take.Goals as goal
use Rattle.fibre.proofs.End.take.Goals.{Else-bad-block}

-- past the first test neither end nor block is one that answer 1 meets
fine : (c : Else-bad-block)
    → (bad c.args.self || ltb largest c.args.block.control)
    ≡ false
fine c =
    hence (ap (λ (b : Bool). b || ltb largest c.args.block.control) c.bad.ensures) c.if-bad-block.false

pub returns-then-bad-block : goal.returns-then-bad-block
unfolding take_of
returns-then-bad-block c =
    let test = ap (λ (b : Bool). b || ltb largest c.args.block.control) c.bad.ensures in
    sym (cond_true _ _ (hence test c.if-bad-block.true))

pub returns-then-marked : goal.returns-then-marked
unfolding take_of
returns-then-marked c = sym (cond_false _ _ (fine (goal.at.returns-then-marked c).Else-bad-block) ∙ cond_true _ _ c.if-marked.true)

pub returns : goal.returns
unfolding take_of
returns c =
    rw (c.stored.ensures, c.heard.ensures)
    (sym (cond_false _ _ (fine (goal.at.returns c).Else-bad-block) ∙ cond_false _ _ c.if-marked.false))
