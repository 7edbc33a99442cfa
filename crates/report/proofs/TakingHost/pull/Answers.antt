-- `TakingHost::pull` meets its contract. Each return knows what 3.2313 gave. Assumes nothing.
use mathlib.Core.Bool.{true, false}
use mathlib.Core.Path.{◌≡◌, sym, ap, ◌∙◌}
use borrow.Author.Rules.{rules}
use borrow.Author.Tests.{eq-eqb, ne_eqb}
use Rattle.crc.specs.Bits.{odd}
use Rattle.end.specs.declared.Read.{Read}
use Rattle.laws.proofs.Bools.{cond_true, cond_false}
use Rattle.report.specs.Sending.{done}
use Rattle.report.specs.Taking.{pulled_by, pull_of}
use Rattle.report.proofs.TakingHost.pull.Goals as goal

pub returns-then-ne : goal.returns-then-ne
unfolding pull_of
returns-then-ne c =
    let h = c.args.self in
    let refused : done c.read-status.result.answer ≡ false = search rules in
    sym (ap (λ (x : Read). pulled_by h x) (sym c.read-status.ensures) ∙ cond_false _ _ refused)

pub returns-then-status-ne1 : goal.returns-then-status-ne1
unfolding pull_of odd
returns-then-status-ne1 c =
    let h = c.args.self in
    let read : done c.read-status.result.answer ≡ true = search rules in
    sym
    (ap (λ (x : Read). pulled_by h x) (sym c.read-status.ensures)
    ∙ (cond_true _ _ read ∙ cond_false _ _ (ne_eqb _ _ c.if-status-ne1.true)))

pub returns : goal.returns
unfolding pull_of odd
returns c =
    let h = c.args.self in
    let read : done c.read-status.result.answer ≡ true = search rules in
    rw (c.take-what.ensures, c.words_of.ensures)
    (sym
    (ap (λ (x : Read). pulled_by h x) (sym c.read-status.ensures)
    ∙ (cond_true _ _ read ∙ cond_true _ _ (eq-eqb _ _ c.if-status-ne1.false))))
