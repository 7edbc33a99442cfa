-- `text::lines::to_newline` meets its contract: the bytes passed, and those before the newline from the place on, are
-- those before it in all of the text.
-- Assumes nothing.
use mathlib.Core.Bool.{not}
use mathlib.Core.Path.{refl, sym, ◌∙◌}
use native.Mathlib.Omega.{arith}
use borrow.Author.Tests.{eq-eqb}
use lib.Dec.{eqb}
use Rattle.std.proofs.lemmas.List.Sums.{prefix_len-drop_no, prefix_len-drop_all}
use Rattle.text.proofs.LineLaws.{passed}
use Rattle.text.proofs.WordLaws.{byte_place}
use Rattle.text.proofs.lines.to_newline.Goals as goal

pub loop-at-preserved : goal.loop-at-preserved
loop-at-preserved c =
    let l = c.loop-at in
    let s = c.args in
    let none = sym c.has_newline.ensures ∙ c.if-not-has_newline.true in
    (omega arith, passed s.text.now l.at 16 _ (omega arith) none l.invariant.1)

pub returns-else-text-at-ne10-clause-value : goal.returns-else-text-at-ne10-clause-value
returns-else-text-at-ne10-clause-value c =
    let l = c.loop-at-2 in
    let s = c.args in
    let here = prefix_len-drop_no (λ x. not (eqb x 10)) s.text.now l.at 0 (omega arith)
    (rw (eq-eqb _ _ c.if-text-at-ne10.false) refl) in
    rw (byte_place 10 s.text.now) (omega arith)

pub returns-after-loop-at-2-clause-value : goal.returns-after-loop-at-2-clause-value
returns-after-loop-at-2-clause-value c =
    let l = c.loop-at-2 in
    let s = c.args in
    let none = prefix_len-drop_all (λ x. not (eqb x 10)) s.text.now l.at (omega arith) in
    rw (byte_place 10 s.text.now) (omega arith)
