-- `text::numbers::spelled_long` meets its contract. The digits that are left, behind the value so far, spell what the
-- whole word spells.
-- Assumes nothing.
use mathlib.Core.Path.{◌≡◌, refl, ap, ◌∙◌}
use native.Mathlib.Omega.{arith}
use Rattle.std.proofs.Common.{rules, Err}
use Rattle.text.proofs.NumberLaws.{long_more, long_digits, long_large, long_end}
use Rattle.text.proofs.numbers.spelled_long.Goals as goal

pub returns-in_err-value-clause-value : goal.returns-in_err-value-clause-value
returns-in_err-value-clause-value c =
    let l = c.loop-byte in
    let a = c.args in
    let d = c.in_err-value.ensures in
    let wrong : c.from_residual.result ≡ Err c.in_err-value.field-0.0 = search rules in
    wrong ∙ ap Err d.0 ∙ long_digits a.base a.most l.value l.byte-index _ a.word.now l.invariant.1 refl (omega arith) d.1

pub returns-then-value-most-clause-value : goal.returns-then-value-most-clause-value
returns-then-value-most-clause-value c =
    let l = c.loop-byte in
    let d = c.in_ok-value.ensures in
    long_large _ _ _ _ _ _ l.invariant.1 d.0 (omega arith) d.1 c.if-value-most.true

pub loop-byte-preserved : goal.loop-byte-preserved
loop-byte-preserved c =
    let l = c.loop-byte in
    let d = c.in_ok-value.ensures in
    (c.if-value-most.false, long_more _ _ _ _ _ _ l.invariant.1 d.0 (omega arith) d.1 c.if-value-most.false)

pub returns-clause-value : goal.returns-clause-value
returns-clause-value c = let l = c.loop-byte in long_end _ _ _ l.byte-index c.args.word.now l.invariant.1 (omega arith)
