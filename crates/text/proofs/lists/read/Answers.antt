-- `text::lists::read` meets its contract. The numbers read, and what the words that are left give behind them, are what
-- all the words give.
-- Assumes nothing.
use mathlib.Core.Path.{◌≡◌, sym, ap, ap₂, ◌∙◌}
use native.Mathlib.Nat.{sub-zero}
use native.Mathlib.Omega.{arith}
use lib.ListN.{length, take}
use Rattle.std.proofs.Common.{rules, Err, ℕ}
use Rattle.text.specs.Numbers.{number_of, these}
use Rattle.text.proofs.NumberLaws.{list_start, list_none, list_full, list_wrong, list_step, none_is}
use Rattle.text.proofs.lists.read.Goals as goal

pub loop-count-init : goal.loop-count-init
loop-count-init c = rw (sub-zero (length c.args.numbers.now)) (list_start _)

pub returns-in_default-clause-value : goal.returns-in_default-clause-value
returns-in_default-clause-value c = (omega arith, list_none _ _ _ _ c.loop-count.invariant c.in_default.ensures)

pub returns-in_err-numbers-clause-value : goal.returns-in_err-numbers-clause-value
returns-in_err-numbers-clause-value c =
    let l = c.loop-count in
    let wrong : c.from_residual.result ≡ Err c.in_err-numbers.field-0.0 = search rules in
    let u = c.up_to-spelling.ensures in
    let fault =
    sym c.in_err-numbers.was
    ∙ c.number.ensures.value
    ∙ ap₂ (λ (b m : ℕ). number_of b m c.in-Some.word.now) u.base_value u.most_value in
    rw wrong (list_wrong _ _ _ _ l.invariant _ _ _ c.in-Some.ensures.words (omega arith) fault)

pub loop-count-preserved : goal.loop-count-preserved
loop-count-preserved c =
    let l = c.loop-count in
    let u = c.up_to-spelling.ensures in
    let value =
    sym c.in_ok-numbers.was
    ∙ c.number.ensures.value
    ∙ ap₂ (λ (b m : ℕ). number_of b m c.in-Some.word.now) u.base_value u.most_value in
    list_step _ _ l.count _ l.numbers _ _ _ l.invariant c.in-Some.ensures.words (omega arith) (omega arith) value

pub returns-then-not-is_last-clause-value : goal.returns-then-not-is_last-clause-value
returns-then-not-is_last-clause-value c =
    let l = c.loop-count in
    list_full _ _ _ _ l.invariant (sym c.is_last.ensures ∙ c.if-not-is_last.true) (omega arith)

pub returns-clause-value : goal.returns-clause-value
returns-clause-value c =
    let l = c.loop-count in
    let all : l.count ≡ length l.numbers = omega arith in
    let read = list_none _ _ _ _ l.invariant (none_is _ (sym c.is_last.ensures ∙ c.if-not-is_last.false)) in
    (omega arith, read ∙ ap (λ (n : ℕ). these (take n l.numbers)) all)
