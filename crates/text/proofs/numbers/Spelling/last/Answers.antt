-- `text::numbers::Spelling::last` meets its contract: no word stands behind the next one, or one does.
-- Assumes nothing.
use mathlib.Core.Path.{◌≡◌, ap, ◌∙◌, sym}
use Rattle.std.proofs.Common.{rules, Err}
use Rattle.text.proofs.NumberLaws.{last_first, last_extra}
use Rattle.text.specs.Numbers.{number_in}
use Rattle.text.proofs.numbers.Spelling.last.Goals as goal

pub returns-then-not-is_last-clause-value : goal.returns-then-not-is_last-clause-value
returns-then-not-is_last-clause-value c =
    last_extra _ _ _ (rw c.past_word.ensures.words at (sym c.is_last.ensures ∙ c.if-not-is_last.true))

pub returns-in_err-number-clause-value : goal.returns-in_err-number-clause-value
returns-in_err-number-clause-value c =
    let wrong : c.from_residual.result ≡ Err c.in_err-number.field-0.0 = search rules in
    wrong
    ∙ ap number_in (sym c.in_err-number.was)
    ∙ c.next.ensures.value
    ∙ last_first _ _ _ (rw c.past_word.ensures.words at (sym c.is_last.ensures ∙ c.if-not-is_last.false))

pub returns-clause-value : goal.returns-clause-value
returns-clause-value c =
    ap number_in (sym c.in_ok-number.was)
    ∙ c.next.ensures.value
    ∙ last_first _ _ _ (rw c.past_word.ensures.words at (sym c.is_last.ensures ∙ c.if-not-is_last.false))
