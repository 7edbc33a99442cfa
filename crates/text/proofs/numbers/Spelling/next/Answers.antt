-- `text::numbers::Spelling::next` meets its contract: the word that stands there is spelled, or none does.
-- Assumes nothing.
use mathlib.Core.Path.{◌≡◌, refl, sym, ap, ◌∙◌}
use Rattle.std.proofs.Common.{rules, Err, []}
use Rattle.text.specs.declared.fault.Fault.{Fault}
use Rattle.text.specs.Numbers.{first_of, number_in}
use Rattle.text.specs.Words.{words_of, rest_of, Stands}
use Rattle.text.proofs.WordLaws.{rest_place}
use Rattle.text.proofs.numbers.Spelling.next.Goals as goal

pub returns-in_err-word-clause-value : goal.returns-in_err-word-clause-value
unfolding first_of
returns-in_err-word-clause-value c =
    let wrong : c.from_residual.result ≡ Err Fault.Missing = search rules in
    let none : words_of c.args.line.now ≡ [] = search rules in
    ap number_in wrong ∙ rw none refl

pub returns-in_err-number-clause-value : goal.returns-in_err-number-clause-value
unfolding first_of
returns-in_err-number-clause-value c =
    let wrong : c.from_residual-in_err-number.result ≡ Err c.in_err-number.field-0.0 = search rules in
    let some : Stands c.args.line.now c.in_ok-word.word.now c.in_ok-word.rest.now = search rules in
    ap number_in wrong ∙ rw some.words (sym c.in_err-number.was ∙ c.number.ensures.value)

pub returns-clause-value : goal.returns-clause-value
unfolding first_of
returns-clause-value c =
    let some : Stands c.args.line.now c.in_ok-word.word.now c.in_ok-word.rest.now = search rules in
    rw some.words (sym c.in_ok-number.was ∙ c.number.ensures.value)

pub returns-clause-words : goal.returns-clause-words
unfolding rest_of
returns-clause-words c =
    let some : Stands c.args.line.now c.in_ok-word.word.now c.in_ok-word.rest.now = search rules in
    rw some.words refl

pub returns-clause-place : goal.returns-clause-place
returns-clause-place c =
    let some : Stands c.args.line.now c.in_ok-word.word.now c.in_ok-word.rest.now = search rules in
    rest_place _ _ _ some
