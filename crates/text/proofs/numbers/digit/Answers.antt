-- `text::numbers::digit` meets its contract: a digit in base sixteen that is none of the base is none.
-- Assumes nothing.
use mathlib.Core.Path.{◌≡◌, refl, ap, ◌∙◌}
use native.Mathlib.Omega.{arith}
use Rattle.text.specs.Numbers.{digit_of}
use Rattle.text.proofs.NumberLaws.{digit_small, digit_large}
use Rattle.text.proofs.numbers.digit.Goals as goal

pub returns-in-Some : goal.returns-in-Some
returns-in-Some c =
    let v = c.in-Some.ensures.value in
    let e : c.in-Some.digit ≡ digit_of c.args.byte = v.1 ∙ digit_small _ v.0 ∙ ap digit_of c.from.ensures in
    (c.from-in-Some.ensures ∙ e, omega arith)

pub returns-in_default : goal.returns-in_default
returns-in_default c =
    let v = c.in-Some.ensures.value in
    let e : c.in-Some.digit ≡ digit_of c.args.byte = v.1 ∙ digit_small _ v.0 ∙ ap digit_of c.from.ensures in
    (refl, omega arith)

pub returns-in_default-2 : goal.returns-in_default-2
returns-in_default-2 c =
    let none = c.in_default.ensures.value in
    let large = digit_large c.from.result (omega arith) in
    let e : digit_of c.from.result ≡ digit_of c.args.byte = ap digit_of c.from.ensures in
    (refl, omega arith)
