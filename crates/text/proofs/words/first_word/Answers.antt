-- `text::words::first_word` meets its contract: the line has a first word, or none.
-- Assumes nothing.
use mathlib.Core.Bool.{true, false}
use mathlib.Core.Path.{refl}
use borrow.Author.Tests.{eq-eqb, ne_eqb}
use Rattle.text.proofs.WordLaws.{first_letter}
use Rattle.text.specs.Words.{asks_of}
use Rattle.text.proofs.words.first_word.Goals as goal

pub returns-in_err-word-clause-asks : goal.returns-in_err-word-clause-asks
unfolding asks_of
returns-in_err-word-clause-asks c = rw (c.from_residual.ensures, c.in_err-word.ensures) refl

pub returns-then-word-eq35-clause-asks : goal.returns-then-word-eq35-clause-asks
returns-then-word-eq35-clause-asks c =
    first_letter _ _ _ true c.in_ok-word.ensures (eq-eqb _ 35 c.if-word-eq35.true)

pub returns-clause-asks : goal.returns-clause-asks
returns-clause-asks c = first_letter _ _ _ false c.in_ok-word.ensures (ne_eqb _ 35 c.if-word-eq35.false)
