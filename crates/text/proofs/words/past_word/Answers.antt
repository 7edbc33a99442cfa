-- `text::words::past_word` meets its contract.
-- Assumes nothing.
use mathlib.Core.Path.{refl}
use Rattle.text.proofs.WordLaws.{rest_place}
use Rattle.text.specs.Words.{parted, ended, rest_of}
use Rattle.text.proofs.words.past_word.Goals as goal

pub returns-in-Some-clause-place : goal.returns-in-Some-clause-place
returns-in-Some-clause-place c = rest_place _ _ _ c.in-Some.ensures

pub returns-in-Some-clause-words : goal.returns-in-Some-clause-words
unfolding rest_of
returns-in-Some-clause-words c = rw c.in-Some.ensures.words refl

pub returns-in-None-clause-words : goal.returns-in-None-clause-words
unfolding parted ended rest_of
returns-in-None-clause-words c = rw c.in-None.ensures refl
