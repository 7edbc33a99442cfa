-- Which of the eighteen words a number names, as the code decides it.
--   Names w k   the number w names the word k: 0, the i-th of 1 to 8, 9, the i-th of 10 to 17 (i from 0); and none
--               where it is a number outside
-- Assumes nothing.
use Rattle.std.specs.Prelude.{ℕ, ◌+◌, ◌<◌, true, ◌≡◌, Option, Some, None}
use Rattle.fibre.specs.declared.words.Word.{Word}
use Rattle.fibre.specs.declared.words.Word.TheVariants.{Control, Message, Status, Received}
use Rattle.fibre.specs.Words.{outside}

abbrev pub Names : ℕ → Option Word → Type 0
Names w (Some Control) = w ≡ 0
Names w (Some (Message i)) = (w ≡ 1 + i) × (i < 8)
Names w (Some Status) = w ≡ 9
Names w (Some (Received i)) = (w ≡ 10 + i) × (i < 8)
Names w None = outside w ≡ true
