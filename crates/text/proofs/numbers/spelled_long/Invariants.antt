-- `text::numbers::spelled_long` meets its contract. The digits that are left, behind the value so far, spell what the
-- whole word spells.
-- Assumes nothing.
use Rattle.std.proofs.Common.{◌≤◌, ◌≡◌, drop}
use Rattle.text.specs.Numbers.{long_of}
use Rattle.text.proofs.numbers.spelled_long.Given as goal

abbrev pub invariant-loop-byte : goal.invariant-loop-byte
invariant-loop-byte l =
    (l.value ≤ l.most) × (long_of l.base l.most l.value (drop l.byte-index l.word) ≡ long_of l.base l.most 0 l.word)
