-- `text::lists::read` meets its contract. The numbers read, and what the words that are left give behind them, are what
-- all the words give.
-- Assumes nothing.
use Prim.Native.Nat.{◌-◌}
use mathlib.Core.Path.{◌≡◌}
use lib.ListN.{length, take}
use Rattle.text.specs.Numbers.{list_of, put_all}
use Rattle.text.specs.Words.{words_of}
use Rattle.text.proofs.lists.read.Given as goal

abbrev pub invariant-loop-count : goal.invariant-loop-count
invariant-loop-count l =
    list_of l.most (length l.initial.numbers) (words_of l.line)
    ≡ put_all (take l.count l.numbers) (list_of l.most (length l.initial.numbers - l.count) (words_of l.rest))
