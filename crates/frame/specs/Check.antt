-- The frame check's answer: document 01, "The finder" and "Answer numbers", in the table's order 7, 5, 9.
--   largest        the largest number that is a received symbol
--   some_above l   there is a number above it in l
--   right_parity i s  the symbol s is even at place 0, odd at any other place i
--   right_at i s   the symbol s may stand at place i of a frame: not marked, and of the right parity
--   check_of l     the answer of the frame check on the list l
-- Assumes nothing.
use Rattle.std.specs.Prelude.{ℕ, Bool, not, ◌&&◌, cond, List, eqb, length}
use Rattle.laws.specs.Above.{above}
use Rattle.answer.specs.declared.Answer.{Answer}
use Rattle.answer.specs.declared.Answer.TheVariants.{Done, BadSymbol, BadLength, NotAcceptable}
use Rattle.frame.specs.Frame.{marked, even, acceptable}

abbrev pub largest : ℕ
largest = 1023

abbrev pub some_above : List ℕ → Bool
some_above l = above largest l

abbrev pub right_parity : ℕ → ℕ → Bool
right_parity i s = cond (eqb i 0) (even s) (not (even s))

unfoldable pub right_at : ℕ → ℕ → Bool
right_at i s = not (marked s) && right_parity i s

unfoldable pub check_of : List ℕ → Answer
check_of l =
    cond (eqb (length l) 12)
    (cond (some_above l) BadSymbol
    (cond (acceptable l) Done NotAcceptable))
    BadLength
