-- A block as numbers, and back.
--   bit_of b          a bool as a number
--   eight w          the first eight of the numbers w
--   numbers_of m b   the block b, m whether it is marked bad: the mark, MSGT, PHYT, MERT, the control, the words
--   marked_of l      whether such numbers say that it is marked bad
--   block_of l        the block that they say
-- Assumes nothing.
use Rattle.std.specs.Prelude.{ℕ, Bool, true, false, List, [], ◌∷◌, eqb, get_or}
use Rattle.fibre.specs.declared.Block.{Block}

abbrev pub bit_of : Bool → ℕ
bit_of true = 1
bit_of false = 0

abbrev pub eight : List ℕ → List ℕ
eight w =
    get_or w 0 0 ∷ get_or w 1 0 ∷ get_or w 2 0 ∷ get_or w 3 0 ∷ get_or w 4 0 ∷ get_or w 5 0 ∷ get_or w 6 0 ∷ get_or w 7 0 ∷ []

abbrev pub numbers_of : Bool → Block → List ℕ
numbers_of m b = bit_of m ∷ bit_of b.msgt ∷ bit_of b.phyt ∷ bit_of b.mert ∷ b.control ∷ eight b.words

abbrev pub marked_of : List ℕ → Bool
marked_of l = eqb (get_or l 0 0) 1

abbrev pub block_of : List ℕ → Block
block_of l = record {
  msgt = eqb (get_or l 1 0) 1;
  phyt = eqb (get_or l 2 0) 1;
  mert = eqb (get_or l 3 0) 1;
  control = get_or l 4 0;
  words = get_or l 5 0 ∷ get_or l 6 0 ∷ get_or l 7 0 ∷ get_or l 8 0 ∷ get_or l 9 0 ∷ get_or l 10 0 ∷ get_or l 11 0 ∷ get_or l 12 0 ∷ [];
}
