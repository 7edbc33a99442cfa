-- What is true of a block's numbers: they say all of it.
--   bit_back      a bool's number says the bool
--   marked_back   a block's numbers say whether it is marked bad
--   block_back    and they say the block, as it has eight words
-- Assumes nothing.
use mathlib.Core.Bool.{Bool, true, false}
use mathlib.Core.Path.{◌≡◌, refl}
use lib.Dec.{eqb}
use lib.ListN.{length}
use Rattle.fibre.specs.declared.Block.{Block}
use Rattle.laws.proofs.Lists.{eight}
use Rattle.fibrefields.specs.Numbers.{bit_of, numbers_of, marked_of, block_of}

pub bit_back : (b : Bool) → eqb (bit_of b) 1 ≡ b
bit_back true = refl
bit_back false = refl

pub marked_back : (m : Bool) (b : Block) → marked_of (numbers_of m b) ≡ m
marked_back m b = bit_back m

pub block_back : (m : Bool) (b : Block) → length b.words ≡ 8 → block_of (numbers_of m b) ≡ b
block_back m b h = rw (bit_back b.msgt, bit_back b.phyt, bit_back b.mert, eight b.words h)
