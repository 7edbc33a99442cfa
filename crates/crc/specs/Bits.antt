-- Bits: what a number's bits are, and when their count is odd.
--   bits w n     the low w bits of n, bit 0 first
--   number bs    the number whose bits are bs, bit 0 first
--   odd_ones bs  there is an odd number of ones among bs
-- Assumes nothing.
use Rattle.std.specs.Prelude.{ℕ, zero, suc, ◌+◌, ◌*◌, ◌/◌, ◌%◌, Bool, false, cond, List, [], ◌∷◌, eqb}
use Rattle.std.proofs.Math.Bool.{xor}

unfoldable pub odd : ℕ → Bool
odd n = eqb (n % 2) 1

unfoldable pub bits : ℕ → ℕ → List Bool
unfolding odd
bits zero n = []
bits (suc w) n = odd n ∷ bits w (n / 2)

unfoldable pub number : List Bool → ℕ
number [] = 0
number (b ∷ bs) = cond b 1 0 + 2 * number bs

unfoldable pub odd_ones : List Bool → Bool
unfolding xor
odd_ones [] = false
odd_ones (b ∷ bs) = xor b (odd_ones bs)
