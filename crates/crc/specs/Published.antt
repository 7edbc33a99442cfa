-- Published values of a CRC, computed: they guard the definitions of Bits.antt and Crc.antt.
--   bytes l      the bits of the bytes l, bit 0 of each first
--   sixteen      x^16 + x^15 + x^2 + 1 below its leading term, the generator of CRC-16/ARC: x^15 first, x^0 last
--   arc l        CRC-16/ARC of the bytes l: bit 0 of the number is the highest of the register, as it is published
--   digits       "123456789", for which check values are published
-- Assumes nothing.
use Rattle.std.specs.Prelude.{ℕ, Bool, true, false, List, [], ◌∷◌, ◌++◌, ◌≡◌, refl, replicate}
use Rattle.std.proofs.Math.Bool.{xor}
use Rattle.crc.specs.Bits.{odd, bits, number, odd_ones}
use Rattle.crc.specs.Crc.{plus, times, shift, run, crc}

bytes : List ℕ → List Bool
bytes [] = []
bytes (b ∷ l) = bits 8 b ++ bytes l

sixteen : List Bool
sixteen = (true ∷ replicate 12 false) ++ (true ∷ false ∷ true ∷ [])

arc : List ℕ → ℕ
arc l = number (crc sixteen (bytes l))

digits : List ℕ
digits = 0x31 ∷ 0x32 ∷ 0x33 ∷ 0x34 ∷ 0x35 ∷ 0x36 ∷ 0x37 ∷ 0x38 ∷ 0x39 ∷ []

check_value : arc digits ≡ 0xBB3D
unfolding odd bits number plus times shift run crc xor bytes sixteen arc digits
check_value = refl

-- leading zeros do not change it: the register starts at zero
zeros_first : arc (0 ∷ 0 ∷ digits) ≡ 0xBB3D
unfolding odd bits number plus times shift run crc xor bytes sixteen arc digits
zeros_first = refl

-- bit 0 first: 6 is 0, 1, 1, 0; of five ones the number is odd, of four it is not
bits_of_six : bits 4 6 ≡ false ∷ true ∷ true ∷ false ∷ []
unfolding odd bits
bits_of_six = refl

number_of_six : number (false ∷ true ∷ true ∷ false ∷ []) ≡ 6
unfolding number
number_of_six = refl

five_ones : odd_ones (replicate 5 true) ≡ true
unfolding odd_ones xor
five_ones = refl

four_ones : odd_ones (false ∷ replicate 4 true) ≡ false
unfolding odd_ones xor
four_ones = refl
