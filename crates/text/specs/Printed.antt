-- What is printed, as bytes.
--   glyph_of d         the byte of a digit below sixteen, in upper case
--   hex_of n v         the n lowest digits of v in hex, the highest first
--   short_of b n v      v in digits of base b without leading zeros; of more than n digits the lowest ones
--   decimal_of v       a number of 64 bits in decimal
--   valued_of n v      a value in n digits after an answer: a space, the digits, a newline
--   closing_of last    what stands after one of several words: a space, after the last a newline
-- Assumes nothing.
use Rattle.std.specs.Prelude.{ℕ, zero, suc, ◌+◌, ◌/◌, ◌%◌, Bool, true, false, cond, List, [], ◌∷◌, ◌++◌, ◌≡◌, refl, ltb}

abbrev pub glyph_of : ℕ → ℕ
glyph_of d = cond (ltb d 10) (48 + d) (55 + d)

abbrev pub hex_of : ℕ → ℕ → List ℕ
hex_of zero v = []
hex_of (suc n) v = hex_of n (v / 16) ++ (glyph_of (v % 16) ∷ [])

abbrev pub short_of : ℕ → ℕ → ℕ → List ℕ
short_of b zero v = []
short_of b (suc n) v = cond (ltb v b) (glyph_of v ∷ []) (short_of b n (v / b) ++ (glyph_of (v % b) ∷ []))

abbrev pub decimal_of : ℕ → List ℕ
decimal_of v = short_of 10 20 v

abbrev pub valued_of : ℕ → ℕ → List ℕ
valued_of n v = 32 ∷ (hex_of n v ++ (10 ∷ []))

abbrev pub closing_of : Bool → ℕ
closing_of true = 10
closing_of false = 32

-- 0A5 and A5 in hex; 0, 65535 and 18446744073709551615 in decimal
three_digits : hex_of 3 0xA5 ≡ 0x30 ∷ 0x41 ∷ 0x35 ∷ []
three_digits = refl

lowest_two : hex_of 2 0x3A5 ≡ 0x41 ∷ 0x35 ∷ []
lowest_two = refl

short : short_of 16 4 0xA5 ≡ 0x41 ∷ 0x35 ∷ []
short = refl

nought : decimal_of 0 ≡ 0x30 ∷ []
nought = refl

five : decimal_of 65535 ≡ 0x36 ∷ 0x35 ∷ 0x35 ∷ 0x33 ∷ 0x35 ∷ []
five = refl

largest : decimal_of 18446744073709551615
    ≡ 0x31 ∷ 0x38 ∷ 0x34 ∷ 0x34 ∷ 0x36 ∷ 0x37 ∷ 0x34 ∷ 0x34 ∷ 0x30 ∷ 0x37
    ∷ 0x33 ∷ 0x37 ∷ 0x30 ∷ 0x39 ∷ 0x35 ∷ 0x35 ∷ 0x31 ∷ 0x36 ∷ 0x31 ∷ 0x35 ∷ []
largest = refl
