-- The frame of document 01, "The frame". A symbol is a number: bits 7..0 are data, bit 8 is parity, 512 or more means
-- marked.
--   generator    x^16 + x^15 + x^2 + 1, below its leading term
--   stream l     the data bits of the bytes l, bit 0 of each first
--   crc_of l     the CRC of the bytes l: S15 is bit 0, S0 is bit 15
--   data_of s     the eight data bits of a symbol
--   marked s     its data frame could not be corrected
--   even s       its nine bits have an even number of ones
--   even_symbol d, odd_symbol d  the symbol with data d and an even, an odd number of ones
--   symbols l    bytes as symbols: the first even, the others odd
--   build l      the twelve symbols of ten data bytes (sending step 4)
--   crc_right l  symbols 10 and 11 of l hold the CRC of symbols 0 to 9
--   acceptable l twelve symbols, none marked, all parities right, the CRC right
-- Assumes nothing.
use Rattle.std.specs.Prelude.{ℕ, ◌+◌, ◌*◌, ◌/◌, ◌%◌, Bool, true, false, not, ◌&&◌, List, [], ◌∷◌, ◌++◌, map, eqb, leb, length, take, get_or}
use Rattle.crc.specs.Bits.{bits, number, odd_ones}
use Rattle.crc.specs.Crc.{crc}

-- the coefficients of x^15, x^14 .. x^0
unfoldable pub generator : List Bool
generator =
    true ∷ false ∷ false ∷ false ∷ false ∷ false ∷ false ∷ false
    ∷ false ∷ false ∷ false ∷ false ∷ false ∷ true ∷ false ∷ true ∷ []

unfoldable pub stream : List ℕ → List Bool
stream [] = []
stream (d ∷ l) = bits 8 d ++ stream l

unfoldable pub crc_of : List ℕ → ℕ
crc_of l = number (crc generator (stream l))

abbrev pub data_of : ℕ → ℕ
data_of s = s % 256

abbrev pub marked : ℕ → Bool
marked s = leb 512 s

unfoldable pub even : ℕ → Bool
even s = not (odd_ones (bits 9 s))

unfoldable pub even_symbol : ℕ → ℕ
even_symbol d = number (bits 8 d ++ (odd_ones (bits 8 d) ∷ []))

unfoldable pub odd_symbol : ℕ → ℕ
odd_symbol d = number (bits 8 d ++ (not (odd_ones (bits 8 d)) ∷ []))

unfoldable pub symbols : List ℕ → List ℕ
symbols [] = []
symbols (d ∷ l) = even_symbol d ∷ map odd_symbol l

-- S15 to S8 are bits 0 to 7 of symbol 10, S7 to S0 those of symbol 11
unfoldable pub build : List ℕ → List ℕ
build l = symbols (l ++ (crc_of l % 256 ∷ crc_of l / 256 ∷ []))

unfoldable pub crc_right : List ℕ → Bool
crc_right l = eqb (crc_of (take 10 (map data_of l))) (data_of (get_or l 10 0) + 256 * data_of (get_or l 11 0))

unfoldable pub none_marked : List ℕ → Bool
none_marked [] = true
none_marked (s ∷ l) = not (marked s) && none_marked l

unfoldable pub all_odd : List ℕ → Bool
all_odd [] = true
all_odd (s ∷ l) = not (even s) && all_odd l

-- symbol 0 is even, symbols 1 to 11 are odd
unfoldable pub parities_right : List ℕ → Bool
parities_right [] = true
parities_right (s ∷ l) = even s && all_odd l

unfoldable pub acceptable : List ℕ → Bool
acceptable l = eqb (length l) 12 && (none_marked l && (parities_right l && crc_right l))
