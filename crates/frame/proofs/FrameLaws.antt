-- Laws of Frame.antt, in its order: what a symbol with a chosen parity is, what `symbols` and `build` make, and that
-- what is built is acceptable. Whoever uses these needs `build` and `acceptable` open nowhere. Assumes nothing.
use Prim.Native.Nat.{ℕ, zero, suc, ◌+◌, ◌*◌, ◌/◌, ◌%◌, ◌^◌, ◌<◌}
use native.Mathlib.Nat.{le_of_suc-le-suc}
use native.Mathlib.Omega.{arith}
use mathlib.Core.Bool.{Bool, true, false, not, xor, cond, beq}
use mathlib.Core.List.{List, [], ◌∷◌, ◌++◌, map, append_assoc, append-nil}
use mathlib.Core.Path.{◌≡◌, refl, ap, ap₂, sym, ◌∙◌}
use borrow.Author.Tests.{eq-eqb, lt-leb}
use lib.Dec.{lit<}
use lib.ListN.{length, take, get_or, length-append, length-map, get_or-map, get_or-append}
use lib.Seq.{take_at, get_or-append-add}
use Rattle.laws.specs.Above.{above}
use Rattle.laws.proofs.AboveLaws.{above_none}
use Rattle.crc.specs.Bits.{bits, number, odd_ones}
use Rattle.crc.specs.Crc.{crc}
use Rattle.frame.specs.Frame.{generator, stream, crc_of, data_of, even, even_symbol, odd_symbol, symbols, build}
use Rattle.frame.specs.Frame.{crc_right, none_marked, all_odd, parities_right, acceptable}
use Rattle.crc.proofs.BitsLaws.{xor_self, xor_false, xor_not, bits_above, bits_length, bits_number, number_bits}
use Rattle.crc.proofs.BitsLaws.{number_below, number_append, bits_append, bits_mod, odd_ones_append}
use Rattle.crc.proofs.CrcLaws.{crc_length}

-- ---------------------------------------------------------------- the CRC of bytes

pub stream_data : (l : List ℕ) → stream (map data_of l) ≡ stream l
unfolding stream
stream_data [] = refl
stream_data (d ∷ l) = ap₂ {B = List Bool} ◌++◌ (bits_mod 8 d) (stream_data l)

pub stream_append : (l m : List ℕ) → stream (l ++ m) ≡ stream l ++ stream m
unfolding stream
stream_append [] m = refl
stream_append (d ∷ l) m =
    ap (λ (s : List Bool). bits 8 d ++ s) (stream_append l m) ∙ sym (append_assoc (bits 8 d) (stream l) (stream m))

pub crc_of_data : (l : List ℕ) → crc_of (map data_of l) ≡ crc_of l
unfolding crc_of
crc_of_data l = ap (λ (bs : List Bool). number (crc generator bs)) (stream_data l)

pub generator_length : length generator ≡ 16
unfolding generator
generator_length = refl

pub crc_of_below : (l : List ℕ) → crc_of l < 65536
unfolding crc_of generator
crc_of_below l = rw crc_length at (number_below (crc generator (stream l)))

-- ---------------------------------------------------------------- a symbol from data and parity

-- the symbol with data d and parity bit p
symbol : ℕ → Bool → ℕ
symbol d p = number (bits 8 d ++ (p ∷ []))

nine : (d : ℕ) (p : Bool) → length (bits 8 d ++ (p ∷ [])) ≡ 9
nine d p = length-append (bits 8 d) (p ∷ []) ∙ ap (λ (n : ℕ). n + 1) (bits_length 8 d)

symbol_bits : (d : ℕ) (p : Bool) → bits 9 (symbol d p) ≡ bits 8 d ++ (p ∷ [])
unfolding symbol
symbol_bits d p =
    ap (λ (w : ℕ). bits w (number (bits 8 d ++ (p ∷ [])))) (sym (nine d p)) ∙ bits_number (bits 8 d ++ (p ∷ []))

symbol_below : (d : ℕ) (p : Bool) → symbol d p < 512
unfolding symbol
symbol_below d p = rw (nine d p) at (number_below (bits 8 d ++ (p ∷ [])))

symbol_data : (d : ℕ) (p : Bool) → data_of (symbol d p) ≡ data_of d
unfolding symbol
symbol_data d p =
    ap data_of (number_append (bits 8 d) (p ∷ [])
    ∙ ap₂ (λ (a b : ℕ). a + 2 ^ b * number (p ∷ [])) (number_bits 8 d) (bits_length 8 d))
    ∙ low d (number (p ∷ []))
  where
    low : (d n : ℕ) → (d % 256 + 256 * n) % 256 ≡ d % 256
    low d n = omega arith

symbol_odd : (d : ℕ) (p : Bool) → odd_ones (bits 9 (symbol d p)) ≡ xor (odd_ones (bits 8 d)) p
unfolding odd_ones xor
symbol_odd d p =
    ap odd_ones (symbol_bits d p) ∙ odd_ones_append (bits 8 d) (p ∷ []) ∙ ap (xor (odd_ones (bits 8 d))) (xor_false p)

symbol_number : (d : ℕ) (p : Bool) → d < 256 → symbol d p ≡ d + cond p 256 0
unfolding symbol number
symbol_number d p h =
    number_append (bits 8 d) (p ∷ [])
    ∙ ap₂ (λ (a b : ℕ). a + 2 ^ b * number (p ∷ [])) (number_bits 8 d) (bits_length 8 d)
    ∙ value d p h
  where
    value : (d : ℕ) (p : Bool) → d < 256 → d % 256 + 256 * (cond p 1 0 + 2 * 0) ≡ d + cond p 256 0
    value d true h = omega arith
    value d false h = omega arith

-- a byte's ninth bit is zero
byte_odd : (d : ℕ) → d < 256 → odd_ones (bits 9 d) ≡ odd_ones (bits 8 d)
unfolding odd_ones
byte_odd d h = ap odd_ones (bits_above 8 1 d h) ∙ odd_ones_append (bits 8 d) (false ∷ []) ∙ xor_false (odd_ones (bits 8 d))

pub even_symbol_number : (d : ℕ) (b : Bool) → d < 256 → b ≡ odd_ones (bits 9 d) → d + cond b 256 0 ≡ even_symbol d
unfolding even_symbol symbol
even_symbol_number d b h e =
    ap (λ (p : Bool). d + cond p 256 0) (e ∙ byte_odd d h) ∙ sym (symbol_number d (odd_ones (bits 8 d)) h)

pub odd_symbol_number : (d : ℕ) (b : Bool) → d < 256 → b ≡ odd_ones (bits 9 d) → d + cond b 0 256 ≡ odd_symbol d
unfolding odd_symbol symbol
odd_symbol_number d b h e =
    turned b ∙ ap (λ (p : Bool). d + cond (not p) 256 0) (e ∙ byte_odd d h)
    ∙ sym (symbol_number d (not (odd_ones (bits 8 d))) h)
  where
    turned : (b : Bool) → d + cond b 0 256 ≡ d + cond (not b) 256 0
    turned true = refl
    turned false = refl

-- the symbol with data d and an odd (q) or an even number of ones
abbrev pub symbol_for : Bool → ℕ → ℕ
symbol_for q d = cond q (odd_symbol d) (even_symbol d)

-- bit 8 is set where the data's own ones (p) are not what is wanted
pub symbol_compared : (d : ℕ) (p q : Bool) → d < 256 → p ≡ odd_ones (bits 9 d)
    → d + cond (beq p q) 0 256 ≡ symbol_for q d
symbol_compared d true true h e = odd_symbol_number d true h e
symbol_compared d false true h e = odd_symbol_number d false h e
symbol_compared d true false h e = even_symbol_number d true h e
symbol_compared d false false h e = even_symbol_number d false h e

pub even_symbol_below : (d : ℕ) → even_symbol d < 512
unfolding even_symbol symbol
even_symbol_below d = symbol_below d (odd_ones (bits 8 d))

pub odd_symbol_below : (d : ℕ) → odd_symbol d < 512
unfolding odd_symbol symbol
odd_symbol_below d = symbol_below d (not (odd_ones (bits 8 d)))

pub even_symbol_data : (d : ℕ) → data_of (even_symbol d) ≡ data_of d
unfolding even_symbol symbol
even_symbol_data d = symbol_data d (odd_ones (bits 8 d))

pub odd_symbol_data : (d : ℕ) → data_of (odd_symbol d) ≡ data_of d
unfolding odd_symbol symbol
odd_symbol_data d = symbol_data d (not (odd_ones (bits 8 d)))

pub even_symbol_even : (d : ℕ) → even (even_symbol d) ≡ true
unfolding even even_symbol symbol
even_symbol_even d = ap not (symbol_odd d (odd_ones (bits 8 d)) ∙ xor_self (odd_ones (bits 8 d)))

pub odd_symbol_odd : (d : ℕ) → even (odd_symbol d) ≡ false
unfolding even odd_symbol symbol xor
odd_symbol_odd d =
    ap not (symbol_odd d (not (odd_ones (bits 8 d))) ∙ xor_not (odd_ones (bits 8 d)) (odd_ones (bits 8 d))
    ∙ ap not (xor_self (odd_ones (bits 8 d))))

-- ---------------------------------------------------------------- bytes as symbols

pub symbols_length : (l : List ℕ) → length (symbols l) ≡ length l
unfolding symbols
symbols_length [] = refl
symbols_length (d ∷ l) = ap suc (length-map l odd_symbol)

odds_data : (l : List ℕ) → map data_of (map odd_symbol l) ≡ map data_of l
odds_data [] = refl
odds_data (d ∷ l) = ap₂ {B = List ℕ} ◌∷◌ (odd_symbol_data d) (odds_data l)

pub symbols_data : (l : List ℕ) → map data_of (symbols l) ≡ map data_of l
unfolding symbols
symbols_data [] = refl
symbols_data (d ∷ l) = ap₂ {B = List ℕ} ◌∷◌ (even_symbol_data d) (odds_data l)

odds_below : (l : List ℕ) (i : ℕ) → get_or (map odd_symbol l) i 0 < 512
odds_below [] i = omega arith
odds_below (d ∷ l) zero = odd_symbol_below d
odds_below (d ∷ l) (suc i) = odds_below l i

pub symbols_below : (l : List ℕ) (i : ℕ) → get_or (symbols l) i 0 < 512
unfolding symbols
symbols_below [] i = omega arith
symbols_below (d ∷ l) zero = even_symbol_below d
symbols_below (d ∷ l) (suc i) = odds_below l i

pub symbols_first : (l : List ℕ) → zero < length l → even (get_or (symbols l) 0 0) ≡ true
unfolding symbols
symbols_first [] h = absurd (omega arith)
symbols_first (d ∷ l) h = even_symbol_even d

odds_odd : (l : List ℕ) (i : ℕ) → i < length l → even (get_or (map odd_symbol l) i 0) ≡ false
odds_odd [] i h = absurd (omega arith)
odds_odd (d ∷ l) zero h = odd_symbol_odd d
odds_odd (d ∷ l) (suc i) h = odds_odd l i (le_of_suc-le-suc h)

pub symbols_rest : (l : List ℕ) (i : ℕ) → zero < i → i < length l → even (get_or (symbols l) i 0) ≡ false
unfolding symbols
symbols_rest [] i p h = absurd (omega arith)
symbols_rest (d ∷ l) zero p h = absurd (omega arith)
symbols_rest (d ∷ l) (suc i) p h = odds_odd l i (le_of_suc-le-suc h)

-- ---------------------------------------------------------------- build

-- the two bytes of the CRC, symbol 10's first
unfoldable pub crc_bytes : List ℕ → List ℕ
crc_bytes l = crc_of l % 256 ∷ crc_of l / 256 ∷ []

pub build_symbols : (l : List ℕ) → build l ≡ symbols (l ++ crc_bytes l)
unfolding build crc_bytes
build_symbols l = refl

pub with_crc_length : (l : List ℕ) → length l ≡ 10 → length (l ++ crc_bytes l) ≡ 12
unfolding crc_bytes
with_crc_length l e = length-append l (crc_bytes l) ∙ ap (λ (n : ℕ). n + 2) e

pub build_length : (l : List ℕ) → length l ≡ 10 → length (build l) ≡ 12
build_length l e = ap length (build_symbols l) ∙ symbols_length (l ++ crc_bytes l) ∙ with_crc_length l e

pub build_below : (l : List ℕ) (i : ℕ) → get_or (build l) i 0 < 512
build_below l i = rw build_symbols (symbols_below (l ++ crc_bytes l) i)

pub build_first : (l : List ℕ) → length l ≡ 10 → even (get_or (build l) 0 0) ≡ true
build_first l e = rw build_symbols (symbols_first (l ++ crc_bytes l) (rw (with_crc_length l e) (lit< tt)))

pub build_rest : (l : List ℕ) (i : ℕ) → length l ≡ 10 → 0 < i → i < 12 → even (get_or (build l) i 0) ≡ false
build_rest l i e p h = rw build_symbols (symbols_rest (l ++ crc_bytes l) i p (rw (with_crc_length l e) h))

-- all twelve data bytes
pub build_all_data : (l : List ℕ) → map data_of (build l) ≡ map data_of l ++ crc_bytes l
unfolding crc_bytes
build_all_data l =
    ap (map data_of) (build_symbols l)
    ∙ symbols_data (l ++ crc_bytes l)
    ∙ map-append data_of l (crc_bytes l)
    ∙ ap₂ (λ (a b : ℕ). map data_of l ++ (a ∷ b ∷ [])) (low (crc_of l)) (high (crc_of l) (crc_of_below l))
  where
    map-append : (f : ℕ → ℕ) (s t : List ℕ) → map f (s ++ t) ≡ map f s ++ map f t
    map-append f [] t = refl
    map-append f (a ∷ s) t = ap (λ (x : List ℕ). f a ∷ x) (map-append f s t)

    low : (n : ℕ) → n % 256 % 256 ≡ n % 256
    low n = omega arith

    high : (n : ℕ) → n < 65536 → n / 256 % 256 ≡ n / 256
    high n h = omega arith

pub data_at : (l : List ℕ) (i : ℕ) → data_of (get_or l i 0) ≡ get_or (map data_of l) i 0
data_at l i = sym (get_or-map data_of l i 0)

pub build_data : (l : List ℕ) (i : ℕ) → length l ≡ 10 → i < 10 → data_of (get_or (build l) i 0) ≡ get_or l i 0 % 256
build_data l i e h =
    data_at (build l) i
    ∙ ap (λ (x : List ℕ). get_or x i 0) (build_all_data l)
    ∙ get_or-append (map data_of l) (crc_bytes l) 0 i (rw (length-map l data_of, e) h)
    ∙ sym (data_at l i)

crc_bytes_stream : (l : List ℕ) → stream (crc_bytes l) ≡ crc generator (stream l)
unfolding stream crc_bytes crc_of
crc_bytes_stream l =
    ap₂ (λ (s t : List Bool). s ++ t) (bits_mod 8 (crc_of l)) (append-nil (bits 8 (crc_of l / 256)))
    ∙ sym (bits_append 8 8 (crc_of l))
    ∙ ap (λ (w : ℕ). bits w (crc_of l)) (sym (crc_length generator (stream l) ∙ generator_length))
    ∙ bits_number (crc generator (stream l))

-- the data bits of the twelve symbols are those of the ten bytes and then their CRC, S15 first
pub build_stream : (l : List ℕ) → stream (build l) ≡ stream l ++ crc generator (stream l)
build_stream l =
    sym (stream_data (build l))
    ∙ ap stream (ap (map data_of) (build_symbols l) ∙ symbols_data (l ++ crc_bytes l))
    ∙ stream_data (l ++ crc_bytes l)
    ∙ stream_append l (crc_bytes l)
    ∙ ap (λ (s : List Bool). stream l ++ s) (crc_bytes_stream l)

-- ---------------------------------------------------------------- what is built is acceptable

-- the CRC does not see parity bits: only the data bytes count
pub crc_right_data : (s t : List ℕ) → map data_of s ≡ map data_of t → crc_right s ≡ crc_right t
unfolding crc_right
crc_right_data s t e = rw (data_at s 10, data_at s 11, data_at t 10, data_at t 11, e)

crc_bytes_number : (l : List ℕ) → crc_of l ≡ get_or (crc_bytes l) 0 0 + 256 * get_or (crc_bytes l) 1 0
unfolding crc_bytes
crc_bytes_number l = parts (crc_of l)
  where
    parts : (n : ℕ) → n ≡ n % 256 + 256 * (n / 256)
    parts n = omega arith

pub build_crc : (l : List ℕ) → length l ≡ 10 → crc_right (build l) ≡ true
unfolding crc_right
build_crc l e =
    eq-eqb (crc_of (take 10 (map data_of (build l)))) (data_of (get_or (build l) 10 0) + 256 * data_of (get_or (build l) 11 0))
    (ap crc_of (ap (take 10) (build_all_data l) ∙ take_at (map data_of l) (crc_bytes l) 10 ten)
    ∙ crc_of_data l
    ∙ crc_bytes_number l
    ∙ ap₂ (λ (a b : ℕ). a + 256 * b) (sym (last 0)) (sym (last 1)))
  where
    ten : length (map data_of l) ≡ 10
    ten = length-map l data_of ∙ e

    last : (i : ℕ) → data_of (get_or (build l) (10 + i) 0) ≡ get_or (crc_bytes l) i 0
    last i =
        data_at (build l) (10 + i)
        ∙ ap (λ (x : List ℕ). get_or x (10 + i) 0) (build_all_data l)
        ∙ ap (λ (n : ℕ). get_or (map data_of l ++ crc_bytes l) (n + i) 0) (sym ten)
        ∙ get_or-append-add (map data_of l) (crc_bytes l) i 0

odds_unmarked : (l : List ℕ) → none_marked (map odd_symbol l) ≡ true
unfolding none_marked
odds_unmarked [] = refl
odds_unmarked (d ∷ l) = rw (lt-leb 512 (odd_symbol d) (odd_symbol_below d)) (odds_unmarked l)

symbols_unmarked : (l : List ℕ) → none_marked (symbols l) ≡ true
unfolding none_marked symbols
symbols_unmarked [] = refl
symbols_unmarked (d ∷ l) = rw (lt-leb 512 (even_symbol d) (even_symbol_below d)) (odds_unmarked l)

odds_all : (l : List ℕ) → all_odd (map odd_symbol l) ≡ true
unfolding all_odd
odds_all [] = refl
odds_all (d ∷ l) = rw (odd_symbol_odd d) (odds_all l)

symbols_parities : (l : List ℕ) → parities_right (symbols l) ≡ true
unfolding parities_right symbols
symbols_parities [] = refl
symbols_parities (d ∷ l) = rw (even_symbol_even d) (odds_all l)

pub build_acceptable : (l : List ℕ) → length l ≡ 10 → acceptable (build l) ≡ true
unfolding acceptable
build_acceptable l e =
    rw (
      build_length l e,
      ap none_marked (build_symbols l) ∙ symbols_unmarked (l ++ crc_bytes l),
      ap parities_right (build_symbols l) ∙ symbols_parities (l ++ crc_bytes l),
      build_crc l e,
    )

-- ---------------------------------------------------------------- data are bytes

pub above_data : (l : List ℕ) → above 255 (map data_of l) ≡ false
unfolding above
above_data [] = refl
above_data (x ∷ l) = above_none 255 (data_of x) (map data_of l) (omega arith) (above_data l)
