-- The code's three words (`words.rt`) give the CRC. What WordLaws does on lists of bits (`quick`) is linear, and on each
-- of the eighty messages with a single one it is the CRC, by computation (`quick_single`); so it is the CRC (`crc_same`
-- of LinearLaws), and the code's numbers have those bits.
-- Assumes nothing.
use Prim.Native.Nat.{ℕ, ◌^◌, ◌<◌}
use native.Mathlib.Nat.{mod-lt}
use mathlib.Core.Bool.{Bool, true, false, cond, xor}
use mathlib.Core.List.{List}
use mathlib.Core.Path.{◌≡◌, refl, ap, ap₂, sym, ◌∙◌}
use lib.Bits.{bit_xor}
use lib.Dec.{lit<}
use lib.ListN.{length}
use Rattle.crc.specs.Bits.{odd, bits, number, odd_ones}
use Rattle.crc.specs.Crc.{plus, times, shift, run, crc}
use Rattle.frame.specs.Frame.{generator}
use Rattle.crc.proofs.BitsLaws.{bits_length, bits_xor}
use Rattle.crc.proofs.CrcLaws.{plus_zeros, times_false, times_true}
use Rattle.crc.proofs.LinearLaws.{copy, with_parity, agree, crc_same}
use Rattle.frame.proofs.WordLaws.{forty, thirty, sixteen, forty_of, thirty_of, sixteen_of, FACTOR, factor, folded, quick}
use Rattle.frame.proofs.WordLaws.{quick_linear, message, message_length, remainder, remainder_bits, words_odd}

quick_single : agree 80 quick (crc generator) ≡ true
unfolding forty_of thirty_of sixteen_of copy with_parity agree generator odd bits number odd_ones plus times shift run crc
quick_single = refl

quick_crc : (s : List Bool) → length s ≡ 80 → quick s ≡ crc generator s
unfolding generator
quick_crc = crc_same generator 80 quick quick_linear quick_single

-- ---------------------------------------------------------------- the CRC of three words

-- so the factor is added where that is odd
pub crc_words : (a b c : ℕ) (p : Bool) → a < 2 ^ 32 → b < 2 ^ 32 → c < 2 ^ 16
    → p ≡ odd_ones (bits 32 (bit_xor (bit_xor (bit_xor a b) c) (remainder a b c)))
    → bits 16 (cond p (bit_xor (remainder a b c) FACTOR) (remainder a b c)) ≡ crc generator (message a b c)
unfolding with_parity
crc_words a b c p h i j e =
    added p
    ∙ ap₂ (λ (s : List Bool) (q : Bool). plus s (times q factor)) right
    (e
    ∙ words_odd a b c r j (mod-lt (sixteen (thirty (forty a b c))) (lit< tt))
    ∙ ap (λ (s : List Bool). xor (odd_ones (message a b c)) (odd_ones s)) right)
    ∙ quick_crc (message a b c) (message_length a b c)
  where
    r : ℕ
    r = remainder a b c

    right : bits 16 r ≡ folded (message a b c)
    right = remainder_bits a b c h i j

    added : (p : Bool) → bits 16 (cond p (bit_xor r FACTOR) r) ≡ plus (bits 16 r) (times p factor)
    added true = bits_xor 16 r FACTOR ∙ ap (plus (bits 16 r)) (sym (times_true factor))
    added false =
        sym
        (ap (plus (bits 16 r)) (times_false factor)
        ∙ plus_zeros (bits 16 r) (length factor) (bits_length 16 r ∙ sym (bits_length 16 FACTOR)))

-- the same of the words as the code widens them
pub crc_widened : (first second third a b c d r : ℕ) (p : Bool) → first < 2 ^ 32 → second < 2 ^ 32 → third < 2 ^ 16
    → a ≡ first → b ≡ second → c ≡ third → d ≡ third → r ≡ remainder a b c
    → p ≡ odd_ones (bits 32 (bit_xor (bit_xor (bit_xor first second) d) r))
    → bits 16 (cond p (bit_xor (remainder a b c) FACTOR) (remainder a b c)) ≡ crc generator (message first second third)
crc_widened first second third a b c d r p h i j ea eb ec ed er e =
    rw (ea, eb, ec) (crc_words first second third p h i j (rw (ed, er, ea, eb, ec) at e))
