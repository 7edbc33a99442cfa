-- What the code does to its three words (`words.rt`), written again on lists of bits (`quick`). That is linear, and the
-- code's numbers have those bits. QuickLaws shows that it is the CRC.
--   shl n k       n moved up by k places in sixty-four bits, as the code does
--   forty, thirty, sixteen, remainder   the code's numbers of those names
--   forty_of, thirty_of, sixteen_of, folded  the same on lists of bits
--   FACTOR, factor   the generator's second factor
--   quick         the remainder with its parity mended
--   message a b c   the eighty bits of three words
-- Assumes nothing.
use Prim.Native.Nat.{ℕ, zero, suc, ◌+◌, ◌*◌, ◌/◌, ◌%◌, ◌^◌, ◌<◌}
use native.Mathlib.Nat.{mod-eq_of_lt, mod-lt, mul-one}
use native.Mathlib.Omega.{arith}
use mathlib.Core.Bool.{Bool, false, xor}
use mathlib.Core.List.{List, [], ◌∷◌, ◌++◌, append_assoc, append-nil}
use mathlib.Core.Path.{◌≡◌, refl, ap, ap₂, sym, ◌∙◌}
use lib.Bits.{bit_xor}
use lib.Dec.{lit≤}
use lib.ListN.{length, get_or, take, drop, replicate, length-append, drop_of_length-le}
use lib.Pow.{pow_pos}
use lib.Seq.{take_at, drop_at, drop-cons}
use Rattle.crc.specs.Bits.{bits, number, odd_ones}
use Rattle.crc.specs.Crc.{plus, crc}
use Rattle.frame.specs.Frame.{generator, stream, crc_of}
use Rattle.crc.proofs.BitsLaws.{bits_join}
use Rattle.frame.proofs.FrameLaws.{stream_append}
use Rattle.std.specs.Int.{w16, w32, from_le_bytes}
use Rattle.crc.proofs.BitsLaws.{xor_assoc, bits_length, number_bits, bits_append, bits_part, bits_mod, bits_mod_more}
use Rattle.crc.proofs.BitsLaws.{bits_above, bits_up, bits_xor, odd_ones_append, odd_ones_above, odd_ones_xor}
use Rattle.crc.proofs.LinearLaws.{Linear, linear_then, copy, linear_copy, linear_and, with_parity, linear_parity}

abbrev shl : ℕ → ℕ → ℕ
shl n k = (n * 2 ^ k) % 2 ^ 64

shl_none : (n : ℕ) → n < 2 ^ 64 → shl n 0 ≡ n
shl_none n h = ap (λ (m : ℕ). m % 2 ^ 64) (mul-one n) ∙ mod-eq_of_lt h

-- ---------------------------------------------------------------- a part of a number, and a number moved up

shl_bits : (k w v n : ℕ) → v + (k + w) ≡ 64 → bits (k + w) (shl n k) ≡ replicate k false ++ bits w n
shl_bits k w v n e =
    ap (λ (i : ℕ). bits (k + w) ((n * 2 ^ k) % 2 ^ i)) (sym e)
    ∙ bits_mod_more (k + w) v (n * 2 ^ k)
    ∙ bits_up k w n

-- a part that stands between two others, moved
copied : (p q r : List Bool) (from count before after : ℕ) → length p ≡ from → length q ≡ count
    → replicate before false ++ (q ++ replicate after false) ≡ copy from count before after (p ++ (q ++ r))
unfolding copy
copied p q r from count before after e d =
    ap (λ (s : List Bool). replicate before false ++ (s ++ replicate after false))
    (sym (ap (take count) (drop_at p (q ++ r) from e) ∙ take_at q r count d))

-- the same of a number that is moved up by k places, with v zeros above
moved : (p r : List Bool) (n from w k v u : ℕ) → length p ≡ from → n < 2 ^ w → u + (k + (w + v)) ≡ 64
    → bits (k + (w + v)) (shl n k) ≡ copy from w k v (p ++ (bits w n ++ r))
moved p r n from w k v u l h e =
    shl_bits k (w + v) u n e
    ∙ ap (λ (s : List Bool). replicate k false ++ s) (bits_above w v n h)
    ∙ copied p (bits w n) r from w k v l (bits_length w n)

-- a part of a number
part_copied : (from count rest before after n : ℕ)
    → replicate before false ++ (bits count (n / 2 ^ from) ++ replicate after false)
    ≡ copy from count before after (bits (from + (count + rest)) n)
unfolding copy
part_copied from count rest before after n =
    ap (λ (s : List Bool). replicate before false ++ (s ++ replicate after false)) (sym (bits_part from count rest n))

xor_bits : (w m n : ℕ) {s t : List Bool} → bits w m ≡ s → bits w n ≡ t → bits w (bit_xor m n) ≡ plus s t
xor_bits w m n e d = bits_xor w m n ∙ ap₂ plus e d

-- ---------------------------------------------------------------- the code's three sums, and the same on lists

abbrev pub forty : ℕ → ℕ → ℕ → ℕ
forty a b c = bit_xor (bit_xor (bit_xor (bit_xor (bit_xor a (shl a 4)) (shl b 4)) (shl b 6)) (shl c 22)) (shl c 23)

abbrev pub thirty : ℕ → ℕ
thirty n = bit_xor (bit_xor (n / 1024) (shl (n % 1024) 20)) (shl (n % 1024) 18)

abbrev pub sixteen : ℕ → ℕ
sixteen n = bit_xor (bit_xor (n % 32768) (shl (n % 32768) 1)) (shl (n / 32768) 1)

unfoldable pub forty_of : List Bool → List Bool
forty_of s =
    plus
    (plus
    (plus (plus (plus (copy 0 32 0 8 s) (copy 0 32 4 4 s)) (copy 32 32 4 4 s)) (copy 32 32 6 2 s))
    (copy 64 16 22 2 s))
    (copy 64 16 23 1 s)

unfoldable pub thirty_of : List Bool → List Bool
thirty_of s = plus (plus (copy 10 30 0 0 s) (copy 0 10 20 0 s)) (copy 0 10 18 2 s)

unfoldable pub sixteen_of : List Bool → List Bool
sixteen_of s = plus (plus (copy 0 15 0 1 s) (copy 0 15 1 0 s)) (copy 15 15 1 0 s)

-- x^15 + x + 1
abbrev pub FACTOR : ℕ
FACTOR = 0xC001

abbrev pub factor : List Bool
factor = bits 16 FACTOR

abbrev pub folded : List Bool → List Bool
folded s = sixteen_of (thirty_of (forty_of s))

abbrev pub quick : List Bool → List Bool
quick s = with_parity (odd_ones s) factor (folded s)

forty_linear : Linear 80 40 forty_of
unfolding forty_of
forty_linear =
    linear_and 80 _ 64 16 23 1 (lit≤ tt)
    (linear_and 80 _ 64 16 22 2 (lit≤ tt)
    (linear_and 80 _ 32 32 6 2 (lit≤ tt)
    (linear_and 80 _ 32 32 4 4 (lit≤ tt) (linear_and 80 _ 0 32 4 4 (lit≤ tt) (linear_copy 80 0 32 0 8 (lit≤ tt))))))

thirty_linear : Linear 40 30 thirty_of
unfolding thirty_of
thirty_linear =
    linear_and 40 _ 0 10 18 2 (lit≤ tt) (linear_and 40 _ 0 10 20 0 (lit≤ tt) (linear_copy 40 10 30 0 0 (lit≤ tt)))

sixteen_linear : Linear 30 16 sixteen_of
unfolding sixteen_of
sixteen_linear =
    linear_and 30 _ 15 15 1 0 (lit≤ tt) (linear_and 30 _ 0 15 1 0 (lit≤ tt) (linear_copy 30 0 15 0 1 (lit≤ tt)))

pub quick_linear : Linear 80 16 quick
unfolding bits
quick_linear =
    linear_parity 80 factor folded
    (linear_then 80 30 16 (λ (s : List Bool). thirty_of (forty_of s)) sixteen_of
    (linear_then 80 40 30 forty_of thirty_of forty_linear thirty_linear) sixteen_linear)

-- ---------------------------------------------------------------- the code's numbers have those bits

abbrev pub message : ℕ → ℕ → ℕ → List Bool
message a b c = bits 32 a ++ (bits 32 b ++ bits 16 c)

pub message_length : (a b c : ℕ) → length (message a b c) ≡ 80
message_length a b c =
    length-append (bits 32 a) (bits 32 b ++ bits 16 c)
    ∙ ap₂ ◌+◌ (bits_length 32 a)
    (length-append (bits 32 b) (bits 16 c) ∙ ap₂ ◌+◌ (bits_length 32 b) (bits_length 16 c))

forty_bits : (a b c : ℕ) → a < 2 ^ 32 → b < 2 ^ 32 → c < 2 ^ 16 → bits 40 (forty a b c) ≡ forty_of (message a b c)
unfolding forty_of
forty_bits a b c h i j =
    xor_bits 40 _ _
    (xor_bits 40 _ _
    (xor_bits 40 _ _
    (xor_bits 40 _ _
    (xor_bits 40 _ _ (ap (bits 40) (sym (shl_none a (omega arith))) ∙ moved [] rest a 0 32 0 8 24 refl h refl)
    (moved [] rest a 0 32 4 4 24 refl h refl))
    (moved (bits 32 a) (bits 16 c) b 32 32 4 4 24 (bits_length 32 a) i refl))
    (moved (bits 32 a) (bits 16 c) b 32 32 6 2 24 (bits_length 32 a) i refl))
    (moved front [] c 64 16 22 2 24 front_length j refl ∙ ap (copy 64 16 22 2) whole))
    (moved front [] c 64 16 23 1 24 front_length j refl ∙ ap (copy 64 16 23 1) whole)
  where
    rest : List Bool
    rest = bits 32 b ++ bits 16 c

    front : List Bool
    front = bits 32 a ++ bits 32 b

    front_length : length front ≡ 64
    front_length = length-append (bits 32 a) (bits 32 b) ∙ ap₂ ◌+◌ (bits_length 32 a) (bits_length 32 b)

    whole : front ++ (bits 16 c ++ []) ≡ message a b c
    whole =
        ap (λ (s : List Bool). front ++ s) (append-nil (bits 16 c)) ∙ append_assoc (bits 32 a) (bits 32 b) (bits 16 c)

-- the low bits of a number, moved up by k places
low_moved : (n w rest k v u : ℕ) → u + (k + (w + v)) ≡ 64
    → bits (k + (w + v)) (shl (n % 2 ^ w) k) ≡ copy 0 w k v (bits (w + rest) n)
low_moved n w rest k v u e =
    moved [] (bits rest (n / 2 ^ w)) (n % 2 ^ w) 0 w k v u refl (mod-lt n (pow_pos w)) e
    ∙ ap (copy 0 w k v)
    (ap (λ (s : List Bool). s ++ bits rest (n / 2 ^ w)) (bits_mod w n) ∙ sym (bits_append w rest n))

thirty_bits : (n : ℕ) → bits 30 (thirty n) ≡ thirty_of (bits 40 n)
unfolding thirty_of
thirty_bits n =
    xor_bits 30 _ _
    (xor_bits 30 _ _ (sym (append-nil (bits 30 (n / 1024))) ∙ part_copied 10 30 0 0 0 n)
    (low_moved n 10 30 20 0 34 refl))
    (low_moved n 10 30 18 2 34 refl)

sixteen_bits : (n : ℕ) → bits 16 (sixteen n) ≡ sixteen_of (bits 30 n)
unfolding sixteen_of
sixteen_bits n =
    xor_bits 16 _ _
    (xor_bits 16 _ _
    (ap (bits 16) (sym (shl_none (n % 32768) (below n))) ∙ low_moved n 15 15 0 1 48 refl)
    (low_moved n 15 15 1 0 48 refl))
    (shl_bits 1 15 48 (n / 32768) refl ∙ ap (λ (s : List Bool). false ∷ s) (sym (append-nil (bits 15 (n / 32768))))
    ∙ part_copied 15 15 0 1 0 n)
  where
    below : (n : ℕ) → n % 32768 < 2 ^ 64
    below n = omega arith

-- ---------------------------------------------------------------- the CRC of three words

abbrev pub remainder : ℕ → ℕ → ℕ → ℕ
remainder a b c = sixteen (thirty (forty a b c)) % 65536

pub remainder_bits : (a b c : ℕ) → a < 2 ^ 32 → b < 2 ^ 32 → c < 2 ^ 16
    → bits 16 (remainder a b c) ≡ folded (message a b c)
remainder_bits a b c h i j =
    bits_mod 16 (sixteen (thirty (forty a b c)))
    ∙ sixteen_bits (thirty (forty a b c))
    ∙ ap sixteen_of (thirty_bits (forty a b c) ∙ ap thirty_of (forty_bits a b c h i j))

-- the parity that the code looks at is what the remainder lacks
pub words_odd : (a b c r : ℕ) → c < 2 ^ 16 → r < 2 ^ 16
    → odd_ones (bits 32 (bit_xor (bit_xor (bit_xor a b) c) r)) ≡ xor (odd_ones (message a b c)) (odd_ones (bits 16 r))
words_odd a b c r j k =
    odd_ones_xor 32 (bit_xor (bit_xor a b) c) r
    ∙ ap₂ xor
    (odd_ones_xor 32 (bit_xor a b) c
    ∙ ap₂ xor (odd_ones_xor 32 a b) (odd_ones_above 16 16 c j)
    ∙ xor_assoc (odd_ones (bits 32 a)) (odd_ones (bits 32 b)) (odd_ones (bits 16 c))
    ∙ sym
    (odd_ones_append (bits 32 a) (bits 32 b ++ bits 16 c)
    ∙ ap (xor (odd_ones (bits 32 a))) (odd_ones_append (bits 32 b) (bits 16 c))))
    (odd_ones_above 16 16 r k)

-- ---------------------------------------------------------------- ten bytes as three words

-- so many bytes of a list from a place on
abbrev streamed : ℕ → ℕ → List ℕ → List Bool
streamed zero i l = []
streamed (suc k) i l = bits 8 (get_or l i 0) ++ streamed k (suc i) l

stream_from : (k i : ℕ) (l : List ℕ) → k + i ≡ length l → stream (drop i l) ≡ streamed k i l
unfolding stream
stream_from zero i l e = ap stream (drop_of_length-le l {i = i} (omega arith))
stream_from (suc k) i l e =
    ap stream (drop-cons l i 0 (omega arith))
    ∙ ap (λ (s : List Bool). bits 8 (get_or l i 0) ++ s) (stream_from k (suc i) l (omega arith))

-- two and four bytes, the first one lowest
pub two_bytes : (l : List ℕ) → length l ≡ 2 → get_or l 0 0 < 256 → bits 16 (from_le_bytes w16 l) ≡ stream l
unfolding stream
two_bytes [] n h = absurd (omega arith)
two_bytes (a ∷ []) n h = absurd (omega arith)
two_bytes (a ∷ b ∷ []) n h = bits_join 8 8 a b h ∙ ap (λ (s : List Bool). bits 8 a ++ s) (sym (append-nil (bits 8 b)))
two_bytes (a ∷ b ∷ c ∷ l) n h = absurd (omega arith)

pub four_bytes : (l : List ℕ) → length l ≡ 4 → ((i : ℕ) → get_or l i 0 < 256) → bits 32 (from_le_bytes w32 l) ≡ stream l
unfolding stream
four_bytes [] n h = absurd (omega arith)
four_bytes (a ∷ []) n h = absurd (omega arith)
four_bytes (a ∷ b ∷ []) n h = absurd (omega arith)
four_bytes (a ∷ b ∷ c ∷ []) n h = absurd (omega arith)
four_bytes (a ∷ b ∷ c ∷ d ∷ []) n h =
    ap (bits 32) (omega arith)
    ∙ bits_join 8 24 a (b + (c + d * 256) * 256) (h 0)
    ∙ ap (λ (s : List Bool). bits 8 a ++ s)
    (bits_join 8 16 b (c + d * 256) (h 1)
    ∙ ap (λ (s : List Bool). bits 8 b ++ s)
    (bits_join 8 8 c d (h 2)
    ∙ ap (λ (s : List Bool). bits 8 c ++ s) (sym (append-nil (bits 8 d)))))
four_bytes (a ∷ b ∷ c ∷ d ∷ e ∷ l) n h = absurd (omega arith)

pub ten_streams : (l : List ℕ) (r a b c : ℕ) → length l ≡ 10 → r < 65536
    → bits 32 a ≡ stream (get_or l 0 0 ∷ get_or l 1 0 ∷ get_or l 2 0 ∷ get_or l 3 0 ∷ [])
    → bits 32 b ≡ stream (get_or l 4 0 ∷ get_or l 5 0 ∷ get_or l 6 0 ∷ get_or l 7 0 ∷ [])
    → bits 16 c ≡ stream (get_or l 8 0 ∷ get_or l 9 0 ∷ [])
    → bits 16 r ≡ crc generator (message a b c) → r ≡ crc_of l
unfolding stream crc_of
ten_streams l r a b c n k e f g h =
    sym (mod-eq_of_lt k)
    ∙ sym (number_bits 16 r)
    ∙ ap number (h ∙ ap (crc generator) whole)
  where
    first : List ℕ
    first = get_or l 0 0 ∷ get_or l 1 0 ∷ get_or l 2 0 ∷ get_or l 3 0 ∷ []

    second : List ℕ
    second = get_or l 4 0 ∷ get_or l 5 0 ∷ get_or l 6 0 ∷ get_or l 7 0 ∷ []

    third : List ℕ
    third = get_or l 8 0 ∷ get_or l 9 0 ∷ []

    whole : message a b c ≡ stream l
    whole =
        rw (e, f, g)
        (ap (λ (s : List Bool). stream first ++ s) (sym (stream_append second third))
        ∙ sym (stream_append first (second ++ third))
        ∙ sym (stream_from 10 0 l (sym n)))

-- the same, of each byte
pub ten_crc : (l : List ℕ) (r a b c : ℕ) → length l ≡ 10 → r < 65536
    → bits 32 a ≡ bits 8 (get_or l 0 0) ++ (bits 8 (get_or l 1 0) ++ (bits 8 (get_or l 2 0) ++ bits 8 (get_or l 3 0)))
    → bits 32 b ≡ bits 8 (get_or l 4 0) ++ (bits 8 (get_or l 5 0) ++ (bits 8 (get_or l 6 0) ++ bits 8 (get_or l 7 0)))
    → bits 16 c ≡ bits 8 (get_or l 8 0) ++ bits 8 (get_or l 9 0)
    → bits 16 r ≡ crc generator (message a b c) → r ≡ crc_of l
unfolding crc_of
ten_crc l r a b c n k e f g h =
    sym (mod-eq_of_lt k)
    ∙ sym (number_bits 16 r)
    ∙ ap number (h ∙ ap (crc generator) (whole ∙ sym (stream_from 10 0 l (sym n))))
  where
    byte : ℕ → List Bool
    byte i = bits 8 (get_or l i 0)

    behind : (s t u v w : List Bool) → (s ++ (t ++ (u ++ v))) ++ w ≡ s ++ (t ++ (u ++ (v ++ w)))
    behind s t u v w =
        append_assoc s (t ++ (u ++ v)) w
        ∙ ap (λ (x : List Bool). s ++ x)
        (append_assoc t (u ++ v) w ∙ ap (λ (x : List Bool). t ++ x) (append_assoc u v w))

    whole : message a b c ≡ streamed 10 0 l
    whole =
        rw (e, f, g) (behind (byte 0) (byte 1) (byte 2) (byte 3) _
        ∙ ap (λ (x : List Bool). byte 0 ++ (byte 1 ++ (byte 2 ++ (byte 3 ++ x))))
        (behind (byte 4) (byte 5) (byte 6) (byte 7) _
        ∙ ap (λ (x : List Bool). byte 4 ++ (byte 5 ++ (byte 6 ++ (byte 7 ++ (byte 8 ++ x)))))
        (sym (append-nil (byte 9)))))
