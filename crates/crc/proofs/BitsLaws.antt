-- Laws of Bits.antt, in its order: exclusive or, the bits of a number, the number of bits, and whether their ones
-- are odd. Assumes nothing.
use Prim.Native.Nat.{ℕ, zero, suc, ◌+◌, ◌*◌, ◌/◌, ◌%◌, ◌^◌, ◌<◌}
use native.Mathlib.Nat.{mul_assoc, pow-suc, pow-succ', mod-one, mod-lt, one-mul, zero-add, suc-add, div-one}
use native.Mathlib.Nat.{div-eq_of_lt, div-div-eq-div-mul, suc_inj, add_comm, mul-mod_left}
use native.Mathlib.Omega.{arith}
use mathlib.Core.Bool.{Bool, true, false, not, cond, xor, ◌&&◌}
use mathlib.Core.List.{List, [], ◌∷◌, ◌++◌}
use mathlib.Core.Path.{◌≡◌, refl, ap, ap₂, sym, ◌∙◌}
use borrow.Author.Tests.{eq-eqb, ne_eqb}
use lib.Dec.{eqb}
use lib.Bits.{differ, bit_xor, xor_step}
use lib.Count.{ones, ones_step}
use lib.ListN.{length, take, drop, replicate}
use lib.Arith.{mod-mul}
use lib.Pow.{pow_pos, shl-shr, mod-mod-pow, high, low}
use lib.Seq.{take_at, drop_at}
use Rattle.crc.specs.Bits.{odd, bits, number, odd_ones}
use Rattle.crc.specs.Crc.{plus}

pub xor_assoc : (a b c : Bool) → xor (xor a b) c ≡ xor a (xor b c)
unfolding xor
xor_assoc true true true = refl
xor_assoc true true false = refl
xor_assoc true false true = refl
xor_assoc true false false = refl
xor_assoc false true true = refl
xor_assoc false true false = refl
xor_assoc false false true = refl
xor_assoc false false false = refl

pub xor_comm : (a b : Bool) → xor a b ≡ xor b a
unfolding xor
xor_comm true true = refl
xor_comm true false = refl
xor_comm false true = refl
xor_comm false false = refl

pub xor_swap : (a b c d : Bool) → xor (xor a b) (xor c d) ≡ xor (xor a c) (xor b d)
xor_swap a b c d =
    xor_assoc a b (xor c d)
    ∙ ap (xor a) (sym (xor_assoc b c d) ∙ ap (λ (x : Bool). xor x d) (xor_comm b c) ∙ xor_assoc c b d)
    ∙ sym (xor_assoc a c (xor b d))

pub xor_self : (a : Bool) → xor a a ≡ false
unfolding xor
xor_self true = refl
xor_self false = refl

pub and_xor : (a b x : Bool) → (xor a b && x) ≡ xor (a && x) (b && x)
unfolding xor
and_xor true true x = sym (xor_self x)
and_xor true false true = refl
and_xor true false false = refl
and_xor false true true = refl
and_xor false true false = refl
and_xor false false x = refl

-- the same twice is gone
pub xor_back : (a b : Bool) → xor (xor a b) b ≡ a
unfolding xor
xor_back true true = refl
xor_back true false = refl
xor_back false true = refl
xor_back false false = refl

pub xor_false : (a : Bool) → xor a false ≡ a
unfolding xor
xor_false true = refl
xor_false false = refl

pub false_xor : (a : Bool) → xor false a ≡ a
unfolding xor
false_xor true = refl
false_xor false = refl

pub xor_not : (a b : Bool) → xor a (not b) ≡ not (xor a b)
unfolding xor
xor_not true true = refl
xor_not true false = refl
xor_not false true = refl
xor_not false false = refl

pub not_xor : (a b : Bool) → xor (not a) b ≡ not (xor a b)
not_xor a b = xor_comm (not a) b ∙ xor_not b a ∙ ap not (xor_comm b a)

-- a bit as a number
bit_odd : (b : Bool) (n : ℕ) → odd (cond b 1 0 + 2 * n) ≡ b
unfolding odd
bit_odd true n = ap (λ (m : ℕ). eqb m 1) (one_mod n)
  where
    one_mod : (n : ℕ) → (1 + 2 * n) % 2 ≡ 1
    one_mod n = omega arith
bit_odd false n = ap (λ (m : ℕ). eqb m 1) (zero_mod n)
  where
    zero_mod : (n : ℕ) → (0 + 2 * n) % 2 ≡ 0
    zero_mod n = omega arith

bit_half : (b : Bool) (n : ℕ) → (cond b 1 0 + 2 * n) / 2 ≡ n
bit_half true n = omega arith
bit_half false n = omega arith

odd_bit_of : (r : ℕ) → r < 2 → cond (eqb r 1) 1 0 ≡ r
odd_bit_of zero h = refl
odd_bit_of (suc zero) h = refl
odd_bit_of (suc (suc r)) h = omega arith

odd_bit : (n : ℕ) → cond (odd n) 1 0 ≡ n % 2
unfolding odd
odd_bit n = odd_bit_of (n % 2) (omega arith)

pub bits_length : (w n : ℕ) → length (bits w n) ≡ w
unfolding bits
bits_length zero n = refl
bits_length (suc w) n = ap suc (bits_length w (n / 2))

pub bits_number : (bs : List Bool) → bits (length bs) (number bs) ≡ bs
unfolding bits number
bits_number [] = refl
bits_number (b ∷ bs) =
    ap₂ {B = List Bool} ◌∷◌ (bit_odd b (number bs)) (ap (bits (length bs)) (bit_half b (number bs)) ∙ bits_number bs)

mod_step : (p n : ℕ) → zero < p → n % 2 + 2 * (n / 2 % p) ≡ n % (p * 2)
mod_step p n h = sym (mod-mul n h (omega arith) ∙ swap (n / 2 % p) (n % 2))
  where
    swap : (a b : ℕ) → a * 2 + b ≡ b + 2 * a
    swap a b = omega arith

pub number_bits : (w n : ℕ) → number (bits w n) ≡ n % 2 ^ w
unfolding bits number
number_bits zero n = sym (mod-one n)
number_bits (suc w) n =
    ap₂ (λ (a b : ℕ). a + 2 * b) (odd_bit n) (number_bits w (n / 2))
    ∙ mod_step (2 ^ w) n (pow_pos w)
    ∙ ap (λ (p : ℕ). n % p) (sym (pow-suc 2 w))

pub number_below : (bs : List Bool) → number bs < 2 ^ length bs
unfolding number
number_below [] = omega arith
number_below (b ∷ bs) = rw pow-suc (below b (number bs) (2 ^ length bs) (number_below bs))
  where
    below : (b : Bool) (n p : ℕ) → n < p → cond b 1 0 + 2 * n < p * 2
    below true n p h = omega arith
    below false n p h = omega arith

pub number_append : (s t : List Bool) → number (s ++ t) ≡ number s + 2 ^ length s * number t
unfolding number
number_append [] t = sym (zero-add (1 * number t) ∙ one-mul (number t))
number_append (b ∷ s) t =
    ap (λ (n : ℕ). cond b 1 0 + 2 * n) (number_append s t)
    ∙ regroup (cond b 1 0) (number s) (2 ^ length s * number t)
    ∙ ap (λ (n : ℕ). cond b 1 0 + 2 * number s + n)
    (sym (mul_assoc 2 (2 ^ length s) (number t)) ∙ ap (λ (p : ℕ). p * number t) (sym (pow-succ' 2 (length s))))
  where
    regroup : (c a n : ℕ) → c + 2 * (a + n) ≡ c + 2 * a + 2 * n
    regroup c a n = omega arith

pub bits_append : (w v n : ℕ) → bits (w + v) n ≡ bits w n ++ bits v (n / 2 ^ w)
unfolding bits
bits_append zero v n = rw (zero-add, div-one)
bits_append (suc w) v n =
    ap (λ (k : ℕ). bits k n) (suc-add w v)
    ∙ ap (λ (s : List Bool). odd n ∷ s) (bits_append w v (n / 2))
    ∙ ap (λ (k : ℕ). odd n ∷ (bits w (n / 2) ++ bits v k))
    (div-div-eq-div-mul n 2 (2 ^ w) ∙ ap (λ (p : ℕ). n / p) (sym (pow-succ' 2 w)))

-- the bits from a place on
pub bits_part : (from count rest n : ℕ)
    → take count (drop from (bits (from + (count + rest)) n)) ≡ bits count (n / 2 ^ from)
bits_part from count rest n =
    ap (take count)
    (ap (drop from) (bits_append from (count + rest) n)
    ∙ drop_at (bits from n) (bits (count + rest) (n / 2 ^ from)) from (bits_length from n)
    ∙ bits_append count rest (n / 2 ^ from))
    ∙ take_at (bits count (n / 2 ^ from)) _ count (bits_length count (n / 2 ^ from))

-- the low w bits are those of the remainder
pub bits_mod : (w n : ℕ) → bits w (n % 2 ^ w) ≡ bits w n
bits_mod w n =
    ap (bits w) (sym (number_bits w n))
    ∙ ap (λ (k : ℕ). bits k (number (bits w n))) (sym (bits_length w n))
    ∙ bits_number (bits w n)

-- a remainder by a higher power of two has the same low bits
pub bits_mod_more : (w v n : ℕ) → bits w (n % 2 ^ (v + w)) ≡ bits w n
bits_mod_more w v n = sym (bits_mod w (n % 2 ^ (v + w))) ∙ ap (bits w) (mod-mod-pow n v w) ∙ bits_mod w n

pub bits_zero : (w : ℕ) → bits w 0 ≡ replicate w false
unfolding odd bits
bits_zero zero = refl
bits_zero (suc w) = ap (λ (s : List Bool). false ∷ s) (bits_zero w)

-- a number of w bits has zeros above them
pub bits_above : (w v n : ℕ) → n < 2 ^ w → bits (w + v) n ≡ bits w n ++ replicate v false
bits_above w v n h =
    bits_append w v n ∙ ap (λ (s : List Bool). bits w n ++ s) (ap (bits v) (div-eq_of_lt h) ∙ bits_zero v)

-- a number moved up by k places
pub bits_up : (k w n : ℕ) → bits (k + w) (n * 2 ^ k) ≡ replicate k false ++ bits w n
bits_up k w n =
    bits_append k w (n * 2 ^ k)
    ∙ ap₂ ◌++◌ (sym (bits_mod k (n * 2 ^ k)) ∙ ap (bits k) (mul-mod_left n (2 ^ k)) ∙ bits_zero k)
    (ap (bits w) (shl-shr n k))

-- two numbers side by side, the first one lowest
pub bits_join : (w v m n : ℕ) → m < 2 ^ w → bits (w + v) (m + n * 2 ^ w) ≡ bits w m ++ bits v n
bits_join w v m n h =
    ap (bits (w + v)) (add_comm m (n * 2 ^ w))
    ∙ bits_append w v (n * 2 ^ w + m)
    ∙ ap₂ ◌++◌ (sym (bits_mod w (n * 2 ^ w + m)) ∙ ap (bits w) (low n w h)) (ap (bits v) (high n w h))

pub odd_ones_append : (s t : List Bool) → odd_ones (s ++ t) ≡ xor (odd_ones s) (odd_ones t)
unfolding odd_ones xor
odd_ones_append [] t = sym (false_xor (odd_ones t))
odd_ones_append (b ∷ s) t = ap (xor b) (odd_ones_append s t) ∙ sym (xor_assoc b (odd_ones s) (odd_ones t))

pub odd_ones_plus : (s t : List Bool) → length s ≡ length t → odd_ones (plus s t) ≡ xor (odd_ones s) (odd_ones t)
unfolding odd_ones plus xor
odd_ones_plus [] [] e = refl
odd_ones_plus [] (b ∷ t) e = absurd (omega arith)
odd_ones_plus (a ∷ s) [] e = absurd (omega arith)
odd_ones_plus (a ∷ s) (b ∷ t) e =
    ap (xor (xor a b)) (odd_ones_plus s t (suc_inj e)) ∙ xor_swap a b (odd_ones s) (odd_ones t)

-- the zeros above a number do not count
pub odd_ones_above : (w v n : ℕ) → n < 2 ^ w → odd_ones (bits (w + v) n) ≡ odd_ones (bits w n)
unfolding odd_ones
odd_ones_above w v n h =
    ap odd_ones (bits_above w v n h)
    ∙ odd_ones_append (bits w n) (replicate v false)
    ∙ ap (xor (odd_ones (bits w n))) (none v)
    ∙ xor_false (odd_ones (bits w n))
  where
    none : (v : ℕ) → odd_ones (replicate v false) ≡ false
    none zero = refl
    none (suc v) = ap (xor false) (none v)

-- ---------------------------------------------------------------- the code's count of ones, and its exclusive or

odd_more : (r n : ℕ) → r < 2 → odd (r + n) ≡ xor (eqb r 1) (odd n)
unfolding odd xor
odd_more zero n h = ap (λ (m : ℕ). eqb (m % 2) 1) (zero-add n) ∙ sym (false_xor (eqb (n % 2) 1))
odd_more (suc zero) n h = go (n % 2) refl (omega arith)
  where
    go : (r : ℕ) → n % 2 ≡ r → r < 2 → eqb ((1 + n) % 2) 1 ≡ xor true (eqb r 1)
    go zero e k = eq-eqb ((1 + n) % 2) 1 (omega arith)
    go (suc zero) e k = ne_eqb ((1 + n) % 2) 1 (omega arith)
    go (suc (suc r)) e k = absurd (omega arith)
odd_more (suc (suc r)) n h = absurd (omega arith)

pub ones_odd : (w n : ℕ) → n < 2 ^ w → odd (ones n) ≡ odd_ones (bits w n)
unfolding odd bits odd_ones ones
ones_odd zero n h = ap (λ (m : ℕ). odd (ones m)) (none n h)
  where
    none : (n : ℕ) → n < 1 → n ≡ 0
    none n h = omega arith
ones_odd (suc w) n h =
    ap odd (ones_step n)
    ∙ odd_more (n % 2) (ones (n / 2)) (omega arith)
    ∙ ap (xor (odd n)) (ones_odd w (n / 2) (half n (2 ^ w) (rw pow-suc at h)))
  where
    half : (n p : ℕ) → n < p * 2 → n / 2 < p
    half n p h = omega arith

-- the low w bits have an odd number of ones where the count of ones in the remainder is odd
pub ones_parity : (w n : ℕ) → odd (ones (n % 2 ^ w)) ≡ odd_ones (bits w n)
ones_parity w n = ones_odd w (n % 2 ^ w) (mod-lt n (pow_pos w)) ∙ ap odd_ones (bits_mod w n)

-- the digit where two digits differ
differ_bit : (x y : ℕ) → x < 2 → y < 2 → (differ x y < 2) × (eqb (differ x y) 1 ≡ xor (eqb x 1) (eqb y 1))
unfolding xor
differ_bit zero zero h k = (h, refl)
differ_bit zero (suc zero) h k = (k, refl)
differ_bit zero (suc (suc y)) h k = absurd (omega arith)
differ_bit (suc zero) zero h k = (h, refl)
differ_bit (suc zero) (suc zero) h k = (omega arith, refl)
differ_bit (suc zero) (suc (suc y)) h k = absurd (omega arith)
differ_bit (suc (suc x)) y h k = absurd (omega arith)

pub bits_xor : (w a b : ℕ) → bits w (bit_xor a b) ≡ plus (bits w a) (bits w b)
unfolding odd bits plus
bits_xor zero a b = refl
bits_xor (suc w) a b =
    let d = differ_bit (a % 2) (b % 2) (omega arith) (omega arith) in
    ap (bits (suc w)) (xor_step a b)
    ∙ ap₂ (λ (r n : ℕ). eqb r 1 ∷ bits w n) (digit (bit_xor (a / 2) (b / 2)) (differ (a % 2) (b % 2)) d.0)
    (rest (bit_xor (a / 2) (b / 2)) (differ (a % 2) (b % 2)) d.0)
    ∙ ap₂ {B = List Bool} ◌∷◌ d.1 (bits_xor w (a / 2) (b / 2))
  where
    digit : (n r : ℕ) → r < 2 → (n * 2 + r) % 2 ≡ r
    digit n r h = omega arith

    rest : (n r : ℕ) → r < 2 → (n * 2 + r) / 2 ≡ n
    rest n r h = omega arith

pub odd_ones_xor : (w a b : ℕ) → odd_ones (bits w (bit_xor a b)) ≡ xor (odd_ones (bits w a)) (odd_ones (bits w b))
odd_ones_xor w a b =
    ap odd_ones (bits_xor w a b) ∙ odd_ones_plus (bits w a) (bits w b) (bits_length w a ∙ sym (bits_length w b))
