-- Laws of Distance.antt. Right parities on both sides force an even number of wrong bits in each symbol, so at most
-- three wrong bits are two bits of one symbol: a burst within eight data bits, which the CRC catches. Hence two
-- acceptable frames at most three wrong bits apart are equal (`acceptable_near`), and a frame one to three wrong
-- bits from an acceptable one is never acceptable (`acceptable_wrong`). Assumes nothing.
use Prim.Native.Nat.{ℕ, zero, suc, ◌+◌, ◌≤◌, ◌<◌, ◌%◌}
use native.Mathlib.Nat.{suc_inj}
use native.Mathlib.Omega.{arith}
use mathlib.Core.Bool.{Bool, true, false, not, cond, xor, true≢false}
use mathlib.Core.List.{List, [], ◌∷◌, ◌++◌, map}
use mathlib.Core.Path.{◌≡◌, refl, ap, ap₂, sym, ◌∙◌}
use borrow.Author.Tests.{leb-true, leb-false}
use lib.Dec.{leb, lit≤}
use lib.ListN.{length, take, get_or, replicate}
use Rattle.crc.specs.Bits.{bits, number, odd_ones}
use Rattle.crc.specs.Crc.{times, run}
use Rattle.frame.specs.Distance.{wire, distance}
use Rattle.frame.specs.Frame.{generator, stream, data_of, even, acceptable}
use Rattle.crc.proofs.BitsLaws.{xor_comm, xor_self, xor_back, xor_not, not_xor, bits_length, number_bits}
use Rattle.crc.proofs.CrcLaws.{times_length, run_length, run_append, crc_own, with_one, run_burst}
use Rattle.frame.proofs.FrameLaws.{generator_length, build_stream}
use Rattle.frame.proofs.AcceptLaws.{acceptable_length, acceptable_below, acceptable_first, acceptable_rest}
use Rattle.frame.proofs.AcceptLaws.{acceptable_build, top, nine_bits, even_top}

-- ---------------------------------------------------------------- distance

pub distance_self : (s : List Bool) → distance s s ≡ 0
unfolding distance
distance_self [] = refl
distance_self (a ∷ s) = ap₂ (λ (b : Bool) (n : ℕ). cond b 1 0 + n) (xor_self a) (distance_self s)

pub distance_append : (s t u v : List Bool) → length s ≡ length t
    → distance (s ++ u) (t ++ v) ≡ distance s t + distance u v
unfolding distance
distance_append [] [] u v e = omega arith
distance_append [] (b ∷ t) u v e = absurd (omega arith)
distance_append (a ∷ s) [] u v e = absurd (omega arith)
distance_append (a ∷ s) (b ∷ t) u v e = omega (arith, distance_append s t u v (suc_inj e))

pub distance_zero : (s t : List Bool) → length s ≡ length t → distance s t ≡ 0 → s ≡ t
unfolding distance xor
distance_zero [] [] e d = refl
distance_zero [] (b ∷ t) e d = absurd (omega arith)
distance_zero (a ∷ s) [] e d = absurd (omega arith)
distance_zero (true ∷ s) (true ∷ t) e d = ap (λ (r : List Bool). true ∷ r) (distance_zero s t (suc_inj e) (omega arith))
distance_zero (true ∷ s) (false ∷ t) e d = absurd (omega arith)
distance_zero (false ∷ s) (true ∷ t) e d = absurd (omega arith)
distance_zero (false ∷ s) (false ∷ t) e d =
    ap (λ (r : List Bool). false ∷ r) (distance_zero s t (suc_inj e) (omega arith))

-- one difference turns the parity
distance_one : (s t : List Bool) → length s ≡ length t → distance s t ≡ 1 → odd_ones s ≡ not (odd_ones t)
unfolding distance odd_ones xor
distance_one [] [] e d = absurd (omega arith)
distance_one [] (b ∷ t) e d = absurd (omega arith)
distance_one (a ∷ s) [] e d = absurd (omega arith)
distance_one (true ∷ s) (true ∷ t) e d =
    ap (xor true) (distance_one s t (suc_inj e) (omega arith)) ∙ xor_not true (odd_ones t)
distance_one (true ∷ s) (false ∷ t) e d =
    ap (λ (u : List Bool). xor true (odd_ones u)) (distance_zero s t (suc_inj e) (omega arith))
    ∙ not_xor false (odd_ones t)
distance_one (false ∷ s) (true ∷ t) e d =
    ap (λ (u : List Bool). xor false (odd_ones u)) (distance_zero s t (suc_inj e) (omega arith))
    ∙ not_xor true (odd_ones t)
distance_one (false ∷ s) (false ∷ t) e d =
    ap (xor false) (distance_one s t (suc_inj e) (omega arith)) ∙ xor_not false (odd_ones t)

-- ---------------------------------------------------------------- two symbols of one parity

symbol_length : (a b w : ℕ) → length (bits w a) ≡ length (bits w b)
symbol_length a b w = bits_length w a ∙ sym (bits_length w b)

bits_same : (a b : ℕ) → a < 512 → b < 512 → bits 9 a ≡ bits 9 b → a ≡ b
bits_same a b h k e = small a b h k (sym (number_bits 9 a) ∙ ap number e ∙ number_bits 9 b)
  where
    small : (a b : ℕ) → a < 512 → b < 512 → a % 512 ≡ b % 512 → a ≡ b
    small a b h k e = omega arith

near_symbol : (a b : ℕ) → a < 512 → b < 512 → even a ≡ even b → distance (bits 9 a) (bits 9 b) ≤ 1 → a ≡ b
unfolding even
near_symbol a b h k e d = go (distance (bits 9 a) (bits 9 b)) refl d
  where
    turned : (p q : Bool) → not p ≡ not q → p ≡ not q → p ≡ q
    turned true true e f = refl
    turned true false e f = absurd (true≢false (sym e))
    turned false true e f = absurd (true≢false e)
    turned false false e f = refl

    never : (p q : Bool) → p ≡ q → p ≡ not q → ⊥
    never true true e f = true≢false f
    never true false e f = true≢false e
    never false true e f = true≢false (sym e)
    never false false e f = true≢false (sym f)

    go : (n : ℕ) → distance (bits 9 a) (bits 9 b) ≡ n → n ≤ 1 → a ≡ b
    go zero z _ = bits_same a b h k (distance_zero (bits 9 a) (bits 9 b) (symbol_length a b 9) z)
    go (suc zero) z _ =
        let f = distance_one (bits 9 a) (bits 9 b) (symbol_length a b 9) z in
        absurd (never (odd_ones (bits 9 a)) (odd_ones (bits 9 b)) (turned _ _ e f) f)
    go (suc (suc n)) z l = absurd (omega arith)

same_data : (a b : ℕ) → a < 512 → b < 512 → even a ≡ even b → bits 8 a ≡ bits 8 b → a ≡ b
same_data a b h k e d =
    bits_same a b h k
    (nine_bits a ∙ ap₂ (λ (s : List Bool) (p : Bool). s ++ (p ∷ [])) d tops ∙ sym (nine_bits b))
  where
    cancel : (p q r : Bool) → xor p q ≡ xor p r → q ≡ r
    cancel p q r f = sym (xor_back q p) ∙ ap (λ (c : Bool). xor c p) (xor_comm q p ∙ f ∙ xor_comm p r) ∙ xor_back r p

    tops : top a ≡ top b
    tops =
        cancel (odd_ones (bits 8 a)) (top a) (top b)
        (sym (even_top a) ∙ ap not e ∙ even_top b ∙ ap (λ (s : List Bool). xor (odd_ones s) (top b)) (sym d))

-- ---------------------------------------------------------------- two lists of symbols of the same parities

data Alike : List ℕ → List ℕ → Type 0 where
  none : Alike [] []
  more : {a b : ℕ} {s t : List ℕ} → a < 512 → b < 512 → even a ≡ even b → Alike s t → Alike (a ∷ s) (b ∷ t)

wire_apart : (a b : ℕ) (s t : List ℕ)
    → distance (wire (a ∷ s)) (wire (b ∷ t)) ≡ distance (bits 9 a) (bits 9 b) + distance (wire s) (wire t)
unfolding wire
wire_apart a b s t = distance_append (bits 9 a) (bits 9 b) (wire s) (wire t) (symbol_length a b 9)

near_one : {s t : List ℕ} → Alike s t → distance (wire s) (wire t) ≤ 1 → s ≡ t
near_one none d = refl
near_one (more {a = a} {b = b} {s = s} {t = t} h k e r) d =
    ap₂ {B =
    List ℕ} ◌∷◌ (near_symbol a b h k e (omega (arith, wire_apart a b s t)))
    (near_one r (omega (arith, wire_apart a b s t)))

-- the generator's coefficients but its constant term, which is 1
rest : List Bool
rest = take 15 generator

rest_one : generator ≡ with_one rest
unfolding rest generator
rest_one = refl

rest_length : length rest ≡ 15
unfolding rest generator
rest_length = refl

stream_burst : (r : List Bool) (a b : ℕ) (s : List ℕ) → length r ≡ 16
    → run generator r (stream (a ∷ s)) ≡ run generator r (stream (b ∷ s)) → bits 8 a ≡ bits 8 b
unfolding stream
stream_burst r a b s n e =
    run_burst rest r (bits 8 a) (bits 8 b) (stream s) (n ∙ sym (ap suc rest_length)) (symbol_length a b 8)
    (rw (bits_length 8 a, rest_length) (lit≤ tt))
    (ap (λ (g : List Bool). run g r (bits 8 a ++ stream s)) (sym rest_one)
    ∙ e
    ∙ ap (λ (g : List Bool). run g r (bits 8 b ++ stream s)) rest_one)

stream_next : (r : List Bool) (a : ℕ) (s : List ℕ)
    → run generator r (stream (a ∷ s)) ≡ run generator (run generator r (bits 8 a)) (stream s)
unfolding stream
stream_next r a s = run_append generator r (bits 8 a) (stream s)

near_three : {s t : List ℕ} → Alike s t → (r : List Bool) → length r ≡ 16
    → run generator r (stream s) ≡ run generator r (stream t)
    → distance (wire s) (wire t) ≤ 3 → s ≡ t
near_three none r n e d = refl
near_three (more {a = a} {b = b} {s = s} {t = t} h k p l) r n e d =
    go (near_three l) (leb (distance (bits 9 a) (bits 9 b)) 1) refl
  where
    apart : distance (bits 9 a) (bits 9 b) + distance (wire s) (wire t) ≤ 3
    apart = rw wire_apart at d

    go : ((r : List Bool) → length r ≡ 16 → run generator r (stream s) ≡ run generator r (stream t)
        → distance (wire s) (wire t) ≤ 3 → s ≡ t)
        → (c : Bool) → leb (distance (bits 9 a) (bits 9 b)) 1 ≡ c → a ∷ s ≡ b ∷ t
    go on true f =
        let same = near_symbol a b h k p (leb-true (distance (bits 9 a) (bits 9 b)) 1 f) in
        ap₂ {B = List ℕ} ◌∷◌ same
        (on (run generator r (bits 8 a)) (run_length generator r (bits 8 a) (n ∙ sym generator_length)
        ∙ generator_length)
        (sym (stream_next r a s) ∙ e ∙ ap (λ (x : ℕ). run generator r (stream (x ∷ t))) (sym same) ∙ stream_next r a t)
        (omega (arith, apart)))
    go on false f =
        let far = leb-false (distance (bits 9 a) (bits 9 b)) 1 f in
        let same = near_one l (omega (arith, apart, far)) in
        ap₂ {B = List ℕ} ◌∷◌
        (same_data a b h k p (stream_burst r a b s n
        (e ∙ ap (λ (x : List ℕ). run generator r (stream (b ∷ x))) (sym same))))
        same

-- ---------------------------------------------------------------- acceptable frames

-- twelve acceptable symbols bring the register back to zeros
acceptable_zeros : (s : List ℕ) → acceptable s ≡ true
    → run generator (times false generator) (stream s) ≡ replicate (length generator) false
acceptable_zeros s e =
    ap (λ (x : List Bool). run generator (times false generator) x)
    (ap stream (acceptable_build s e) ∙ build_stream (take 10 (map data_of s)))
    ∙ crc_own generator (stream (take 10 (map data_of s)))

alike : (s t : List ℕ) → length s ≡ length t → ((i : ℕ) → get_or s i 0 < 512) → ((i : ℕ) → get_or t i 0 < 512)
    → ((i : ℕ) → i < length s → even (get_or s i 0) ≡ even (get_or t i 0)) → Alike s t
alike [] [] n h k p = none
alike [] (b ∷ t) n h k p = absurd (omega arith)
alike (a ∷ s) [] n h k p = absurd (omega arith)
alike (a ∷ s) (b ∷ t) n h k p =
    more (h 0) (k 0) (p 0 (omega arith)) (alike s t (suc_inj n) (λ i. h (suc i)) (λ i. k (suc i))
    (λ i l. p (suc i) (omega arith)))

acceptable_alike : (s t : List ℕ) → acceptable s ≡ true → acceptable t ≡ true → Alike s t
acceptable_alike s t e f =
    alike s t (acceptable_length s e ∙ sym (acceptable_length t f)) (acceptable_below s e) (acceptable_below t f)
    parities
  where
    parities : (i : ℕ) → i < length s → even (get_or s i 0) ≡ even (get_or t i 0)
    parities zero l = acceptable_first s e ∙ sym (acceptable_first t f)
    parities (suc i) l =
        let l' : suc i < 12 = rw (acceptable_length s e) at l in
        acceptable_rest s e (suc i) (omega arith) l' ∙ sym (acceptable_rest t f (suc i) (omega arith) l')

pub acceptable_near : (s t : List ℕ) → acceptable s ≡ true → acceptable t ≡ true → distance (wire s) (wire t) ≤ 3
    → s ≡ t
acceptable_near s t e f d =
    near_three (acceptable_alike s t e f) (times false generator) (times_length false generator ∙ generator_length)
    (acceptable_zeros s e ∙ sym (acceptable_zeros t f))
    d

pub acceptable_wrong : (s t : List ℕ) → acceptable s ≡ true → 1 ≤ distance (wire s) (wire t)
    → distance (wire s) (wire t) ≤ 3 → acceptable t ≡ false
acceptable_wrong s t e l d = go (acceptable t) refl
  where
    go : (b : Bool) → acceptable t ≡ b → b ≡ false
    go true f =
        let same = acceptable_near s t e f d in
        let none : distance (wire s) (wire t) ≡ 0 = ap (λ (x : List ℕ). distance (wire s) (wire x)) (sym same)
        ∙ distance_self (wire s) in
        absurd (omega arith)
    go false f = refl
