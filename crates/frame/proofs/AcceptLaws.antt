-- What `acceptable` says, part by part, and the way back; and an acceptable frame is the build of its own ten data
-- bytes. Assumes nothing.
use Prim.Native.Nat.{ℕ, zero, suc, ◌+◌, ◌*◌, ◌/◌, ◌%◌, ◌≤◌, ◌<◌}
use native.Mathlib.Nat.{le_of_suc-le-suc}
use native.Mathlib.Omega.{arith}
use mathlib.Core.Bool.{Bool, true, false, not, xor, true≢false, cond, not-not}
use mathlib.Core.List.{List, [], ◌∷◌, ◌++◌, map}
use mathlib.Core.Path.{◌≡◌, refl, ap, ap₂, sym, ◌∙◌}
use borrow.Author.Tests.{eqb-true, leb-false, lt-leb, not-true}
use lib.Dec.{eqb, lit<, lit≤}
use lib.ListN.{length, take, drop, get_or, length-map, take-append-drop, drop_of_length-le}
use lib.Seq.{drop-cons}
use Rattle.laws.proofs.Bools.{and_both}
use Rattle.crc.specs.Bits.{odd, bits, number, odd_ones}
use Rattle.frame.specs.Frame.{crc_of, data_of, marked, even, even_symbol, odd_symbol, symbols, build, crc_right}
use Rattle.frame.specs.Frame.{none_marked, all_odd, parities_right, acceptable}
use Rattle.crc.proofs.BitsLaws.{xor_false, number_bits, bits_mod, odd_ones_append}
use Rattle.frame.proofs.FrameLaws.{data_at, crc_bytes, build_symbols}

-- ---------------------------------------------------------------- the parts of acceptance

-- the four tests
record Tests (s : List ℕ) : Type 0 where
  twelve : length s ≡ 12
  unmarked : none_marked s ≡ true
  parities : parities_right s ≡ true
  crc : crc_right s ≡ true

tests : (s : List ℕ) → acceptable s ≡ true → Tests s
unfolding acceptable
tests s e =
    let a = and_both (eqb (length s) 12) _ e in
    let b = and_both (none_marked s) _ a.1 in
    let c = and_both (parities_right s) _ b.1 in
    record { twelve = eqb-true _ _ a.0; unmarked = b.0; parities = c.0; crc = c.1 }

none_marked_at : (s : List ℕ) (i : ℕ) → none_marked s ≡ true → get_or s i 0 < 512
unfolding none_marked
none_marked_at [] i e = lit< tt
none_marked_at (x ∷ s) zero e = leb-false 512 x (not-true (marked x) (and_both _ _ e).0)
none_marked_at (x ∷ s) (suc i) e = none_marked_at s i (and_both (not (marked x)) _ e).1

all_odd_at : (s : List ℕ) (i : ℕ) → all_odd s ≡ true → i < length s → even (get_or s i 0) ≡ false
unfolding all_odd
all_odd_at [] i e h = absurd (omega arith)
all_odd_at (x ∷ s) zero e h = not-true (even x) (and_both _ _ e).0
all_odd_at (x ∷ s) (suc i) e h = all_odd_at s i (and_both (not (even x)) _ e).1 (le_of_suc-le-suc h)

parities_first : (s : List ℕ) → parities_right s ≡ true → 0 < length s → even (get_or s 0 0) ≡ true
unfolding parities_right
parities_first [] e h = absurd (omega arith)
parities_first (x ∷ s) e h = (and_both _ _ e).0

parities_rest : (s : List ℕ) (i : ℕ) → parities_right s ≡ true → 0 < i → i < length s → even (get_or s i 0) ≡ false
unfolding parities_right
parities_rest [] i e p h = absurd (omega arith)
parities_rest (x ∷ s) zero e p h = absurd (omega arith)
parities_rest (x ∷ s) (suc i) e p h = all_odd_at s i (and_both (even x) _ e).1 (le_of_suc-le-suc h)

module _ (s : List ℕ) (e : acceptable s ≡ true) where
  pub acceptable_length : length s ≡ 12
  acceptable_length = (tests s e).twelve

  pub acceptable_below : (i : ℕ) → get_or s i 0 < 512
  acceptable_below i = none_marked_at s i (tests s e).unmarked

  pub acceptable_first : even (get_or s 0 0) ≡ true
  acceptable_first = parities_first s (tests s e).parities (rw acceptable_length (lit< tt))

  pub acceptable_rest : (i : ℕ) → 0 < i → i < 12 → even (get_or s i 0) ≡ false
  acceptable_rest i p h = parities_rest s i (tests s e).parities p (rw acceptable_length h)

  pub acceptable_crc : crc_right s ≡ true
  acceptable_crc = (tests s e).crc

-- ---------------------------------------------------------------- and back

none_marked_from : (s : List ℕ) → ((i : ℕ) → i < length s → get_or s i 0 < 512) → none_marked s ≡ true
unfolding none_marked
none_marked_from [] h = refl
none_marked_from (x ∷ s) h =
    rw (lt-leb 512 x (h 0 (omega arith))) (none_marked_from s (λ i p. h (suc i) (omega arith)))

all_odd_from : (s : List ℕ) → ((i : ℕ) → i < length s → even (get_or s i 0) ≡ false) → all_odd s ≡ true
unfolding all_odd
all_odd_from [] h = refl
all_odd_from (x ∷ s) h = rw (h 0 (omega arith)) (all_odd_from s (λ i p. h (suc i) (omega arith)))

parities_from : (s : List ℕ) → even (get_or s 0 0) ≡ true
    → ((i : ℕ) → 0 < i → i < length s → even (get_or s i 0) ≡ false) → parities_right s ≡ true
unfolding parities_right
parities_from [] f h = refl
parities_from (x ∷ s) f h = rw f (all_odd_from s (λ i p. h (suc i) (omega arith) (omega arith)))

pub acceptable_from : (s : List ℕ) → length s ≡ 12 → ((i : ℕ) → i < 12 → get_or s i 0 < 512) → even (get_or s 0 0) ≡ true
    → ((i : ℕ) → 0 < i → i < 12 → even (get_or s i 0) ≡ false) → crc_right s ≡ true → acceptable s ≡ true
unfolding acceptable
acceptable_from s n b f r c =
    rw
    (n, none_marked_from s (λ i p. b i (rw n at p)), parities_from s f (λ i p q. r i p (rw n at q)), c)

-- ---------------------------------------------------------------- accepted is the build of its own data

-- the parity bit of a symbol
pub top : ℕ → Bool
top x = odd (x / 2 / 2 / 2 / 2 / 2 / 2 / 2 / 2)

pub nine_bits : (x : ℕ) → bits 9 x ≡ bits 8 x ++ (top x ∷ [])
unfolding bits top
nine_bits x = refl

pub even_top : (x : ℕ) → not (even x) ≡ xor (odd_ones (bits 8 x)) (top x)
unfolding even odd_ones xor
even_top x =
    not-not (odd_ones (bits 9 x)) ∙ ap odd_ones (nine_bits x) ∙ odd_ones_append (bits 8 x) (top x ∷ [])
    ∙ ap (xor (odd_ones (bits 8 x))) (xor_false (top x))

-- two bits whose exclusive or is known
xor_is : (a b c : Bool) → not c ≡ xor a b → b ≡ cond c a (not a)
unfolding xor
xor_is true true true e = refl
xor_is true true false e = absurd (true≢false e)
xor_is true false true e = absurd (true≢false (sym e))
xor_is true false false e = refl
xor_is false true true e = absurd (true≢false (sym e))
xor_is false true false e = refl
xor_is false false true e = refl
xor_is false false false e = absurd (true≢false e)

again : (x : ℕ) (p : Bool) → x < 512 → top x ≡ p → number (bits 8 (data_of x) ++ (p ∷ [])) ≡ x
again x p h e =
    ap₂ (λ (s : List Bool) (b : Bool). number (s ++ (b ∷ []))) (bits_mod 8 x) (sym e)
    ∙ ap number (sym (nine_bits x))
    ∙ number_bits 9 x
    ∙ small x h
  where
    small : (x : ℕ) → x < 512 → x % 512 ≡ x
    small x h = omega arith

even_again : (x : ℕ) → x < 512 → even x ≡ true → even_symbol (data_of x) ≡ x
unfolding even_symbol
even_again x h e =
    again x (odd_ones (bits 8 (data_of x))) h
    (xor_is (odd_ones (bits 8 x)) (top x) true (ap not (sym e) ∙ even_top x) ∙ ap odd_ones (sym (bits_mod 8 x)))

odd_again : (x : ℕ) → x < 512 → even x ≡ false → odd_symbol (data_of x) ≡ x
unfolding odd_symbol
odd_again x h e =
    again x (not (odd_ones (bits 8 (data_of x)))) h
    (xor_is (odd_ones (bits 8 x)) (top x) false (ap not (sym e) ∙ even_top x)
    ∙ ap (λ (s : List Bool). not (odd_ones s)) (sym (bits_mod 8 x)))

odds_again : (s : List ℕ) → none_marked s ≡ true → all_odd s ≡ true → map odd_symbol (map data_of s) ≡ s
unfolding none_marked all_odd
odds_again [] m o = refl
odds_again (x ∷ s) m o =
    ap₂ {B = List ℕ} ◌∷◌ (odd_again x (none_marked_at (x ∷ s) 0 m) (not-true (even x) (and_both (not (even x)) _ o).0))
    (odds_again s (and_both (not (marked x)) _ m).1 (and_both (not (even x)) _ o).1)

symbols_again : (s : List ℕ) → none_marked s ≡ true → parities_right s ≡ true → symbols (map data_of s) ≡ s
unfolding none_marked parities_right symbols
symbols_again [] m p = refl
symbols_again (x ∷ s) m p =
    ap₂ {B = List ℕ} ◌∷◌ (even_again x (none_marked_at (x ∷ s) 0 m) (and_both (even x) _ p).0)
    (odds_again s (and_both (not (marked x)) _ m).1 (and_both (even x) _ p).1)

-- twelve bytes whose last two hold the CRC of the first ten
with_crc : (l : List ℕ) → length l ≡ 12 → crc_of (take 10 l) ≡ get_or l 10 0 + 256 * get_or l 11 0 → get_or l 10 0 < 256
    → take 10 l ++ crc_bytes (take 10 l) ≡ l
unfolding crc_bytes
with_crc l n e h =
    ap (λ (t : List ℕ). take 10 l ++ t)
    (ap₂ (λ (a b : ℕ). a ∷ b ∷ []) (low _ _ _ e h) (high _ _ _ e h)
    ∙ sym (two (rw n (lit< tt)) (rw n (lit< tt)) (rw n (lit≤ tt))))
    ∙ take-append-drop 10 l
  where
    low : (c a b : ℕ) → c ≡ a + 256 * b → a < 256 → c % 256 ≡ a
    low c a b e h = omega arith

    high : (c a b : ℕ) → c ≡ a + 256 * b → a < 256 → c / 256 ≡ b
    high c a b e h = omega arith

    two : 10 < length l → 11 < length l → length l ≤ 12 → drop 10 l ≡ get_or l 10 0 ∷ get_or l 11 0 ∷ []
    two h₁ h₂ h₃ =
        drop-cons l 10 0 h₁
        ∙ ap (λ (t : List ℕ). get_or l 10 0 ∷ t) (drop-cons l 11 0 h₂
        ∙ ap (λ (t : List ℕ). get_or l 11 0 ∷ t) (drop_of_length-le l h₃))

pub acceptable_build : (s : List ℕ) → acceptable s ≡ true → s ≡ build (take 10 (map data_of s))
unfolding crc_right
acceptable_build s e =
    sym
    (build_symbols (take 10 (map data_of s))
    ∙ ap symbols (with_crc (map data_of s) (length-map s data_of ∙ acceptable_length s e) right
    (rw (← data_at) (small (get_or s 10 0))))
    ∙ symbols_again s (tests s e).unmarked (tests s e).parities)
  where
    right : crc_of (take 10 (map data_of s)) ≡ get_or (map data_of s) 10 0 + 256 * get_or (map data_of s) 11 0
    right = eqb-true _ _ (acceptable_crc s e) ∙ ap₂ (λ (a b : ℕ). a + 256 * b) (data_at s 10) (data_at s 11)

    small : (n : ℕ) → n % 256 < 256
    small n = omega arith
