-- A record that is not refused is the record of its own end.
--   within_at       a byte is at most the largest for its place
--   Fits, fits      what the tests for answer 11 leave, for any size, version, number and bytes
--   Now, fits_now   what they leave of a record as it is written now
--   byte_back       a bool's byte from its bool
--   *-part          the bytes of a part, and behind them what stands behind it in the record
--   head_part       a record's head, and what stands behind it
--   accepted_back   writing its end gives the same bytes
--   accepted_good   answer 1 does not meet its end
--   accepted_shape  its end's arrays and counts are as Rust's types say
-- Assumes nothing.
use Prim.Native.Nat.{ℕ, zero, suc, ◌+◌, ◌*◌, ◌/◌, ◌%◌, ◌<◌, ◌≤◌}
use mathlib.Core.Bool.{false, ◌||◌}
use mathlib.Core.List.{List, [], ◌∷◌, ◌++◌, append_assoc, append-nil}
use mathlib.Core.Path.{◌≡◌, refl, sym, ap, ap₂, ◌∙◌}
use native.Mathlib.Nat.{add-zero}
use native.Mathlib.Omega.{arith}
use lib.Dec.{eqb, ltb, lit≤}
use lib.ListN.{length, get_or, take, drop, replicate, length-drop, take-append-drop}
use lib.Seq.{get_or-drop, drop-drop, length-take-le}
use borrow.Author.Tests.{ltb-false, le-ltb, eqb-true, not-false}
use Rattle.receiver.specs.Counting.{listed}
use Rattle.laws.specs.Above.{above}
use Rattle.end.specs.Good.{bad}
use Rattle.laws.proofs.Bools.{or_no}
use Rattle.end.specs.Shape.{Shaped}
use Rattle.recordspec.specs.Record.{size, version, two, twos, pairs, flag, at, two_at, flag_at, bytes_at, head_of}
use Rattle.recordspec.specs.Record.{front_of, back_of, body_of, record_of, end_of, sender_of, outbox_of, collector_of}
use Rattle.recordspec.specs.Record.{heard_of, inbox_of, counts_of, presence_of, largest, limits, exceeds, wrong_head}
use Rattle.recordspec.specs.Record.{refused_by, refused, sender_bytes, outbox_bytes, collector_bytes, heard_bytes}
use Rattle.recordspec.specs.Record.{inbox_bytes}
use Rattle.laws.proofs.Pieces.{one, ended}

-- Bytes within their limits

pub within_at : (l m : List ℕ) (i : ℕ) → length l ≤ length m → exceeds l m ≡ false → get_or l i 0 ≤ get_or m i 0
unfolding exceeds
within_at [] m i e h = omega arith
within_at (x ∷ l) [] i e h = absurd (omega arith)
within_at (x ∷ l) (y ∷ m) zero e h = ltb-false y x (or_no (ltb y x) (exceeds l m) h).0
within_at (x ∷ l) (y ∷ m) (suc i) e h = within_at l m i (omega arith) (or_no (ltb y x) (exceeds l m) h).1

within_drop : (k : ℕ) (l m : List ℕ) → exceeds l m ≡ false → exceeds (drop k l) (drop k m) ≡ false
unfolding exceeds
within_drop zero l m h = h
within_drop (suc k) [] m h = refl
within_drop (suc k) (x ∷ l) [] h = nothing (drop k l)
  where
    nothing : (t : List ℕ) → exceeds t [] ≡ false
    nothing [] = refl
    nothing (y ∷ t) = refl
within_drop (suc k) (x ∷ l) (y ∷ m) h = within_drop k l m (or_no (ltb y x) (exceeds l m) h).1

within_take : (k : ℕ) (l m : List ℕ) → exceeds l m ≡ false → exceeds (take k l) (take k m) ≡ false
unfolding exceeds
within_take zero l m h = refl
within_take (suc k) [] m h = refl
within_take (suc k) (x ∷ l) [] h = refl
within_take (suc k) (x ∷ l) (y ∷ m) h =
    let a = or_no (ltb y x) (exceeds l m) h in
    rw (a.0, within_take k l m a.1)

-- Numbers of two bytes

pair_small : (h l : ℕ) → h ≤ 1 → l ≤ 255 → 256 * h + l ≤ 511
pair_small h l a b = omega arith

pair_high : (h l : ℕ) → l ≤ 255 → (256 * h + l) / 256 ≡ h
pair_high h l b = omega arith

pair_low : (h l : ℕ) → l ≤ 255 → (256 * h + l) % 256 ≡ l
pair_low h l b = omega arith

record Symbols (l : List ℕ) (n : ℕ) : Type 0 where
  back : twos (pairs l) ≡ l
  small : above 511 (pairs l) ≡ false
  long : length (pairs l) ≡ n

symbols : (n : ℕ) (l : List ℕ) → length l ≡ 2 * n → exceeds l (twos (replicate n 511)) ≡ false → Symbols l n
unfolding exceeds above
symbols zero [] e h = record { back = refl; small = refl; long = refl }
symbols zero (x ∷ l) e h = absurd (omega arith)
symbols (suc n) [] e h = absurd (omega arith)
symbols (suc n) (x ∷ []) e h = absurd (omega arith)
symbols (suc n) (x ∷ y ∷ l) e h =
    let a = or_no (ltb 1 x) (ltb 255 y || exceeds l (twos (replicate n 511))) h in
    let b = or_no (ltb 255 y) (exceeds l (twos (replicate n 511))) a.1 in
    let p = ltb-false 1 x a.0 in
    let q = ltb-false 255 y b.0 in
    let r = symbols n l (omega arith) b.1 in
    record {
      back = rw (pair_high x y q, pair_low x y q, r.back);
      small = rw (le-ltb 511 (256 * x + y) (pair_small x y p q), r.small);
      long = ap suc r.long;
    }

-- What the tests for answer 11 leave

pub record Fits (n v k x : ℕ) (b r : List ℕ) : Type 0 where
  pub long : length r ≡ n
  pub said : two_at r 0 ≡ n
  pub known : at r 2 ≡ v
  pub number : x ≤ k
  pub within : exceeds b limits ≡ false

pub fits : (n v k x : ℕ) (b r : List ℕ) → refused_by n v k x b r ≡ false → Fits n v k x b r
unfolding refused_by wrong_head
fits n v k x b r h =
    let a = or_no _ _ h in
    let l = or_no _ _ a.0 in
    let c = or_no _ _ l.0 in
    let d = or_no _ _ a.1 in
    record {
      long = eqb-true _ _ (not-false _ c.0);
      said = eqb-true _ _ (not-false _ c.1);
      known = eqb-true _ _ (not-false _ l.1);
      number = ltb-false k x d.0;
      within = d.1;
    }

abbrev pub Now : List ℕ → Type 0
Now r = Fits size version largest.presence (presence_of r) (drop 3 r) r

pub fits_now : (r : List ℕ) → refused r ≡ false → Now r
unfolding refused
fits_now r h = fits size version largest.presence (presence_of r) (drop 3 r) r h

limits_long : (r : List ℕ) → Now r → length (drop 3 r) ≤ length limits
unfolding limits front_of back_of
limits_long r f = rw (length-drop 3 r, f.long) (lit≤ tt)

abbrev limit : ℕ → ℕ
limit i = at limits i

most : (r : List ℕ) → Now r → (i : ℕ) → at r (3 + i) ≤ limit i
most r f i = rw (sym (get_or-drop 3 r i 0)) (within_at (drop 3 r) limits i (limits_long r f) f.within)

pub byte_back : (x : ℕ) → x ≤ 1 → flag (eqb x 1) ≡ x
byte_back zero h = refl
byte_back (suc zero) h = refl
byte_back (suc (suc x)) h = absurd (omega arith)

bytes_long : (r : List ℕ) (i n : ℕ) → i + n ≤ length r → length (bytes_at r i n) ≡ n
bytes_long r i n h = length-take-le n (drop i r) (rw length-drop (omega arith))

-- the bool at place 3 + i
flag_at_lem : (r : List ℕ) → Now r → (i : ℕ) → limit i ≡ 1 → flag (flag_at r (3 + i)) ≡ at r (3 + i)
flag_at_lem r f i e = byte_back (at r (3 + i)) (rw (sym e) (most r f i))

-- the symbols that stand from place 3 + k on
symbols_at : (r : List ℕ) → Now r → (k : ℕ) → take 24 (drop k limits) ≡ twos (replicate 12 511)
    → k + 27 ≤ size → Symbols (bytes_at r (3 + k) 24) 12
symbols_at r f k e h =
    let l = f.long in
    symbols 12 (bytes_at r (3 + k) 24) (bytes_long r (3 + k) 24 (omega arith))
    (rw (sym (drop-drop k 3 r), sym e) (within_take 24 _ _ (within_drop k _ _ f.within)))

-- so much of the record is there
room : (r : List ℕ) → Now r → (k : ℕ) → k ≤ size → k ≤ length r
room r f k h = let l = f.long in omega arith

-- Each part, and what stands behind it

scalars : ℕ → ℕ → List ℕ → List ℕ
scalars i zero r = []
scalars i (suc n) r = at r i ∷ scalars (suc i) n r

run : (n i : ℕ) (r : List ℕ) → i + n ≤ length r → scalars i n r ++ drop (i + n) r ≡ drop i r
unfolding scalars
run zero i r h = rw add-zero
run (suc n) i r h =
    let next : i + suc n ≡ suc i + n = omega arith in
    rw next (ap (λ (t : List ℕ). at r i ∷ t) (run n (suc i) r (omega arith)) ∙ one r i (omega arith))

part : (r : List ℕ) (i n : ℕ) → bytes_at r i n ++ drop (i + n) r ≡ drop i r
part r i n = ap (λ (t : List ℕ). bytes_at r i n ++ t) (sym (drop-drop n i r)) ∙ take-append-drop n (drop i r)

symbols_part : (r x : List ℕ) (i n : ℕ) → twos (pairs (bytes_at r i 24)) ≡ bytes_at r i 24 → i + 24 + n ≤ length r
    → x ≡ scalars (i + 24) n r → (twos (pairs (bytes_at r i 24)) ++ x) ++ drop (i + 24 + n) r ≡ drop i r
symbols_part r x i n b h e =
    append_assoc (twos (pairs (bytes_at r i 24))) x (drop (i + 24 + n) r)
    ∙ (ap₂ (λ (s t : List ℕ). s ++ t) b (ap (λ (t : List ℕ). t ++ drop (i + 24 + n) r) e ∙ run n (i + 24) r h)
    ∙ part r i 24)

sender_part : (r : List ℕ) → Now r → sender_bytes (sender_of r) ++ drop 32 r ≡ drop 3 r
unfolding scalars limits front_of back_of
sender_part r f =
    symbols_part r _ 3 5 (symbols_at r f 0 refl (lit≤ tt)).back (room r f 32 (lit≤ tt))
    (rw (flag_at_lem r f 25 refl, flag_at_lem r f 26 refl))

collector_part : (r : List ℕ) → Now r → collector_bytes (collector_of r) ++ drop 71 r ≡ drop 46 r
unfolding scalars limits front_of back_of
collector_part r f = symbols_part r _ 46 1 (symbols_at r f 43 refl (lit≤ tt)).back (room r f 71 (lit≤ tt)) refl

outbox_part : (r : List ℕ) → Now r → outbox_bytes (outbox_of r) ++ drop 46 r ≡ drop 32 r
unfolding scalars limits front_of back_of
outbox_part r f =
    rw (
      flag_at_lem r f 29 refl,
      flag_at_lem r f 30 refl,
      flag_at_lem r f 31 refl,
      flag_at_lem r f 32 refl,
      flag_at_lem r f 34 refl,
    ) (ap (λ (t : List ℕ). scalars 32 6 r ++ t) (part r 38 8) ∙ run 6 32 r (room r f 38 (lit≤ tt)))

heard_part : (r : List ℕ) → Now r → heard_bytes (heard_of r) ++ drop 78 r ≡ drop 71 r
unfolding scalars limits front_of back_of
heard_part r f =
    rw (
      flag_at_lem r f 69 refl,
      flag_at_lem r f 70 refl,
      flag_at_lem r f 71 refl,
      flag_at_lem r f 72 refl,
      flag_at_lem r f 73 refl,
      flag_at_lem r f 74 refl,
    ) (run 7 71 r (room r f 78 (lit≤ tt)))

inbox_part : (r : List ℕ) → Now r → inbox_bytes (inbox_of r) ++ drop 91 r ≡ drop 78 r
unfolding scalars limits front_of back_of
inbox_part r f =
    rw (
      flag_at_lem r f 75 refl,
      flag_at_lem r f 76 refl,
      flag_at_lem r f 77 refl,
      flag_at_lem r f 78 refl,
    ) (ap (λ (t : List ℕ). scalars 78 5 r ++ t) (part r 83 8) ∙ run 5 78 r (room r f 83 (lit≤ tt)))

-- the byte at place 3 + i, where it can have any value
any_byte : (r : List ℕ) → Now r → (i : ℕ) → limit i ≡ 255 → at r (3 + i) ≤ 255
any_byte r f i e = rw (sym e) (most r f i)

counts_part : (r : List ℕ) → Now r → twos (listed (counts_of r)) ++ drop 99 r ≡ drop 91 r
unfolding scalars limits front_of back_of
counts_part r f =
    let b = any_byte r f in
    rw (
      pair_high (at r 91) (at r 92) (b 89 refl),
      pair_low (at r 91) (at r 92) (b 89 refl),
      pair_high (at r 93) (at r 94) (b 91 refl),
      pair_low (at r 93) (at r 94) (b 91 refl),
      pair_high (at r 95) (at r 96) (b 93 refl),
      pair_low (at r 95) (at r 96) (b 93 refl),
      pair_high (at r 97) (at r 98) (b 95 refl),
      pair_low (at r 97) (at r 98) (b 95 refl),
    ) (run 8 91 r (room r f 99 (lit≤ tt)))

presence_part : (r : List ℕ) → Now r → two (presence_of r) ≡ drop 99 r
unfolding scalars limits front_of back_of
presence_part r f =
    let b = any_byte r f 97 refl in
    rw (pair_high (at r 99) (at r 100) b, pair_low (at r 99) (at r 100) b)
    (sym (append-nil (scalars 99 2 r))
    ∙ (ap (λ (t : List ℕ). scalars 99 2 r ++ t) (sym (ended size r f.long))
    ∙ run 2 99 r (room r f size (lit≤ tt))))

seven : (s o c h i k p : List ℕ)
    → (s ++ (o ++ c)) ++ ((h ++ (i ++ k)) ++ p) ≡ s ++ (o ++ (c ++ (h ++ (i ++ (k ++ p)))))
seven s o c h i k p = simp append_assoc

body_part : (r : List ℕ) → Now r → body_of (end_of r) ≡ drop 3 r
unfolding body_of front_of back_of end_of
body_part r f =
    seven (sender_bytes (sender_of r)) (outbox_bytes (outbox_of r)) (collector_bytes (collector_of r))
    (heard_bytes (heard_of r)) (inbox_bytes (inbox_of r)) (twos (listed (counts_of r))) (two (presence_of r))
    ∙ rw (presence_part r f, counts_part r f, inbox_part r f, heard_part r f, collector_part r f, outbox_part r f)
    (sender_part r f)

-- a length below 256
high_zero : (h l n : ℕ) → n < 256 → 256 * h + l ≡ n → n / 256 ≡ h
high_zero h l n b e = omega arith

low_all : (h l n : ℕ) → n < 256 → 256 * h + l ≡ n → n % 256 ≡ l
low_all h l n b e = omega arith

head_is : (n v a b c : ℕ) (l : List ℕ) → n < 256 → 256 * a + b ≡ n → c ≡ v → head_of n v ++ l ≡ a ∷ b ∷ c ∷ l
head_is n v a b c l h e k = rw (high_zero a b n h e, low_all a b n h e, k)

pub head_part : (n v : ℕ) (r : List ℕ) → 3 ≤ n → n < 256 → length r ≡ n → two_at r 0 ≡ n → at r 2 ≡ v
    → head_of n v ++ drop 3 r ≡ r
unfolding scalars
head_part n v r h k long said known =
    head_is n v (at r 0) (at r 1) (at r 2) (drop 3 r) k said known ∙ run 3 0 r (rw long h)

pub accepted_back : (r : List ℕ) → refused r ≡ false → record_of (end_of r) ≡ r
unfolding record_of
accepted_back r h =
    let f = fits_now r h in
    rw (body_part r f) (head_part size version r (lit≤ tt) (lit≤ tt) f.long f.said f.known)

-- What the end is like

small_bytes : (n : ℕ) (l : List ℕ) → length l ≡ n → exceeds l (replicate n 255) ≡ false → above 255 l ≡ false
unfolding exceeds above
small_bytes n [] e h = refl
small_bytes zero (x ∷ l) e h = absurd (omega arith)
small_bytes (suc n) (x ∷ l) e h =
    let a = or_no (ltb 255 x) (exceeds l (replicate n 255)) h in
    rw (a.0, small_bytes n l (omega arith) a.1)

-- the eight bytes that stand from place 3 + k on
bytes_at_lem : (r : List ℕ) → Now r → (k : ℕ) → take 8 (drop k limits) ≡ replicate 8 255 → k + 11 ≤ size
    → (length (bytes_at r (3 + k) 8) ≡ 8) × (above 255 (bytes_at r (3 + k) 8) ≡ false)
bytes_at_lem r f k e h =
    let l = f.long in
    let long = bytes_long r (3 + k) 8 (omega arith) in (
      long,
      small_bytes 8 _ long (rw (sym (drop-drop k 3 r), sym e) (within_take 8 _ _ (within_drop k _ _ f.within))),
    )

pub accepted_good : (r : List ℕ) → refused r ≡ false → bad (end_of r) ≡ false
unfolding bad end_of limits front_of back_of
accepted_good r h =
    let f = fits_now r h in
    rw (
      le-ltb 11 (at r 27) (most r f 24),
      le-ltb 11 (at r 70) (most r f 67),
      (symbols_at r f 0 refl (lit≤ tt)).small,
      (symbols_at r f 43 refl (lit≤ tt)).small,
      le-ltb 3 (at r 30) (most r f 27),
      le-ltb 3 (at r 31) (most r f 28),
      le-ltb 3 (at r 71) (most r f 68),
      le-ltb 15 (at r 36) (most r f 33),
      le-ltb 15 (at r 82) (most r f 79),
      le-ltb 768 (presence_of r) f.number,
    )

counts_small : (r : List ℕ) → Now r → above 65535 (listed (counts_of r)) ≡ false
unfolding above limits front_of back_of
counts_small r f =
    let b = any_byte r f in
    rw (
      le-ltb 65535 _ (sixteen (at r 91) (at r 92) (b 88 refl) (b 89 refl)),
      le-ltb 65535 _ (sixteen (at r 93) (at r 94) (b 90 refl) (b 91 refl)),
      le-ltb 65535 _ (sixteen (at r 95) (at r 96) (b 92 refl) (b 93 refl)),
      le-ltb 65535 _ (sixteen (at r 97) (at r 98) (b 94 refl) (b 95 refl)),
    )
  where
    sixteen : (h l : ℕ) → h ≤ 255 → l ≤ 255 → 256 * h + l ≤ 65535
    sixteen h l a b = omega arith

pub accepted_shape : (r : List ℕ) → refused r ≡ false → Shaped (end_of r)
unfolding end_of limits front_of back_of
accepted_shape r h =
    let f = fits_now r h in
    let out = bytes_at_lem r f 35 refl (lit≤ tt) in
    let got = bytes_at_lem r f 80 refl (lit≤ tt) in
    record {
      sending = (symbols_at r f 0 refl (lit≤ tt)).long;
      collecting = (symbols_at r f 43 refl (lit≤ tt)).long;
      eight_out = out.0;
      eight_in = got.0;
      bytes_out = out.1;
      bytes_in = got.1;
      counts = counts_small r f;
    }
