-- Laws of Crc.antt, over any width and generator: lengths; exclusive or of registers; the CRC is linear (`run_plus`,
-- `crc_plus`); a register fed with itself goes to zeros; bits that come in may as well be added to the register
-- first (`run_absorb`); and, where the generator's constant term is 1 (it is `h ++ (true ∷ [])`), a shift loses
-- nothing, so that a burst no longer than the register is caught (`run_burst`, `crc_burst`). Assumes nothing.
use Prim.Native.Nat.{ℕ, zero, suc, ◌+◌, ◌≤◌}
use native.Mathlib.Nat.{suc_inj, suc-add, zero-add, add-suc, le_dest}
use native.Mathlib.Numerals.{add-one}
use native.Mathlib.Omega.{arith}
use mathlib.Core.Bool.{Bool, true, false, xor, ◌&&◌}
use mathlib.Core.List.{List, [], ◌∷◌, ◌++◌, append_assoc, append-nil}
use mathlib.Core.Path.{◌≡◌, refl, ap, ap₂, sym, ◌∙◌}
use lib.ListN.{length, take, drop, replicate, length-map, length-append, length-replicate}
use lib.Seq.{take_at, drop_at}
use Rattle.crc.specs.Crc.{plus, times, shift, run, crc}
use Rattle.crc.proofs.BitsLaws.{xor_assoc, xor_comm, xor_swap, and_xor, xor_self, xor_false, false_xor}
use Rattle.crc.proofs.BitsLaws.{xor_back}

pub plus_length : (s t : List Bool) → length s ≡ length t → length (plus s t) ≡ length s
unfolding plus
plus_length [] t e = refl
plus_length (a ∷ s) [] e = sym e
plus_length (a ∷ s) (b ∷ t) e = ap suc (plus_length s t (suc_inj e))

pub times_length : (b : Bool) (g : List Bool) → length (times b g) ≡ length g
unfolding times
times_length b g = length-map g (λ (a : Bool). b && a)

pub shift_length : (g r : List Bool) (b : Bool) → length r ≡ length g → length (shift g r b) ≡ length g
unfolding shift
shift_length g [] b e = e
shift_length g (s ∷ r) b e =
    plus_length (r ++ (false ∷ [])) (times (xor s b) g) (up ∙ sym (times_length (xor s b) g)) ∙ up
  where
    up : length (r ++ (false ∷ [])) ≡ length g
    up = length-append r (false ∷ []) ∙ add-one (length r) ∙ e

pub run_length : (g r bs : List Bool) → length r ≡ length g → length (run g r bs) ≡ length g
unfolding run
run_length g r [] e = e
run_length g r (b ∷ bs) e = run_length g (shift g r b) bs (shift_length g r b e)

pub crc_length : (g bs : List Bool) → length (crc g bs) ≡ length g
unfolding crc
crc_length g bs = run_length g (times false g) bs (times_length false g)

-- ---------------------------------------------------------------- lists that are equal in two parts

same_front : (s s' t t' : List Bool) → length s ≡ length s' → s ++ t ≡ s' ++ t' → s ≡ s'
same_front s s' t t' n e = sym (take_at s t (length s') n) ∙ ap (take (length s')) e ∙ take_at s' t' (length s') refl

same_back : (s s' t t' : List Bool) → length s ≡ length s' → s ++ t ≡ s' ++ t' → t ≡ t'
same_back s s' t t' n e = sym (drop_at s t (length s') n) ∙ ap (drop (length s')) e ∙ drop_at s' t' (length s') refl

-- ---------------------------------------------------------------- exclusive or of registers

pub plus_comm : (s t : List Bool) → plus s t ≡ plus t s
unfolding plus
plus_comm [] [] = refl
plus_comm [] (b ∷ t) = refl
plus_comm (a ∷ s) [] = refl
plus_comm (a ∷ s) (b ∷ t) = ap₂ {B = List Bool} ◌∷◌ (xor_comm a b) (plus_comm s t)

pub plus_assoc : (s t u : List Bool) → plus (plus s t) u ≡ plus s (plus t u)
unfolding plus
plus_assoc [] t u = refl
plus_assoc (a ∷ s) [] u = refl
plus_assoc (a ∷ s) (b ∷ t) [] = refl
plus_assoc (a ∷ s) (b ∷ t) (c ∷ u) = ap₂ {B = List Bool} ◌∷◌ (xor_assoc a b c) (plus_assoc s t u)

pub plus_swap : (s t u v : List Bool) → plus (plus s t) (plus u v) ≡ plus (plus s u) (plus t v)
plus_swap s t u v =
    plus_assoc s t (plus u v)
    ∙ ap (plus s) (sym (plus_assoc t u v) ∙ ap (λ (x : List Bool). plus x v) (plus_comm t u) ∙ plus_assoc u t v)
    ∙ sym (plus_assoc s u (plus t v))

-- the same added twice is gone
pub plus_back : (s t : List Bool) → length s ≡ length t → plus (plus s t) t ≡ s
unfolding plus
plus_back [] t e = refl
plus_back (a ∷ s) [] e = absurd (omega arith)
plus_back (a ∷ s) (b ∷ t) e = ap₂ {B = List Bool} ◌∷◌ (xor_back a b) (plus_back s t (suc_inj e))

pub plus_cancel : (s t u : List Bool) → length s ≡ length u → length t ≡ length u → plus s u ≡ plus t u → s ≡ t
plus_cancel s t u n m e = sym (plus_back s u n) ∙ ap (λ (r : List Bool). plus r u) e ∙ plus_back t u m

pub plus_zeros : (s : List Bool) (n : ℕ) → length s ≡ n → plus s (replicate n false) ≡ s
unfolding plus
plus_zeros [] n e = refl
plus_zeros (a ∷ s) zero e = absurd (omega arith)
plus_zeros (a ∷ s) (suc n) e = ap₂ {B = List Bool} ◌∷◌ (xor_false a) (plus_zeros s n (suc_inj e))

pub plus_append : (s t u v : List Bool) → length s ≡ length t → plus (s ++ u) (t ++ v) ≡ plus s t ++ plus u v
unfolding plus
plus_append [] [] u v e = refl
plus_append [] (y ∷ t) u v e = absurd (omega arith)
plus_append (x ∷ s) [] u v e = absurd (omega arith)
plus_append (x ∷ s) (y ∷ t) u v e = ap (λ (r : List Bool). xor x y ∷ r) (plus_append s t u v (suc_inj e))

pub plus_snoc : (s t : List Bool) (a b : Bool) → length s ≡ length t
    → plus (s ++ (a ∷ [])) (t ++ (b ∷ [])) ≡ plus s t ++ (xor a b ∷ [])
unfolding plus
plus_snoc s t a b e = plus_append s t (a ∷ []) (b ∷ []) e

plus_nil : (s : List Bool) → plus s [] ≡ []
unfolding plus
plus_nil [] = refl
plus_nil (a ∷ s) = refl

pub plus_take : (n : ℕ) (s t : List Bool) → take n (plus s t) ≡ plus (take n s) (take n t)
unfolding plus
plus_take zero s t = refl
plus_take (suc n) [] t = refl
plus_take (suc n) (a ∷ s) [] = refl
plus_take (suc n) (a ∷ s) (b ∷ t) = ap (λ (r : List Bool). xor a b ∷ r) (plus_take n s t)

pub plus_drop : (n : ℕ) (s t : List Bool) → drop n (plus s t) ≡ plus (drop n s) (drop n t)
unfolding plus
plus_drop zero s t = refl
plus_drop (suc n) [] t = refl
plus_drop (suc n) (a ∷ s) [] = sym (plus_nil (drop n s))
plus_drop (suc n) (a ∷ s) (b ∷ t) = plus_drop n s t

pub times_false : (g : List Bool) → times false g ≡ replicate (length g) false
unfolding times
times_false [] = refl
times_false (a ∷ g) = ap (λ (r : List Bool). false ∷ r) (times_false g)

pub times_true : (g : List Bool) → times true g ≡ g
unfolding times
times_true [] = refl
times_true (a ∷ g) = ap (λ (r : List Bool). a ∷ r) (times_true g)

pub times_plus : (a b : Bool) (g : List Bool) → times (xor a b) g ≡ plus (times a g) (times b g)
unfolding times plus
times_plus a b [] = refl
times_plus a b (x ∷ g) = ap₂ {B = List Bool} ◌∷◌ (and_xor a b x) (times_plus a b g)

pub times_snoc : (b : Bool) (h : List Bool) → times b (h ++ (true ∷ [])) ≡ times b h ++ (b ∷ [])
unfolding times
times_snoc true [] = refl
times_snoc false [] = refl
times_snoc b (a ∷ h) = ap (λ (r : List Bool). (b && a) ∷ r) (times_snoc b h)

-- ---------------------------------------------------------------- linear: the sum of two runs is the run of the sums

pub shift_plus : (g r s : List Bool) (a b : Bool) → length r ≡ length s
    → shift g (plus r s) (xor a b) ≡ plus (shift g r a) (shift g s b)
unfolding shift plus
shift_plus g [] s a b e = refl
shift_plus g (p ∷ r) [] a b e = absurd (omega arith)
shift_plus g (p ∷ r) (q ∷ s) a b e =
    ap₂ (λ (x : List Bool) (c : Bool). plus x (times c g)) (sym (plus_snoc r s false false (suc_inj e)))
    (xor_swap p q a b)
    ∙ ap (plus (plus (r ++ (false ∷ [])) (s ++ (false ∷ [])))) (times_plus (xor p a) (xor q b) g)
    ∙ plus_swap (r ++ (false ∷ [])) (s ++ (false ∷ [])) (times (xor p a) g) (times (xor q b) g)

pub run_plus : (g r s x y : List Bool) → length r ≡ length g → length s ≡ length g → length x ≡ length y
    → run g (plus r s) (plus x y) ≡ plus (run g r x) (run g s y)
unfolding run plus
run_plus g r s [] [] n m e = refl
run_plus g r s [] (b ∷ y) n m e = absurd (omega arith)
run_plus g r s (a ∷ x) [] n m e = absurd (omega arith)
run_plus g r s (a ∷ x) (b ∷ y) n m e =
    ap (λ (t : List Bool). run g t (plus x y)) (shift_plus g r s a b (n ∙ sym m))
    ∙ run_plus g (shift g r a) (shift g s b) x y (shift_length g r a n) (shift_length g s b m) (suc_inj e)

pub crc_plus : (g x y : List Bool) → length x ≡ length y → crc g (plus x y) ≡ plus (crc g x) (crc g y)
unfolding crc
crc_plus g x y e =
    ap (λ (t : List Bool). run g t (plus x y)) (times_plus false false g)
    ∙ run_plus g (times false g) (times false g) x y (times_length false g) (times_length false g) e

-- ---------------------------------------------------------------- runs

pub run_append : (g r s t : List Bool) → run g r (s ++ t) ≡ run g (run g r s) t
unfolding run
run_append g r [] t = refl
run_append g r (b ∷ s) t = run_append g (shift g r b) s t

-- the register's own highest bit comes in: nothing is fed back
shift_own : (g r : List Bool) (s : Bool) → suc (length r) ≡ length g → shift g (s ∷ r) s ≡ r ++ (false ∷ [])
unfolding shift
shift_own g r s e =
    ap (plus (r ++ (false ∷ []))) (ap (λ (b : Bool). times b g) (xor_self s) ∙ times_false g)
    ∙ plus_zeros (r ++ (false ∷ [])) (length g) (length-append r (false ∷ []) ∙ add-one (length r) ∙ e)

-- the first bits of a register, fed with themselves, leave the rest and zeros
run_own : (g u z : List Bool) → length (u ++ z) ≡ length g → run g (u ++ z) u ≡ z ++ replicate (length u) false
unfolding run
run_own g [] z e = sym (append-nil z)
run_own g (s ∷ u) z e =
    ap (λ (r : List Bool). run g r u) (shift_own g (u ++ z) s e ∙ append_assoc u z (false ∷ []))
    ∙ run_own g u (z ++ (false ∷ [])) (moved ∙ e)
    ∙ append_assoc z (false ∷ []) (replicate (length u) false)
  where
    moved : length (u ++ (z ++ (false ∷ []))) ≡ suc (length (u ++ z))
    moved =
        ap length (sym (append_assoc u z (false ∷ []))) ∙ length-append (u ++ z) (false ∷ [])
        ∙ add-one (length (u ++ z))

-- a message with its own CRC behind it brings the register back to zeros
pub crc_own : (g bs : List Bool) → run g (times false g) (bs ++ crc g bs) ≡ replicate (length g) false
unfolding crc
crc_own g bs =
    run_append g (times false g) bs (crc g bs)
    ∙ ap (λ (r : List Bool). run g r (crc g bs)) (sym (append-nil (crc g bs)))
    ∙ run_own g (crc g bs) [] (ap length (append-nil (crc g bs)) ∙ crc_length g bs)
    ∙ ap (λ (n : ℕ). replicate n false) (crc_length g bs)

-- ---------------------------------------------------------------- a burst no longer than the register

replicate_snoc : (n : ℕ) → replicate (suc n) false ≡ replicate n false ++ (false ∷ [])
replicate_snoc zero = refl
replicate_snoc (suc n) = ap (λ (r : List Bool). false ∷ r) (replicate_snoc n)

-- one bit that comes in, and what is added below it
shift_absorb : (g r u : List Bool) (s b : Bool) → length r ≡ length u
    → plus (shift g (s ∷ r) b) (u ++ (false ∷ [])) ≡ shift g (plus (s ∷ r) (b ∷ u)) false
unfolding shift plus xor
shift_absorb g r u s b e =
    plus_assoc (r ++ (false ∷ [])) (times (xor s b) g) (u ++ (false ∷ []))
    ∙ ap (plus (r ++ (false ∷ []))) (plus_comm (times (xor s b) g) (u ++ (false ∷ [])))
    ∙ sym (plus_assoc (r ++ (false ∷ [])) (u ++ (false ∷ [])) (times (xor s b) g))
    ∙ ap₂ (λ (x : List Bool) (c : Bool). plus x (times c g)) (plus_snoc r u false false e) (sym (xor_false (xor s b)))

pub run_absorb : (g r u : List Bool) (k : ℕ) → length r ≡ length g → length u + k ≡ length g
    → run g r u ≡ run g (plus r (u ++ replicate k false)) (replicate (length u) false)
unfolding run
run_absorb g r [] k e n = sym (plus_zeros r k (e ∙ sym n ∙ zero-add k))
run_absorb g [] (b ∷ u) k e n = absurd (omega arith)
run_absorb g (s ∷ r) (b ∷ u) k e n =
    run_absorb g (shift g (s ∷ r) b) u (suc k) (shift_length g (s ∷ r) b e)
    (add-suc (length u) k ∙ sym (suc-add (length u) k) ∙ n)
    ∙ ap (λ (x : List Bool). run g x (replicate (length u) false))
    (ap (λ (z : List Bool). plus (shift g (s ∷ r) b) (u ++ z)) (replicate_snoc k)
    ∙ ap (plus (shift g (s ∷ r) b)) (sym (append_assoc u (replicate k false) (false ∷ [])))
    ∙ shift_absorb g r (u ++ replicate k false) s b lengths)
  where
    lengths : length r ≡ length (u ++ replicate k false)
    lengths =
        suc_inj (e ∙ sym n ∙ suc-add (length u) k)
        ∙ sym (length-append u (replicate k false) ∙ ap (λ (m : ℕ). length u + m) (length-replicate k false))

-- the generator with constant term 1 and the other coefficients h
abbrev pub with_one : List Bool → List Bool
with_one h = h ++ (true ∷ [])

with_one_length : (h : List Bool) → length (with_one h) ≡ suc (length h)
with_one_length h = length-append h (true ∷ []) ∙ add-one (length h)

-- the bit fed back is the lowest of the new register
shift_last : (h r : List Bool) (s b : Bool) → length r ≡ length h
    → shift (with_one h) (s ∷ r) b ≡ plus r (times (xor s b) h) ++ (xor s b ∷ [])
unfolding shift xor
shift_last h r s b e =
    ap (plus (r ++ (false ∷ []))) (times_snoc (xor s b) h)
    ∙ plus_snoc r (times (xor s b) h) false (xor s b) (e ∙ sym (times_length (xor s b) h))
    ∙ ap (λ (c : Bool). plus r (times (xor s b) h) ++ (c ∷ [])) (false_xor (xor s b))

pub shift_injective : (h r s : List Bool) (b : Bool) → length r ≡ suc (length h) → length s ≡ suc (length h)
    → shift (with_one h) r b ≡ shift (with_one h) s b → r ≡ s
shift_injective h [] s b n m e = absurd (omega arith)
shift_injective h (x ∷ r) [] b n m e = absurd (omega arith)
shift_injective h (x ∷ r) (y ∷ s) b n m e = ap₂ {B = List Bool} ◌∷◌ tops rests
  where
    front : Bool → List Bool → List Bool
    front z t = plus t (times (xor z b) h)

    fed : (z : Bool) (t : List Bool) → length t ≡ length h → length (front z t) ≡ length h
    fed z t k = plus_length t (times (xor z b) h) (k ∙ sym (times_length (xor z b) h)) ∙ k

    parts : front x r ++ (xor x b ∷ []) ≡ front y s ++ (xor y b ∷ [])
    parts = sym (shift_last h r x b (suc_inj n)) ∙ e ∙ shift_last h s y b (suc_inj m)

    fronts : front x r ≡ front y s
    fronts =
        same_front (front x r) (front y s) (xor x b ∷ []) (xor y b ∷ [])
        (fed x r (suc_inj n) ∙ sym (fed y s (suc_inj m))) parts

    backs : xor x b ∷ [] ≡ xor y b ∷ []
    backs =
        same_back (front x r) (front y s) (xor x b ∷ []) (xor y b ∷ [])
        (fed x r (suc_inj n) ∙ sym (fed y s (suc_inj m))) parts

    tops : x ≡ y
    tops = sym (xor_back x b) ∙ ap (λ (c : Bool). xor c b) (cc backs) ∙ xor_back y b

    rests : r ≡ s
    rests =
        plus_cancel r s (times (xor x b) h) (suc_inj n ∙ sym (times_length (xor x b) h))
        (suc_inj m ∙ sym (times_length (xor x b) h))
        (fronts ∙ ap (λ (z : Bool). plus s (times (xor z b) h)) (sym tops))

pub run_injective : (h r s bs : List Bool) → length r ≡ suc (length h) → length s ≡ suc (length h)
    → run (with_one h) r bs ≡ run (with_one h) s bs → r ≡ s
unfolding run
run_injective h r s [] n m e = e
run_injective h r s (b ∷ bs) n m e =
    shift_injective h r s b n m (run_injective h (shift (with_one h) r b) (shift (with_one h) s b) bs (next r n)
    (next s m) e)
  where
    next : (r : List Bool) → length r ≡ suc (length h) → length (shift (with_one h) r b) ≡ suc (length h)
    next r n = shift_length (with_one h) r b (n ∙ sym (with_one_length h)) ∙ with_one_length h

-- two messages that differ only inside one stretch no longer than the register
pub run_burst : (h r u v q : List Bool) → length r ≡ suc (length h) → length u ≡ length v → length u ≤ suc (length h)
    → run (with_one h) r (u ++ q) ≡ run (with_one h) r (v ++ q) → u ≡ v
run_burst h r u v q n m b e =
    same_front u v (replicate k false) (replicate k false) m
    (plus_cancel (u ++ replicate k false) (v ++ replicate k false) r (long u fits) (long v fits')
    (plus_comm (u ++ replicate k false) r ∙ sums ∙ plus_comm r (v ++ replicate k false)))
  where
    k : ℕ
    k = (le_dest b).0

    fits : length u + k ≡ suc (length h)
    fits = (le_dest b).1

    fits' : length v + k ≡ suc (length h)
    fits' = ap (λ (j : ℕ). j + k) (sym m) ∙ fits

    long : (w : List Bool) → length w + k ≡ suc (length h) → length (w ++ replicate k false) ≡ length r
    long w f = length-append w (replicate k false) ∙ ap (λ (j : ℕ). length w + j) (length-replicate k false) ∙ f ∙ sym n

    wide : length r ≡ length (with_one h)
    wide = n ∙ sym (with_one_length h)

    ran : (w : List Bool) → length (run (with_one h) r w) ≡ suc (length h)
    ran w = run_length (with_one h) r w wide ∙ with_one_length h

    before : run (with_one h) r u ≡ run (with_one h) r v
    before =
        run_injective h (run (with_one h) r u) (run (with_one h) r v) q (ran u) (ran v)
        (sym (run_append (with_one h) r u q) ∙ e ∙ run_append (with_one h) r v q)

    added : (w : List Bool) → length w + k ≡ suc (length h) → length (plus r (w ++ replicate k false)) ≡ suc (length h)
    added w f = plus_length r (w ++ replicate k false) (sym (long w f)) ∙ n

    sums : plus r (u ++ replicate k false) ≡ plus r (v ++ replicate k false)
    sums =
        run_injective h (plus r (u ++ replicate k false)) (plus r (v ++ replicate k false))
        (replicate (length u) false) (added u fits) (added v fits')
        (sym (run_absorb (with_one h) r u k wide (fits ∙ sym (with_one_length h)))
        ∙ before
        ∙ run_absorb (with_one h) r v k wide (fits' ∙ sym (with_one_length h))
        ∙ ap (λ (j : ℕ). run (with_one h) (plus r (v ++ replicate k false)) (replicate j false)) (sym m))

pub crc_burst : (h p u v q : List Bool) → length u ≡ length v → length u ≤ suc (length h)
    → crc (with_one h) (p ++ (u ++ q)) ≡ crc (with_one h) (p ++ (v ++ q)) → u ≡ v
unfolding crc
crc_burst h p u v q m b e =
    run_burst h (run (with_one h) zeros p) u v q
    (run_length (with_one h) zeros p (times_length false (with_one h)) ∙ with_one_length h) m b
    (sym (run_append (with_one h) zeros p (u ++ q)) ∙ e ∙ run_append (with_one h) zeros p (v ++ q))
  where
    zeros : List Bool
    zeros = times false (with_one h)
