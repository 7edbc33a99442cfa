-- Linear maps of bits, and how a quick way to work a CRC is shown right, over any width and generator. Each way that
-- copies, moves and adds bits is linear, and so is the CRC. Two linear maps that agree on every message with a single
-- one agree on every message (`linear_same`), so a way needs to be tried on no more than those (`crc_same`).
--   Linear n m f   f takes n bits to m bits, and a sum to the sum
--   copy from count before after s   a part of s, moved: with so many zeros before and after it
--   with_parity p g s  s, with g added where the parity of its ones is not p
--   agree n f h    f and h give the same on each message of n bits with a single one
-- Assumes nothing.
use Prim.Native.Nat.{ℕ, zero, suc, ◌+◌, ◌-◌, ◌≤◌}
use native.Mathlib.Nat.{suc_inj}
use native.Mathlib.Omega.{arith}
use mathlib.Core.Bool.{Bool, true, false, xor, ◌&&◌, and-eq-true_iff}
use mathlib.Core.List.{List, [], ◌∷◌, ◌++◌}
use mathlib.Core.Path.{◌≡◌, refl, ap, ap₂, sym, ◌∙◌}
use borrow.Author.Tests.{eqb-true}
use lib.Dec.{eqb}
use lib.ListN.{length, take, drop, replicate, length-append, length-drop, length-replicate}
use lib.Seq.{length-take-le}
use Rattle.crc.specs.Bits.{bits, number, odd_ones}
use Rattle.crc.specs.Crc.{plus, times, crc}
use Rattle.crc.proofs.BitsLaws.{xor_swap, xor_self, bits_number, odd_ones_plus}
use Rattle.crc.proofs.CrcLaws.{plus_length, plus_comm, plus_swap, plus_zeros, plus_append, plus_take}
use Rattle.crc.proofs.CrcLaws.{plus_drop, times_length, times_plus, crc_length, crc_plus}

abbrev pub Linear : ℕ → ℕ → (List Bool → List Bool) → Type 0
Linear n m f =
    ((s : List Bool) → length s ≡ n → length (f s) ≡ m)
    × ((s t : List Bool) → length s ≡ n → length t ≡ n → f (plus s t) ≡ plus (f s) (f t))

crc_linear : (g : List Bool) (n : ℕ) → Linear n (length g) (crc g)
crc_linear g n = (λ s e. crc_length g s, λ s t e d. crc_plus g s t (e ∙ sym d))

-- ---------------------------------------------------------------- what quick ways are made of

pub linear_then : (n m k : ℕ) (f h : List Bool → List Bool) → Linear n m f → Linear m k h
    → Linear n k (λ (s : List Bool). h (f s))
linear_then n m k f h p q = (
  λ s e. q.0 (f s) (p.0 s e),
  λ s t e d. ap h (p.1 s t e d) ∙ q.1 (f s) (f t) (p.0 s e) (p.0 t d),
)

linear_plus : (n m : ℕ) (f h : List Bool → List Bool) → Linear n m f → Linear n m h
    → Linear n m (λ (s : List Bool). plus (f s) (h s))
linear_plus n m f h p q = (
  λ s e. plus_length (f s) (h s) (p.0 s e ∙ sym (q.0 s e)) ∙ p.0 s e,
  λ s t e d. ap₂ plus (p.1 s t e d) (q.1 s t e d) ∙ plus_swap (f s) (f t) (h s) (h t),
)

zeros_plus : (k : ℕ) → plus (replicate k false) (replicate k false) ≡ replicate k false
zeros_plus k = plus_zeros (replicate k false) k (length-replicate k false)

unfoldable pub copy : ℕ → ℕ → ℕ → ℕ → List Bool → List Bool
copy from count before after s = replicate before false ++ (take count (drop from s) ++ replicate after false)

pub linear_copy : (n from count before after : ℕ) → from + count ≤ n
    → Linear n (before + (count + after)) (copy from count before after)
unfolding copy
linear_copy n from count before after h = (
  λ s e. length-append (replicate before false) (part s ++ replicate after false)
      ∙ ap₂ ◌+◌ (length-replicate before false)
      (length-append (part s) (replicate after false) ∙ ap₂ ◌+◌ (long s e) (length-replicate after false)),
  λ s t e d. ap (λ (r : List Bool). replicate before false ++ (r ++ replicate after false))
      (ap (take count) (plus_drop from s t) ∙ plus_take count (drop from s) (drop from t))
      ∙ sym
      (plus_append (replicate before false) (replicate before false) (part s ++ replicate after false)
      (part t ++ replicate after false) refl
      ∙ ap₂ ◌++◌ (zeros_plus before)
      (plus_append (part s) (part t) (replicate after false) (replicate after false) (long s e ∙ sym (long t d))
      ∙ ap (λ (z : List Bool). plus (part s) (part t) ++ z) (zeros_plus after))),
)
  where
    part : List Bool → List Bool
    part s = take count (drop from s)

    fits : (l : ℕ) → l ≡ n → from + count ≤ n → count ≤ l - from
    fits l e h = omega arith

    long : (s : List Bool) → length s ≡ n → length (part s) ≡ count
    long s e = length-take-le count (drop from s) (rw length-drop (fits (length s) e h))

-- one copy more
pub linear_and : (n : ℕ) (f : List Bool → List Bool) (from count before after : ℕ) → from + count ≤ n
    → Linear n (before + (count + after)) f
    → Linear n (before + (count + after)) (λ (s : List Bool). plus (f s) (copy from count before after s))
linear_and n f from count before after h p =
    linear_plus n (before + (count + after)) f (copy from count before after) p
    (linear_copy n from count before after h)

unfoldable pub with_parity : Bool → List Bool → List Bool → List Bool
with_parity p g s = plus s (times (xor p (odd_ones s)) g)

-- the parity of the message itself
pub linear_parity : (n : ℕ) (g : List Bool) (f : List Bool → List Bool) → Linear n (length g) f
    → Linear n (length g) (λ (s : List Bool). with_parity (odd_ones s) g (f s))
unfolding with_parity
linear_parity n g f p =
    linear_plus n (length g) f (λ (s : List Bool). times (wrong s) g) p (
      λ s e. times_length (wrong s) g,
      λ s t e d. ap (λ (b : Bool). times b g)
          (ap₂ xor (odd_ones_plus s t (e ∙ sym d))
          (ap odd_ones (p.1 s t e d) ∙ odd_ones_plus (f s) (f t) (p.0 s e ∙ sym (p.0 t d)))
          ∙ xor_swap (odd_ones s) (odd_ones t) (odd_ones (f s)) (odd_ones (f t)))
          ∙ times_plus (wrong s) (wrong t) g,
    )
  where
    wrong : List Bool → Bool
    wrong s = xor (odd_ones s) (odd_ones (f s))

-- ---------------------------------------------------------------- single ones are enough

-- as numbers: compared as lists they are computed again and again
unfoldable pub agree : ℕ → (List Bool → List Bool) → (List Bool → List Bool) → Bool
agree zero f h = true
agree (suc n) f h =
    eqb (number (f (true ∷ replicate n false))) (number (h (true ∷ replicate n false)))
    && agree n (λ (s : List Bool). f (false ∷ s)) (λ (s : List Bool). h (false ∷ s))

number_same : (s t : List Bool) → length s ≡ length t → number s ≡ number t → s ≡ t
number_same s t e h = sym (bits_number s) ∙ ap₂ bits e h ∙ bits_number t

-- the empty message goes to zeros
linear_none : (m : ℕ) (f : List Bool → List Bool) → Linear zero m f → f [] ≡ replicate m false
unfolding plus
linear_none m f p = p.1 [] [] refl refl ∙ doubled (f []) m (p.0 [] refl)
  where
    doubled : (s : List Bool) (m : ℕ) → length s ≡ m → plus s s ≡ replicate m false
    doubled [] zero e = refl
    doubled [] (suc m) e = absurd (omega arith)
    doubled (a ∷ s) zero e = absurd (omega arith)
    doubled (a ∷ s) (suc m) e = ap₂ {B = List Bool} ◌∷◌ (xor_self a) (doubled s m (suc_inj e))

agree_first : (n : ℕ) (f h : List Bool → List Bool) → agree (suc n) f h ≡ true
    → (number (f (true ∷ replicate n false)) ≡ number (h (true ∷ replicate n false)))
    × (agree n (λ (s : List Bool). f (false ∷ s)) (λ (s : List Bool). h (false ∷ s)) ≡ true)
unfolding agree
agree_first n f h a =
    let t =
    (and-eq-true_iff (eqb (number (f (true ∷ replicate n false))) (number (h (true ∷ replicate n false))))
    (agree n (λ (s : List Bool). f (false ∷ s)) (λ (s : List Bool). h (false ∷ s)))).0 a in
    (eqb-true _ _ t.0, t.1)

-- a message that begins with a one is that one and the rest
linear_first : (n m : ℕ) (f h : List Bool → List Bool) → Linear (suc n) m f → Linear (suc n) m h
    → number (f (true ∷ replicate n false)) ≡ number (h (true ∷ replicate n false))
    → (b : Bool) (s : List Bool) → length s ≡ n → f (false ∷ s) ≡ h (false ∷ s) → f (b ∷ s) ≡ h (b ∷ s)
unfolding plus xor
linear_first n m f h p q a false s e r = r
linear_first n m f h p q a true s e r = parts f p ∙ ap₂ plus same r ∙ sym (parts h q)
  where
    one : List Bool
    one = true ∷ replicate n false

    one_length : length one ≡ suc n
    one_length = ap suc (length-replicate n false)

    same : f one ≡ h one
    same = number_same (f one) (h one) (p.0 one one_length ∙ sym (q.0 one one_length)) a

    both : true ∷ s ≡ plus one (false ∷ s)
    both = ap (λ (r : List Bool). true ∷ r) (sym (plus_comm (replicate n false) s ∙ plus_zeros s n e))

    parts : (k : List Bool → List Bool) → Linear (suc n) m k → k (true ∷ s) ≡ plus (k one) (k (false ∷ s))
    parts k r = ap k both ∙ r.1 one (false ∷ s) one_length (ap suc e)

-- a zero comes first
linear_behind : (n m : ℕ) (f : List Bool → List Bool) → Linear (suc n) m f
    → Linear n m (λ (s : List Bool). f (false ∷ s))
unfolding plus xor
linear_behind n m f p =
    (λ s e. p.0 (false ∷ s) (ap suc e), λ s t e d. p.1 (false ∷ s) (false ∷ t) (ap suc e) (ap suc d))

pub linear_same : (n m : ℕ) (f h : List Bool → List Bool) → Linear n m f → Linear n m h → agree n f h ≡ true
    → (s : List Bool) → length s ≡ n → f s ≡ h s
linear_same zero m f h p q a [] e = linear_none m f p ∙ sym (linear_none m h q)
linear_same zero m f h p q a (b ∷ s) e = absurd (omega arith)
linear_same (suc n) m f h p q a [] e = absurd (omega arith)
linear_same (suc n) m f h p q a (b ∷ s) e =
    let t = agree_first n f h a in
    linear_first n m f h p q t.0 b s (suc_inj e)
    (linear_same n m (λ (s : List Bool). f (false ∷ s)) (λ (s : List Bool). h (false ∷ s)) (linear_behind n m f p)
    (linear_behind n m h q) t.1 s (suc_inj e))

pub crc_same : (g : List Bool) (n : ℕ) (f : List Bool → List Bool) → Linear n (length g) f
    → agree n f (crc g) ≡ true → (s : List Bool) → length s ≡ n → f s ≡ crc g s
crc_same g n f p a = linear_same n (length g) f (crc g) p (crc_linear g n) a
