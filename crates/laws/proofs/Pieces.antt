-- Pieces of lists of numbers, one behind the other.
--   known                a part whose bytes and length are known
--   chained, behind      a part behind a part
--   whole                all of a list; rest, from a place to the end; ended, nothing from the end on
--   one                  an element, and what stands behind it
--   zeros k              k zeros; zeros_cut, so many of more; zero_at, each is 0; zero_behind, behind a list too
--   same_split           two lists that are the same, cut at the same place
--   take_past            the beginning of a list behind another
--   spell, spelled       a list of a known length, element by element
-- Assumes nothing.
use Prim.Native.Nat.{ℕ, zero, suc, ◌+◌, ◌-◌, ◌<◌, ◌≤◌}
use mathlib.Core.List.{List, [], ◌∷◌, ◌++◌, append_assoc}
use mathlib.Core.Path.{◌≡◌, refl, sym, ap, ◌∙◌}
use native.Mathlib.Nat.{le_of_suc-le-suc, le_of_eq}
use native.Mathlib.Omega.{arith}
use lib.ListN.{length, get_or, take, drop, replicate, length-drop, drop_of_length-le}
use lib.Seq.{take_all, take-append_seam, drop_at}

pub known : (at n : ℕ) (x y b p : List ℕ) → length b ≡ n → b ≡ p → take (at + length b) x ≡ y ++ b
    → take (at + n) x ≡ y ++ p
known at n x y b p l e h = ap (λ (k : ℕ). take (at + k) x) (sym l) ∙ (h ∙ ap (λ (t : List ℕ). y ++ t) e)

pub chained : (x y p a b : List ℕ) → x ≡ p ++ a → y ≡ x ++ b → y ≡ p ++ (a ++ b)
chained x y p a b e f = f ∙ (ap (λ (t : List ℕ). t ++ b) e ∙ append_assoc p a b)

pub behind : {x y z : List ℕ} (a : List ℕ) → x ≡ y → z ≡ x ++ a → z ≡ y ++ a
behind a e f = f ∙ ap (λ (t : List ℕ). t ++ a) e

pub whole : (n : ℕ) (a : List ℕ) → length a ≡ n → take n a ≡ a
whole n a h = take_all n a (le_of_eq h)

pub rest : (k : ℕ) (l : List ℕ) → take (length l - k) (drop k l) ≡ drop k l
rest k l = take_all _ _ (le_of_eq (length-drop k l))

pub ended : (n : ℕ) (r : List ℕ) → length r ≡ n → drop n r ≡ []
ended n r h = drop_of_length-le r {i = n} (rw h (omega arith))

pub one : (r : List ℕ) (i : ℕ) → i < length r → get_or r i 0 ∷ drop (suc i) r ≡ drop i r
one [] i h = absurd (omega arith)
one (x ∷ r) zero h = refl
one (x ∷ r) (suc i) h = one r i (le_of_suc-le-suc h)

pub same_split : (a b c d : List ℕ) → length a ≡ length b → a ++ c ≡ b ++ d → (a ≡ b) × (c ≡ d)
same_split a b c d l e = (
  sym (take-append_seam a c) ∙ (ap (take (length a)) e ∙ (ap (λ (k : ℕ). take k (b ++ d)) l ∙ take-append_seam b d)),
  sym (drop_at a c (length a) refl) ∙ (ap (drop (length a)) e ∙ drop_at b d (length a) (sym l)),
)

pub take_past : (a b : List ℕ) (n j : ℕ) → n ≡ length a + j → take n (a ++ b) ≡ a ++ take j b
take_past [] b n j h = let same : n ≡ j = omega arith in ap (λ (k : ℕ). take k b) same
take_past (x ∷ a) b zero j h = absurd (omega arith)
take_past (x ∷ a) b (suc n) j h = ap (λ (t : List ℕ). x ∷ t) (take_past a b n j (omega arith))

-- Zeros

abbrev pub zeros : ℕ → List ℕ
zeros k = replicate k 0

pub zeros_cut : (k n : ℕ) → k ≤ n → take k (replicate n 0) ≡ replicate {A = ℕ} k 0
zeros_cut zero n h = refl
zeros_cut (suc k) zero h = absurd (omega arith)
zeros_cut (suc k) (suc n) h = ap (λ (t : List ℕ). 0 ∷ t) (zeros_cut k n (omega arith))

zero_at : (k i : ℕ) → get_or {A = ℕ} (zeros k) i 0 ≡ 0
zero_at zero i = refl
zero_at (suc k) zero = refl
zero_at (suc k) (suc i) = zero_at k i

pub zero_behind : (l : List ℕ) (k i : ℕ) → length l ≤ i → get_or (l ++ zeros k) i 0 ≡ 0
zero_behind [] k i h = zero_at k i
zero_behind (x ∷ l) k zero h = absurd (omega arith)
zero_behind (x ∷ l) k (suc i) h = zero_behind l k i (omega arith)

-- A list of a known length

abbrev pub spell : ℕ → (ℕ → ℕ) → List ℕ
spell zero f = []
spell (suc n) f = f 0 ∷ spell n (λ i. f (suc i))

abbrev pub Spelled : ℕ → List ℕ → Type 0
Spelled n l = l ≡ spell n (λ i. get_or l i 0)

pub spelled : (n : ℕ) (l : List ℕ) → length l ≡ n → Spelled n l
spelled zero [] h = refl
spelled zero (x ∷ l) h = absurd (omega arith)
spelled (suc n) [] h = absurd (omega arith)
spelled (suc n) (x ∷ l) h = ap (λ (t : List ℕ). x ∷ t) (spelled n l (omega arith))
