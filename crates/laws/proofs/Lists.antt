-- Lists that a loop fills, one store a turn, and short lists.
--   fill_copy, fill_copy_end   the first i elements and what is to come, the elements left of l, are the whole
--   eight           a list of eight, listed
--   below_four, below_eight   a fact of each number below four, below eight
-- Assumes nothing.
use Prim.Native.Nat.{ℕ, zero, suc, ◌+◌, ◌≤◌, ◌<◌}
use native.Mathlib.Numerals.{add-one}
use native.Mathlib.Omega.{arith}
use mathlib.Core.List.{List, [], ◌∷◌, ◌++◌, append_assoc, append-nil}
use mathlib.Core.Path.{◌≡◌, refl, ap, ap₂, sym, ◌∙◌}
use lib.ListN.{length, take, drop, set, get_or, drop_of_length-le}
use lib.Seq.{drop-cons, take-suc-set, take_all}

-- What is there and what is to come

fill : (r d w : List ℕ) (i x : ℕ) → i < length r → take i r ++ (x ∷ d) ≡ w → take (i + 1) (set r i x) ++ d ≡ w
fill r d w i x h e =
    ap (λ (s : List ℕ). s ++ d) (ap (λ (k : ℕ). take k (set r i x)) (add-one i) ∙ take-suc-set r i x h)
    ∙ append_assoc (take i r) (x ∷ []) d
    ∙ e

-- what is to come is l itself
pub fill_copy : (l r w : List ℕ) (i : ℕ) → i < length l → i < length r
    → take i r ++ drop i l ≡ w → take (i + 1) (set r i (get_or l i 0)) ++ drop (i + 1) l ≡ w
fill_copy l r w i h k e =
    fill r (drop (i + 1) l) w i (get_or l i 0) k
    (ap (λ (s : List ℕ). take i r ++ s)
    (ap (λ (j : ℕ). get_or l i 0 ∷ drop j l) (add-one i) ∙ sym (drop-cons l i 0 h))
    ∙ e)

pub fill_copy_end : (l r w : List ℕ) (i : ℕ) → length l ≤ i → length r ≤ i → take i r ++ drop i l ≡ w → r ≡ w
fill_copy_end l r w i h k e =
    sym (ap₂ (λ (s t : List ℕ). s ++ t) (take_all i r k) (drop_of_length-le l h) ∙ append-nil r) ∙ e

-- Short lists

pub eight : (l : List ℕ) → length l ≡ 8 →
    get_or l 0 0 ∷ get_or l 1 0 ∷ get_or l 2 0 ∷ get_or l 3 0 ∷ get_or l 4 0 ∷ get_or l 5 0 ∷ get_or l 6 0 ∷ get_or l 7 0 ∷ [] ≡ l
eight [] h = absurd (omega arith)
eight (a ∷ []) h = absurd (omega arith)
eight (a ∷ b ∷ []) h = absurd (omega arith)
eight (a ∷ b ∷ c ∷ []) h = absurd (omega arith)
eight (a ∷ b ∷ c ∷ d ∷ []) h = absurd (omega arith)
eight (a ∷ b ∷ c ∷ d ∷ e ∷ []) h = absurd (omega arith)
eight (a ∷ b ∷ c ∷ d ∷ e ∷ f ∷ []) h = absurd (omega arith)
eight (a ∷ b ∷ c ∷ d ∷ e ∷ f ∷ g ∷ []) h = absurd (omega arith)
eight (a ∷ b ∷ c ∷ d ∷ e ∷ f ∷ g ∷ i ∷ []) h = refl
eight (a ∷ b ∷ c ∷ d ∷ e ∷ f ∷ g ∷ i ∷ j ∷ l) h = absurd (omega arith)

pub below_four : (P : ℕ → Type 0) → P 0 → P 1 → P 2 → P 3 → (i : ℕ) → i < 4 → P i
below_four P a b c d zero h = a
below_four P a b c d (suc zero) h = b
below_four P a b c d (suc (suc zero)) h = c
below_four P a b c d (suc (suc (suc zero))) h = d
below_four P a b c d (suc (suc (suc (suc i)))) h = absurd (omega arith)

pub below_eight : (P : ℕ → Type 0) → P 0 → P 1 → P 2 → P 3 → P 4 → P 5 → P 6 → P 7 → (i : ℕ) → i < 8 → P i
below_eight P a b c d e f g h zero l = a
below_eight P a b c d e f g h (suc zero) l = b
below_eight P a b c d e f g h (suc (suc zero)) l = c
below_eight P a b c d e f g h (suc (suc (suc zero))) l = d
below_eight P a b c d e f g h (suc (suc (suc (suc i)))) l =
    below_four (λ (j : ℕ). P (suc (suc (suc (suc j))))) e f g h i (omega arith)
