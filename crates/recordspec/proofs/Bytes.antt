-- Laws of lists of bytes on which the proofs of the leaves stand.
--   exceeds_next     the search for a byte above its limit, a byte at a time; exceeds_ended, at its end
--   exceeds_parts, exceeds_cut   the same of a list in two parts, and with more limits than bytes
--   pairs_all        numbers that are each made of their two bytes; twos_all, the bytes of numbers, two by two
-- Assumes nothing.
use Prim.Native.Nat.{ℕ, zero, suc, ◌+◌, ◌*◌, ◌<◌, ◌≤◌}
use mathlib.Core.Bool.{Bool, true, false, ◌||◌}
use mathlib.Core.List.{List, [], ◌∷◌, ◌++◌}
use mathlib.Core.Logic.{◌⊎◌, inl, inr}
use mathlib.Core.Path.{◌≡◌, refl, ap, ap₂, ◌∙◌}
use native.Mathlib.Nat.{le_of_suc-le-suc}
use native.Mathlib.Omega.{arith}
use lib.Dec.{ltb}
use lib.ListN.{length, get_or, take, drop}
use Rattle.std.specs.List.{flat_map}
use Rattle.recordspec.specs.Record.{exceeds, two, twos, pairs}
use Rattle.laws.proofs.Bools.{or_assoc}

-- The search

pub exceeds_next : (f : Bool) (x y : ℕ) (l m : List ℕ)
    → ((f || ltb y x) || exceeds l m) ≡ (f || exceeds (x ∷ l) (y ∷ m))
unfolding exceeds
exceeds_next f x y l m = or_assoc f (ltb y x) (exceeds l m)

pub exceeds_ended : (f : Bool) (l m : List ℕ) → (l ≡ []) ⊎ (m ≡ []) → f ≡ (f || exceeds l m)
unfolding exceeds
exceeds_ended true l m h = refl
exceeds_ended false [] m h = refl
exceeds_ended false (x ∷ l) [] h = refl
exceeds_ended false (x ∷ l) (y ∷ m) (inl h) = cc
exceeds_ended false (x ∷ l) (y ∷ m) (inr h) = cc

-- of a list in two parts, each by its own limits
pub exceeds_parts : (a b m : List ℕ)
    → (exceeds a (take (length a) m) || exceeds b (drop (length a) m)) ≡ exceeds (a ++ b) m
unfolding exceeds
exceeds_parts [] b m = refl
exceeds_parts (x ∷ a) [] [] = refl
exceeds_parts (x ∷ a) (y ∷ b) [] = refl
exceeds_parts (x ∷ a) b (y ∷ m) =
    or_assoc (ltb y x) (exceeds a (take (length a) m)) (exceeds b (drop (length a) m))
    ∙ ap (λ (t : Bool). ltb y x || t) (exceeds_parts a b m)

-- limits beyond the list make no difference
pub exceeds_cut : (l m : List ℕ) (k : ℕ) → length l ≤ k → exceeds l (take k m) ≡ exceeds l m
unfolding exceeds
exceeds_cut [] m k h = refl
exceeds_cut (x ∷ l) m zero h = absurd (omega arith)
exceeds_cut (x ∷ l) [] (suc k) h = refl
exceeds_cut (x ∷ l) (y ∷ m) (suc k) h = ap (λ (t : Bool). ltb y x || t) (exceeds_cut l m k (le_of_suc-le-suc h))

-- Numbers of two bytes

pub pairs_all : (d l : List ℕ) → length l ≡ 2 * length d
    → ((i : ℕ) → i < length d → get_or d i 0 ≡ 256 * get_or l (2 * i) 0 + get_or l (2 * i + 1) 0) → d ≡ pairs l
pairs_all [] [] e f = refl
pairs_all [] (h ∷ l) e f = absurd (omega arith)
pairs_all (x ∷ d) [] e f = absurd (omega arith)
pairs_all (x ∷ d) (h ∷ []) e f = absurd (omega arith)
pairs_all (x ∷ d) (h ∷ v ∷ l) e f =
    ap₂ (λ (y : ℕ) (t : List ℕ). y ∷ t) (f 0 (omega arith))
    (pairs_all d l (omega arith) (λ i k.
    let first : 2 * suc i ≡ suc (suc (2 * i)) = omega arith in
    let second : 2 * suc i + 1 ≡ suc (suc (2 * i + 1)) = omega arith in
    f (suc i) (omega arith)
    ∙ ap₂ (λ (y z : ℕ). 256 * get_or (h ∷ v ∷ l) y 0 + get_or (h ∷ v ∷ l) z 0) first second))

pub twos_all : (b : List (List ℕ)) (l : List ℕ) → length b ≡ length l
    → ((i : ℕ) → i < length l → get_or b i [] ≡ two (get_or l i 0)) → flat_map (λ x. x) b ≡ twos l
twos_all [] [] e f = refl
twos_all [] (n ∷ l) e f = absurd (omega arith)
twos_all (x ∷ b) [] e f = absurd (omega arith)
twos_all (x ∷ b) (n ∷ l) e f =
    ap₂ (λ (s t : List ℕ). s ++ t) (f 0 (omega arith)) (twos_all b l (omega arith) (λ i k. f (suc i) (omega arith)))
