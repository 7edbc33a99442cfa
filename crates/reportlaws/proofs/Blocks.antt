-- Blocks, byte by byte.
--   zeros_are       the fresh block has 128 zero bytes; zeros_one, and is the only one that has
--   filled_is       a part block with one message more; filled_one, and no other block is that
-- Assumes nothing.
use Prim.Native.Nat.{ℕ, ◌+◌, ◌-◌, ◌*◌, ◌<◌, ◌≤◌}
use mathlib.Core.Bool.{Bool, true, false}
use mathlib.Core.List.{List, [], ◌++◌}
use mathlib.Core.Logic.{inl, inr, ⊎_elim}
use mathlib.Core.Path.{◌≡◌, refl, sym, ap, ◌∙◌}
use native.Mathlib.Omega.{arith}
use lib.Dec.{ltb}
use lib.ListN.{length, get_or, take, drop, length-append, length-drop, get_or-append}
use lib.Seq.{length-take-le, get_or-append-add, get_or-take, get_or-drop, ext_get_or}
use borrow.Author.Tests.{ltb-true, ltb-false}
use Rattle.laws.proofs.Pieces.{zero_behind}
use Rattle.report.specs.Taking.{zeros, filled_of}
use Rattle.reportlaws.specs.Does.{Zeros, Filled}

pub zeros_are : Zeros zeros
zeros_are = (refl, λ i. zero_behind [] 128 i (omega arith))

pub zeros_one : (l m : List ℕ) → Zeros l → Zeros m → l ≡ m
zeros_one l m (a, x) (b, y) = ext_get_or 0 l m (a ∙ sym b) (λ i _. x i ∙ sym (y i))

-- a message between what stands before it and what stands behind it
module _ (b : List ℕ) (n : ℕ) (m : List ℕ) (s : length b ≡ 128) (h : n < 16) (k : length m ≡ 8) where
  front : length (take (8 * n) b) ≡ 8 * n
  front = length-take-le (8 * n) b (omega arith)

  size : length (filled_of b n m) ≡ 128
  size = simp (length-append, front, length-drop) (omega arith)

  -- behind the front
  rest : (j : ℕ) → get_or (filled_of b n m) (8 * n + j) 0 ≡ get_or (m ++ drop (8 * n + 8) b) j 0
  rest j =
      ap (λ (p : ℕ). get_or (filled_of b n m) (p + j) 0) (sym front)
      ∙ get_or-append-add (take (8 * n) b) (m ++ drop (8 * n + 8) b) j 0

  before : (i : ℕ) → i < 8 * n → get_or (filled_of b n m) i 0 ≡ get_or b i 0
  before i l =
      get_or-append (take (8 * n) b) (m ++ drop (8 * n + 8) b) 0 i (omega (arith, front)) ∙ get_or-take (8 * n) b i 0 l

  behind : (i : ℕ) → 8 * n + 8 ≤ i → get_or (filled_of b n m) i 0 ≡ get_or b i 0
  behind i l =
      let j : ℕ = i - (8 * n + 8) in
      let q : i ≡ 8 * n + (8 + j) = omega arith in
      let r : 8 * n + 8 + j ≡ i = omega arith in
      ap (λ (x : ℕ). get_or (filled_of b n m) x 0) q
      ∙ (rest (8 + j)
      ∙ (ap (λ (x : ℕ). get_or (m ++ drop (8 * n + 8) b) (x + j) 0) (sym k)
      ∙ (get_or-append-add m (drop (8 * n + 8) b) j 0
      ∙ (get_or-drop (8 * n + 8) b j 0 ∙ ap (λ (x : ℕ). get_or b x 0) r))))

  pub filled_is : Filled (λ i. get_or b i 0) n m (filled_of b n m)
  filled_is = record {
    size = size;
    new = λ j l. rest j ∙ get_or-append m (drop (8 * n + 8) b) 0 j (omega arith);
    others = λ i. ⊎_elim (λ l. before i (omega arith)) (λ l. behind i (omega arith));
  }

pub filled_one : {old : ℕ → ℕ} {n : ℕ} {m : List ℕ} (l k : List ℕ) → Filled old n m l → Filled old n m k → l ≡ k
filled_one {old} {n} l k x y =
    ext_get_or 0 l k (x.size ∙ sym y.size) (λ i _. go i (ltb i (8 * n)) (ltb i (8 * n + 8)) refl refl)
  where
    go : (i : ℕ) (a b : Bool) → ltb i (8 * n) ≡ a → ltb i (8 * n + 8) ≡ b → get_or l i 0 ≡ get_or k i 0
    go i true b p q = let o = inl (ltb-true _ _ p) in x.others i o ∙ sym (y.others i o)
    go i false false p q = let o = inr (ltb-false _ _ q) in x.others i o ∙ sym (y.others i o)
    go i false true p q =
        let j : ℕ = i - 8 * n in
        let r : j < 8 = omega (arith, ltb-true i (8 * n + 8) q, ltb-false i (8 * n) p) in
        let at : i ≡ 8 * n + j = omega (arith, ltb-false i (8 * n) p) in
        rw at (x.new j r ∙ sym (y.new j r))
