-- A stretch of a number's bits: it is not 0 exactly when one of its bits is 1.
--   Bit v k w       one of the w bits of v from bit k on is 1
--   stretch_row     v / 2 ^ k % 2 ^ w, what stands in these bits, is above 0 exactly then
-- Assumes nothing.
use Prim.Native.Nat.{ℕ, zero, suc, ◌+◌, ◌*◌, ◌/◌, ◌%◌, ◌^◌, ◌<◌, ◌≤◌}
use mathlib.Core.Bool.{Bool, true, false}
use mathlib.Core.Path.{◌≡◌, refl, sym, ap, ◌∙◌}
use native.Mathlib.Nat.{zero-mul, one-mul}
use native.Mathlib.Omega.{arith}
use lib.Dec.{ltb}
use lib.Pow.{pow_pos, mod-pow-add, shr-shr}
use borrow.Author.Tests.{ltb-true, ltb-false}
use Rattle.laws.proofs.Decide.{Decides}

pub record Bit (v k w : ℕ) : Type 0 where
  pub at : ℕ
  pub from : k ≤ at
  pub below : at < k + w
  pub set : v / 2 ^ at % 2 ≡ 1

-- the highest of the bits, and the others
top : (v k w : ℕ) → v / 2 ^ k % 2 ^ suc w ≡ v / 2 ^ (k + w) % 2 * 2 ^ w + v / 2 ^ k % 2 ^ w
top v k w =
    ap (λ (j : ℕ). v / 2 ^ k % 2 ^ j) (omega arith)
    ∙ mod-pow-add (v / 2 ^ k) 1 w
    ∙ ap (λ (n : ℕ). n % 2 * 2 ^ w + v / 2 ^ k % 2 ^ w) (shr-shr v k w)

module _ (v k : ℕ) where
  -- one of the lower bits, or the highest one
  wider : (w x : ℕ) → v / 2 ^ (k + w) % 2 ≡ x → (v / 2 ^ (k + w) % 2 ≡ 0 → Bit v k w) → Bit v k (suc w)
  wider w zero e f =
      let b = f e in
      record { at = b.at; from = b.from; below = omega (arith, b.below); set = b.set }
  wider w (suc zero) e f = record { at = k + w; from = omega arith; below = omega arith; set = e }
  wider w (suc (suc x)) e f = absurd (omega arith)

  holds : (w : ℕ) → 0 < v / 2 ^ k % 2 ^ w → Bit v k w
  holds zero h = absurd (omega arith)
  holds (suc w) h =
      wider w (v / 2 ^ (k + w) % 2) refl
      (λ e. holds w (omega (arith, top v k w, ap (λ (x : ℕ). x * 2 ^ w) e ∙ zero-mul (2 ^ w))))

  -- where the highest bit and the lower ones are 0, none is 1
  none : (w : ℕ) (b : Bit v k (suc w)) (t : Bool) → ltb b.at (k + w) ≡ t → v / 2 ^ (k + w) % 2 * 2 ^ w ≤ 0
      → ¬ Bit v k w → ⊥
  none w b true e h n =
      n (record { at = b.at; from = b.from; below = ltb-true b.at (k + w) e; set = b.set })
  none w b false e h n =
      let same : b.at ≡ k + w = omega (arith, b.below, ltb-false b.at (k + w) e) in
      let one = ap (λ (i : ℕ). v / 2 ^ i % 2 * 2 ^ w) (sym same) ∙ ap (λ (x : ℕ). x * 2 ^ w) b.set ∙ one-mul (2 ^ w) in
      omega (arith, h, one, pow_pos w)

  fails : (w : ℕ) → v / 2 ^ k % 2 ^ w ≤ 0 → ¬ Bit v k w
  fails zero h b = absurd (omega (arith, b.from, b.below))
  fails (suc w) h b =
      none w b (ltb b.at (k + w)) refl (omega (arith, top v k w)) (fails w (omega (arith, top v k w)))

pub stretch_row : (v k w : ℕ) → Decides (ltb 0 (v / 2 ^ k % 2 ^ w)) (Bit v k w)
stretch_row v k w = record {
  holds = λ t. holds v k w (ltb-true 0 (v / 2 ^ k % 2 ^ w) t);
  fails = λ t. fails v k w (ltb-false 0 (v / 2 ^ k % 2 ^ w) t);
}
