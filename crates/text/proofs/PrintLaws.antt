-- What the proofs cite of digits that are printed. A prefix p stands in the output already.
--   hex_put               the last digit of hex_of is put, behind p and the others
--   short_one, short_put   the same of short_of, and a value of one digit
-- Assumes nothing.
use Prim.Native.Nat.{ℕ, zero, suc, ◌-◌, ◌/◌, ◌%◌, ◌≤◌, ◌<◌}
use mathlib.Core.List.{List, [], ◌∷◌, ◌++◌}
use mathlib.Core.Path.{◌≡◌, refl, ap, ◌∙◌}
use native.Mathlib.Numerals.{sub-one}
use native.Mathlib.Omega.{arith}
use borrow.Author.Tests.{lt-ltb, le-ltb}
use Rattle.laws.proofs.Pieces.{chained}
use Rattle.text.specs.Printed.{glyph_of, hex_of, short_of}

digit_put : (p q : List ℕ) (h : ℕ) {x a : List ℕ} {g : ℕ} → a ≡ p ++ q → g ≡ h → x ≡ a ++ (g ∷ [])
    → x ≡ p ++ (q ++ (h ∷ []))
digit_put p q h {a = a} e f k = chained _ _ p q (h ∷ []) e (k ∙ ap (λ (d : ℕ). a ++ (d ∷ [])) f)

pub hex_put : (p : List ℕ) (n v : ℕ) {x a : List ℕ} {g : ℕ} → 0 < n → a ≡ p ++ hex_of (n - 1) (v / 16)
    → g ≡ glyph_of (v % 16) → x ≡ a ++ (g ∷ []) → x ≡ p ++ hex_of n v
hex_put p zero v h e f k = absurd (omega arith)
hex_put p (suc n) v h e f k = digit_put p (hex_of n (v / 16)) (glyph_of (v % 16)) (rw sub-one at e) f k

pub short_one : (p : List ℕ) (b n v : ℕ) {x : List ℕ} {g : ℕ} → (n ≡ 0 → ⊥) → v < b → g ≡ glyph_of v
    → x ≡ p ++ (g ∷ []) → x ≡ p ++ short_of b n v
short_one p b zero v h l f k = absurd (h refl)
short_one p b (suc n) v h l f k = rw (lt-ltb v b l) (cc)

pub short_put : (p : List ℕ) (b n v : ℕ) {x a : List ℕ} {g : ℕ} → (n ≡ 0 → ⊥) → b ≤ v
    → a ≡ p ++ short_of b (n - 1) (v / b) → g ≡ glyph_of (v % b) → x ≡ a ++ (g ∷ []) → x ≡ p ++ short_of b n v
short_put p b zero v h l e f k = absurd (h refl)
short_put p b (suc n) v h l e f k =
    rw (le-ltb v b l) (digit_put p (short_of b n (v / b)) (glyph_of (v % b)) (rw sub-one at e) f k)
