-- The message bytes that stand in the transmit registers are those that the host wrote last.
--   bytes_set      of several values one changes, and so do its two bytes
--   Stored         w are the last values written to 3.2309 to 3.2312, b the message bytes
--   stored_set     one of them is written anew
-- Assumes nothing.
use Prim.Native.Nat.{ℕ, zero, suc, ◌+◌, ◌*◌, ◌/◌, ◌%◌, ◌<◌}
use mathlib.Core.List.{List, [], ◌∷◌}
use mathlib.Core.Path.{◌≡◌, refl, sym, ap, ◌∙◌}
use native.Mathlib.Omega.{arith}
use lib.ListN.{length, set, length-set}
use Rattle.link.specs.Link.{bytes_of}

-- the value v takes the place of the i-th
abbrev with_pair : List ℕ → ℕ → ℕ → List ℕ
with_pair l i v = set (set l (2 * i) (v % 256)) (2 * i + 1) (v / 256)

two_on : (x y : ℕ) (l : List ℕ) (i v : ℕ) → with_pair (x ∷ y ∷ l) (suc i) v ≡ x ∷ y ∷ with_pair l i v
two_on x y l i v =
    λ j. set (set (x ∷ y ∷ l) (even j) (v % 256)) (odd j) (v / 256)
  where
    even : 2 * suc i ≡ suc (suc (2 * i))
    even = omega arith

    odd : 2 * suc i + 1 ≡ suc (suc (2 * i + 1))
    odd = omega arith

pub bytes_set : (w : List ℕ) (i v : ℕ) → i < length w → bytes_of (set w i v) ≡ with_pair (bytes_of w) i v
unfolding bytes_of
bytes_set [] i v h = absurd (omega arith)
bytes_set (x ∷ w) zero v h = refl
bytes_set (x ∷ w) (suc i) v h =
    ap (λ (l : List ℕ). x % 256 ∷ x / 256 ∷ l) (bytes_set w i v (omega arith))
    ∙ sym (two_on (x % 256) (x / 256) (bytes_of w) i v)

pub record Stored (w b : List ℕ) : Type 0 where
  pub four : length w ≡ 4
  pub are : bytes_of w ≡ b

pub stored_set : {w b : List ℕ} → Stored w b → (i v : ℕ) → i < 4 → Stored (set w i v) (with_pair b i v)
stored_set {w} {b} s i v h = record {
  four = length-set w i v ∙ s.four;
  are = bytes_set w i v (omega (arith, s.four)) ∙ ap (λ (l : List ℕ). with_pair l i v) s.are;
}
