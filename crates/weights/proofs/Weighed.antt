-- Bits of a value.
--   bit_num     a bit of weight w is w or 0
--   odd_is      a bit is read where it stands lowest
-- Assumes nothing.
use Prim.Native.Nat.{ℕ, ◌*◌, ◌%◌}
use mathlib.Core.Bool.{Bool, true, false}
use mathlib.Core.Path.{◌≡◌}
use native.Mathlib.Omega.{arith}
use borrow.Author.Tests.{eq-eqb, ne_eqb}
use Rattle.crc.specs.Bits.{odd}
use Rattle.weights.specs.Weights.{bit}

pub bit_num : (b : Bool) (w : ℕ) → bit b w ≡ w * bit b 1
bit_num true w = omega arith
bit_num false w = omega arith

pub odd_is : (b : Bool) (n : ℕ) → n % 2 ≡ bit b 1 → odd n ≡ b
unfolding odd
odd_is true n e = eq-eqb (n % 2) 1 e
odd_is false n e = ne_eqb (n % 2) 1 (λ z. omega arith)
