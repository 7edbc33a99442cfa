-- Wrong bits: how far two frames are apart.
--   wire l         the nine bits of each symbol of l, joined: 108 bits for twelve symbols
--   distance s t   the number of places where s and t differ
-- Assumes nothing.
use Rattle.std.specs.Prelude.{ℕ, ◌+◌, Bool, cond, List, [], ◌∷◌, ◌++◌}
use Rattle.std.proofs.Math.Bool.{xor}
use Rattle.crc.specs.Bits.{bits}

unfoldable pub wire : List ℕ → List Bool
wire [] = []
wire (s ∷ l) = bits 9 s ++ wire l

unfoldable pub distance : List Bool → List Bool → ℕ
unfolding xor
distance [] t = 0
distance (a ∷ s) [] = 0
distance (a ∷ s) (b ∷ t) = cond (xor a b) 1 0 + distance s t
