-- The CRC, over any width and generator. A register is a list of bits, the highest first (S15 .. S0 for sixteen bits);
-- the generator is a list as long, the coefficient below the leading one first, so its length is the width.
--   plus a b     bit by bit, the sum without carries (exclusive or)
--   times b g    g where b is 1, zeros where it is 0
--   shift g r b  the register after one more bit b: S(top) and b fed back where the generator has a one
--   run g r bs   the register r after the bits bs, the first one first
--   crc g bs     the same from a register of zeros
-- Assumes nothing.
use Rattle.std.specs.Prelude.{Bool, false, ◌&&◌, List, [], ◌∷◌, ◌++◌, map}
use Rattle.std.proofs.Math.Bool.{xor}

unfoldable pub plus : List Bool → List Bool → List Bool
unfolding xor
plus [] t = []
plus (a ∷ s) [] = []
plus (a ∷ s) (b ∷ t) = xor a b ∷ plus s t

unfoldable pub times : Bool → List Bool → List Bool
times b g = map (λ (a : Bool). b && a) g

unfoldable pub shift : List Bool → List Bool → Bool → List Bool
unfolding plus times xor
shift g [] b = []
shift g (s ∷ r) b = plus (r ++ (false ∷ [])) (times (xor s b) g)

unfoldable pub run : List Bool → List Bool → List Bool → List Bool
unfolding shift
run g r [] = r
run g r (b ∷ bs) = run g (shift g r b) bs

unfoldable pub crc : List Bool → List Bool → List Bool
unfolding times run
crc g bs = run g (times false g) bs
