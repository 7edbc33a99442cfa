-- A bit of a register's value or of a symbol, and the bytes of a register's value.
--   bit b w     w where b is set, else 0: a bit of weight w
--   halves v    the two bytes of a register's value, 7:0 first
-- Assumes nothing.
use Rattle.std.specs.Prelude.{ℕ, ◌/◌, ◌%◌, Bool, cond, List, [], ◌∷◌}

abbrev pub bit : Bool → ℕ → ℕ
bit b w = cond b w 0

abbrev pub halves : ℕ → List ℕ
halves v = v % 256 ∷ v / 256 ∷ []
