-- A message: its number, 0 to 15, and its eight bytes.
--   Message     what a host sends and takes
-- Assumes nothing.
use Rattle.std.specs.Prelude.{ℕ, List}

pub record Message : Type 0 where
  pub number : ℕ
  pub bytes : List ℕ
