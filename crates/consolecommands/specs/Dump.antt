-- What dump prints of the fields of an end.
--   commas vs           the numbers vs in hex without leading zeros, a comma before each but the first
--   Elements P n l      l is what is printed of n elements: numbers each of which P allows at its place, and their commas
--   Dump c n P fs l     l is what is printed of the fields fs: for each its name `c`, an equals sign and its elements, of
--                       which it has as many as `n` says; behind each a space, and behind the last a newline
--   dump_room c n fs    the most bytes that this takes: for each field its name, two bytes more, and five for each element
-- Assumes nothing.
use Rattle.std.specs.Prelude.{ℕ, ◌+◌, ◌*◌, ◌<◌, List, [], ◌∷◌, ◌++◌, ◌≡◌, eqb, length, get_or}
use Rattle.std.specs.List.{flat_map}
use Rattle.text.specs.Printed.{closing_of, short_of}

unfoldable pub commas : List ℕ → List ℕ
commas [] = []
commas (v ∷ vs) = short_of 16 4 v ++ flat_map (λ w. 44 ∷ short_of 16 4 w) vs

pub record Elements (allowed : ℕ → ℕ → Type 0) (n : ℕ) (text : List ℕ) : Type 0 where
  pub values : List ℕ
  pub count : length values ≡ n
  pub each : (i : ℕ) → i < n → allowed i (get_or values i 0)
  pub printed : text ≡ commas values

unfoldable pub Dump : {F : Type 0} → (F → List ℕ) → (F → ℕ) → (F → ℕ → ℕ → Type 0) → List F → List ℕ → Type 0
Dump name elements allowed [] text = text ≡ []
Dump name elements allowed (f ∷ fs) text =
    (l : List ℕ)
    × (m : List ℕ)
    × Elements (allowed f) (elements f) l
    × Dump name elements allowed fs m
    × (text ≡ name f ++ ((61 ∷ l) ++ (closing_of (eqb (length fs) 0) ∷ m)))

unfoldable pub dump_room : {F : Type 0} → (F → List ℕ) → (F → ℕ) → List F → ℕ
dump_room name elements [] = 0
dump_room name elements (f ∷ fs) = length (name f) + 2 + 5 * elements f + dump_room name elements fs
