-- Limits on lists of numbers.
--   above b l   some number of l is above b
-- Assumes nothing.
use Rattle.std.specs.Prelude.{ℕ, Bool, true, false, ◌||◌, List, [], ◌∷◌, ◌≡◌, refl, ltb}

unfoldable pub above : ℕ → List ℕ → Bool
above b [] = false
above b (x ∷ l) = ltb b x || above b l

-- the last of three is above 7, and none is above 8
last_above : above 7 (0 ∷ 7 ∷ 8 ∷ []) ≡ true
unfolding above
last_above = refl

none_above : above 8 (0 ∷ 7 ∷ 8 ∷ []) ≡ false
unfolding above
none_above = refl
