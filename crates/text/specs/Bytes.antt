-- Places and parts of a text.
--   index_of b l    the first place of the byte b in the list l; as many as it has where b is none of them
--   slice a e l     the part of the list l from the place a up to e, which is no part of it
-- Assumes nothing.
use Rattle.std.specs.Prelude.{ℕ, suc, cond, List, [], ◌∷◌, eqb, take, drop}

unfoldable pub index_of : ℕ → List ℕ → ℕ
index_of b [] = 0
index_of b (x ∷ l) = cond (eqb x b) 0 (suc (index_of b l))

unfoldable pub slice : ℕ → ℕ → List ℕ → List ℕ
slice a e l = drop a (take e l)
