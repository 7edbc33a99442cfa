-- Output, before and after something was put behind it.
--   written o     the bytes that are written
--   Told u v      v is u, and behind it what is wrong with a line: a question mark, a space, a reason of at most 24
--                 bytes and a newline
--   Kept o n      n goes to the same bytes of the caller's as o, and there are as many of them
-- Assumes nothing.
use Rattle.std.specs.Prelude.{List, [], ◌∷◌, ◌++◌, ℕ, ◌≡◌, ◌≤◌, length, take, codes}
use Rattle.text.specs.declared.output.Output.{Output}

abbrev pub written : Output → List ℕ
written o = take o.at o.bytes.now

abbrev pub Kept : Output → Output → Type 0
Kept o n = (n.bytes.ghost_name ≡ o.bytes.ghost_name) × (length n.bytes.now ≡ length o.bytes.now)

abbrev pub Told : List ℕ → List ℕ → Type 0
Told u v = (reason : List ℕ) × (length reason ≤ 24) × (v ≡ ((u ++ codes "? ") ++ reason) ++ (10 ∷ []))
