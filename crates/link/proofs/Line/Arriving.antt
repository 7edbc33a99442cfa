-- What arrives of a line: the symbol of the cell of d slots ago, and nothing where there is none.
--   arriving_some   the symbol, as the harm leaves it
--   arriving_none   nothing
-- Assumes nothing.
use Prim.Native.Nat.{ℕ, zero, suc, ◌≤◌, ◌<◌}
use mathlib.Core.List.{List, [], ◌∷◌, map}
use mathlib.Core.Path.{◌≡◌, refl, ap, ◌∙◌}
use native.Mathlib.Omega.{arith}
use lib.ListN.{length, take}
use lib.Seq.{drop-nil}
use Rattle.link.specs.Link.{Harm, harmed, arriving}
use Rattle.link.proofs.Line.{Cell, cell_at, symbol_in, SenderOk}

cells_some : (h : Harm) (cs : List Cell) (d : ℕ) → d < length cs
    → arriving d h (map symbol_in cs) ≡ harmed h (symbol_in (cell_at cs d)) ∷ []
cells_some h [] d l = absurd (omega arith)
cells_some h (c ∷ cs) zero l = refl
cells_some h (c ∷ cs) (suc d) l = cells_some h cs d (omega arith)

cells_none : (h : Harm) (cs : List Cell) (d : ℕ) → length cs ≤ d → arriving d h (map symbol_in cs) ≡ []
cells_none h [] d l = ap (λ (s : List ℕ). map (harmed h) (take 1 s)) (drop-nil d)
cells_none h (c ∷ cs) zero l = absurd (omega arith)
cells_none h (c ∷ cs) (suc d) l = cells_none h cs d (omega arith)

module _ {p : ℕ} {l sent : List ℕ} {cs : List Cell} (s : SenderOk p l sent cs) where
  pub arriving_some : (h : Harm) (d : ℕ) → d < length cs
      → arriving d h sent ≡ harmed h (symbol_in (cell_at cs d)) ∷ []
  arriving_some h d t = ap (λ (l : List ℕ). arriving d h l) s.symbols ∙ cells_some h cs d t

  pub arriving_none : (h : Harm) (d : ℕ) → length cs ≤ d → arriving d h sent ≡ []
  arriving_none h d t = ap (λ (l : List ℕ). arriving d h l) s.symbols ∙ cells_none h cs d t
