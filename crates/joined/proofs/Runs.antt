-- Runs one behind the other.
--   run_append     a run of two lists of events is a run of the second after a run of the first
--   every_append   each event of both passes a test, where those of the first do, and those of the second do after them
-- Assumes nothing.
use mathlib.Core.Bool.{Bool, true}
use mathlib.Core.List.{List, [], ◌∷◌, ◌++◌}
use mathlib.Core.Path.{◌≡◌, refl}
use Rattle.laws.proofs.Bools.{and_both, and-true}
use Rattle.joined.specs.Joined.{run_by, every}

module _ {X W : Type 0} (next : X → W → W) where
  pub run_append : (es fs : List X) (w : W) → run_by next (es ++ fs) w ≡ run_by next fs (run_by next es w)
  unfolding run_by
  run_append [] fs w = refl
  run_append (e ∷ es) fs w = run_append es fs (next e w)

  pub every_append : (test : X → W → Bool) (es fs : List X) (w : W) → every test next es w ≡ true
      → every test next fs (run_by next es w) ≡ true → every test next (es ++ fs) w ≡ true
  unfolding run_by every
  every_append test [] fs w h k = k
  every_append test (e ∷ es) fs w h k =
      let b = and_both (test e w) (every test next es (next e w)) h in
      and-true (test e w) (every test next (es ++ fs) (next e w)) b.0 (every_append test es fs (next e w) b.1 k)
