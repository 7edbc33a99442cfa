-- `pair::slots` meets its contract. The loop's invariant: what is left to run from here ends where the whole run ends.
--   run_step, run_none   a run by its first turn, and by none
-- Assumes nothing.
use Prim.Native.Nat.{ℕ, zero, suc, ◌-◌, ◌≤◌, ◌<◌}
use native.Mathlib.Nat.{not-suc-le-zero}
use native.Mathlib.Omega.{arith}
use mathlib.Core.Path.{◌≡◌, refl, sym, ◌∙◌}
use borrow.Author.Rules.{rules}
use Rattle.speed.specs.declared.pair.Pair.{Pair}
use Rattle.speed.specs.Pair.{turn, run}
use Rattle.speed.proofs.pair.slots.Goals as goal

run_step : (k : ℕ) (l : Pair) → 0 < k → run k l ≡ run (k - 1) (turn k l)
unfolding run
run_step zero l h = absurd (not-suc-le-zero h)
run_step (suc k) l h = let e : suc k - 1 ≡ k = omega arith in rw e

run_none : (k : ℕ) (l : Pair) → k ≤ 0 → run k l ≡ l
unfolding run
run_none zero l h = refl
run_none (suc k) l h = absurd (not-suc-le-zero h)

pub loop-left-init : goal.loop-left-init
loop-left-init c = cc

pub loop-left-preserved : goal.loop-left-preserved
loop-left-preserved c =
    rw c.turn-pair.ensures
    (sym (run_step c.loop-left.left c.loop-left.pair (search rules))
    ∙ c.loop-left.invariant)

pub returns : goal.returns
returns c = sym (run_none c.loop-left.left _ (omega arith)) ∙ c.loop-left.invariant
