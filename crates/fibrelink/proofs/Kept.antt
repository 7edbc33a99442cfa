-- What every run keeps holds after every run, both ways, whatever the hosts do: each step keeps it, as the files of the
-- folder show.
--   home d       the delay back of a direction
--   Kept D E w   the world w has it, in a direction
--   reset_kept, step_kept, run_kept   from reset, after an event, after a run
-- Assumes nothing.
pub mod Sending
pub mod Taking
pub mod Hosting
pub mod Slot
use Prim.Native.Nat.{ℕ, zero, suc}
use mathlib.Core.List.{List, [], ◌∷◌}
use mathlib.Core.Path.{◌≡◌, refl}
use lib.ListN.{take}
use Rattle.fibre.specs.declared.Block.{Block}
use Rattle.joined.specs.Joined.{Direction, a_to_b, b_to_a, near, far, slot, at_a, at_b, run_by}
use Rattle.fibrelink.specs.Link.{World, reset_world, Event, step, run}
use Rattle.fibrelink.specs.Demand.{away}
use Rattle.fibrelink.proofs.Way.{reset_way}
use Rattle.fibrelink.proofs.Kept.Slot.{Inv, slot_kept, near_kept, far_kept}

abbrev pub home : Direction → ℕ → ℕ → ℕ
home a_to_b D E = E
home b_to_a D E = D

abbrev pub Kept : Direction → ℕ → ℕ → World → Type 0
Kept d D E w = Inv (away d D E) (home d D E) (near d w) (far d w)

none : (k : ℕ) → [] ≡ take {A = Block} k []
none zero = refl
none (suc k) = refl

pub reset_kept : (d : Direction) (D E : ℕ) → Kept d D E reset_world
reset_kept a_to_b D E = record { fa = []; fb = []; forth = none D; back = none E; way = reset_way }
reset_kept b_to_a D E = record { fa = []; fb = []; forth = none E; back = none D; way = reset_way }

pub step_kept : (d : Direction) (D E : ℕ) (e : Event) (w : World) → Kept d D E w → Kept d D E (step D E e w)
step_kept a_to_b D E (slot ha hb) w k = slot_kept D E w.a w.b ha hb k
step_kept a_to_b D E (at_a c) w k = near_kept D E w.a w.b c k
step_kept a_to_b D E (at_b c) w k = far_kept D E w.a w.b c k
step_kept b_to_a D E (slot ha hb) w k = slot_kept E D w.b w.a hb ha k
step_kept b_to_a D E (at_a c) w k = far_kept E D w.b w.a c k
step_kept b_to_a D E (at_b c) w k = near_kept E D w.b w.a c k

pub run_kept : (d : Direction) (D E : ℕ) (es : List Event) (w : World) → Kept d D E w → Kept d D E (run D E es w)
unfolding run_by
run_kept d D E [] w k = k
run_kept d D E (e ∷ es) w k = run_kept d D E es (step D E e w) (step_kept d D E e w k)
