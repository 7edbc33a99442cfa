-- The invariant holds after every run, whatever the hosts do: each step keeps it, as the files of the folder show.
--   host_kept    after a host's call
--   Kept D E w   the world w has the invariant, for some cells
--   reset_kept, step_kept, run_kept   from reset, after an event, after a run
-- Assumes nothing.
pub mod Making
pub mod Sending
pub mod Entering
pub mod Taking
pub mod Slot
pub mod Hosting
pub mod Writing
pub mod Reading
use Prim.Native.Nat.{ℕ, suc, ◌*◌, ◌+◌}
use mathlib.Core.Bool.{false, false≢true, true≢false}
use mathlib.Core.List.{List, [], ◌∷◌}
use mathlib.Core.Path.{◌≡◌, refl, sym, ap, ◌∙◌}
use native.Mathlib.Nat.{le_refl}
use native.Mathlib.Omega.{arith}
use lib.ListN.{length, replicate}
use Rattle.crc.specs.Bits.{odd}
use Rattle.end.proofs.Guards.{reset_shaped}
use Rattle.endlaws.proofs.Goods.{reset_good}
use Rattle.protocol.specs.Steps.{num}
use Rattle.link.specs.Link.{Side, World, Access, read, write, health, present, bytes_of, hosted, Event, slot}
use Rattle.link.specs.Link.{at_a, at_b, reset_side, reset_world, step, run, run_by}
use Rattle.link.proofs.Line.Words.{said, Says, word_says}
use Rattle.link.proofs.Line.{Cell, silent_cell}
use Rattle.link.proofs.Invariant.OneWay.{DataOk, AckOk, Way}
use Rattle.link.proofs.Invariant.{Fit, Inv, exchanged}
use Rattle.link.proofs.Kept.Slot.{cell_of, slot_kept}
use Rattle.link.proofs.Kept.Writing.{write_kept, health_kept}
use Rattle.link.proofs.Kept.Reading.{read_kept}

pub host_kept : {a b : Side} {ca cb : List Cell} {D E pa pb : ℕ} → Inv a b ca cb D E pa pb → (c : Access)
    → Inv (hosted c a) b ca cb D E pa pb
host_kept v (read r) = read_kept v r
host_kept v (write r x h) = write_kept v r x h
host_kept v (health h) = health_kept v h
host_kept v present = v

pub record Kept (D E : ℕ) (w : World) : Type 0 where
  pub ca : List Cell
  pub cb : List Cell
  pub pa : ℕ
  pub pb : ℕ
  pub level : length ca ≡ length cb
  pub inv : Inv w.a w.b ca cb D E pa pb

-- before anything is sent: the cell that says nothing
silent : Says (replicate 10 0) false false false false 0
silent = word_says (replicate 10 0) false false false false 0 refl (omega arith) refl

silent_data : DataOk [] silent_cell.frame
silent_data = record { toggle = rw silent.toggle; message = λ v. absurd (false≢true (sym silent.valid ∙ v)) }

silent_ack : AckOk 0 silent_cell.frame
silent_ack = record { upto = omega arith; some = rw silent.ack (omega arith); toggle = rw silent.togack }

silent_rank : 2 * 0 + num (said (replicate 10 0)).valid ≡ 0
silent_rank = rw silent.valid

reset_fit : Fit reset_side [] silent_cell
unfolding bytes_of
reset_fit = record {
  good = reset_good;
  shaped = reset_shaped;
  sender = record { position = refl; current = λ h. absurd (omega arith); symbols = refl };
  line = record {
    ten = λ i. refl;
    within = λ i. omega arith;
    places = λ i h. absurd (omega arith);
    same = λ i h. refl;
    ranks = λ i. le_refl _;
    entries = λ i. le_refl _;
  };
  sync = record { place = λ h. absurd (omega arith); prefix = refl };
  stored = record { four = refl; are = refl };
}

reset_way : (D E : ℕ) → Way reset_side reset_side [] [] D E 0
unfolding odd
reset_way D E = record {
  ha = 0;
  holding = record {
    sending = omega arith;
    valid = refl;
    pending = λ h. absurd (false≢true h);
    sent = λ h. absurd (true≢false h);
  };
  filling = record {
    gone = 0;
    receiving = omega arith;
    register = λ h. absurd (false≢true h);
    entered_is = refl;
  };
  hearing = omega arith;
  order = omega arith;
  onward = record { newest = silent_rank; heard = omega arith; frames = λ i. silent_data };
  back = record { newest = omega arith; heard = omega arith; frames = λ i. silent_ack };
}

pub reset_kept : (D E : ℕ) → Kept D E reset_world
reset_kept D E = record {
  ca = [];
  cb = [];
  pa = 0;
  pb = 0;
  level = refl;
  inv = record { fit_a = reset_fit; fit_b = reset_fit; ab = reset_way D E; ba = reset_way E D };
}

-- the same cells
with_inv : {D E : ℕ} {w x : World} (k : Kept D E w) → Inv x.a x.b k.ca k.cb D E k.pa k.pb → Kept D E x
with_inv k v = record { ca = k.ca; cb = k.cb; pa = k.pa; pb = k.pb; level = k.level; inv = v }

pub step_kept : (D E : ℕ) (e : Event) (w : World) → Kept D E w → Kept D E (step D E e w)
step_kept D E (slot ha hb) w k = record {
  ca = cell_of w.a k.ca ∷ k.ca;
  cb = cell_of w.b k.cb ∷ k.cb;
  pa = _;
  pb = _;
  level = ap suc k.level;
  inv = slot_kept k.inv ha hb;
}
step_kept D E (at_a c) w k = with_inv k (host_kept k.inv c)
step_kept D E (at_b c) w k = with_inv k (exchanged (host_kept (exchanged k.inv) c))

pub run_kept : (D E : ℕ) (es : List Event) (w : World) → Kept D E w → Kept D E (run D E es w)
unfolding run_by
run_kept D E [] w k = k
run_kept D E (e ∷ es) w k = run_kept D E es (step D E e w) (step_kept D E e w k)
