-- An end, seen as the two halves of the protocol: each step of "Sending" and "Taking" on an end is the protocol's step
-- on what it sees of it. So the laws of the crate protocol hold of ends.
--   out_of e   the sending half of an end
--   in_of i   the receiving half
-- Assumes nothing.
use Prim.Native.Nat.{ℕ}
use mathlib.Core.Bool.{Bool, true}
use mathlib.Core.List.{List}
use mathlib.Core.Path.{◌≡◌, refl}
use Rattle.frame.specs.Frame.{marked, even}
use Rattle.end.specs.declared.End.{End}
use Rattle.receiver.specs.declared.Heard.{Heard}
use Rattle.receiver.specs.declared.Inbox.{Inbox}
use Rattle.receiver.specs.declared.Collector.{Collector}
use Rattle.end.specs.Sending.{acked, step_one, loads, steps_two_to_four}
use Rattle.receiver.specs.Receiving.{releases, placed, count_with, completes, said_by, enters, entered}
use Rattle.end.specs.Taking.{settled}
use Rattle.end.specs.Registers.{read_end}
use Rattle.protocol.specs.Steps as steps
use Rattle.protocol.specs.Steps.{Out, In}

abbrev pub out_of : End → Out
out_of e = record {
  pending = e.outbox.pending;
  ready = e.sender.ready;
  toggle = e.sender.toggle;
  register = e.outbox.toggle;
}

abbrev pub in_of : Inbox → In
in_of i = record { expected = i.expected; acknowledge = i.acknowledge; full = i.full; toggle = i.toggle }

-- Sending

pub acks_view : (e : End) → acked e ≡ steps.acks e.heard.ack e.heard.togack (out_of e).toggle
unfolding acked
acks_view e = refl

pub step_one_view : (a : Bool) (e : End) → out_of (step_one a e) ≡ steps.step_one a (out_of e)
step_one_view a e = refl

pub loads_view : (e : End) → loads e ≡ steps.loads (out_of e)
loads_view e = refl

pub step_three_view : (a l : Bool) (e : End) → out_of (steps_two_to_four a l e) ≡ steps.step_three l (out_of e)
step_three_view a l e = refl

-- Taking

pub releases_view : (e : End) → releases e.heard e.inbox ≡ steps.releases e.heard.valid (in_of e.inbox)
releases_view e = refl

pub settle_view : (e : End)
    → in_of (settled e) ≡ steps.settle (releases e.heard e.inbox) e.heard.toggle (in_of e.inbox)
settle_view e = refl

pub placed_view : (s : ℕ) (c : Collector) → placed s c ≡ steps.placed (marked s) (even s) s c.symbols c.count
placed_view s c = refl

pub counted_view : (s : ℕ) (c : Collector) → count_with s c ≡ steps.count_with (marked s) (even s) c.count
counted_view s c = refl

pub completes_view : (s : ℕ) (c : Collector) → completes s c ≡ steps.completes (marked s) (even s) c.count
completes_view s c = refl

pub enters_view : (h : Heard) (i : Inbox) → enters true h i ≡ steps.enters h.valid h.toggle (in_of i)
enters_view h i = refl

pub entered_view : (b : Bool) (l : List ℕ) (i : Inbox)
    → in_of (entered b l i) ≡ steps.enter b (said_by l).toggle (in_of i)
entered_view b l i = refl

pub emptied_view : (e : End) → in_of (read_end e 2317).inbox ≡ steps.emptied (in_of e.inbox)
emptied_view e = refl
