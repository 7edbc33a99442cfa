-- The host that takes the messages of a direction keeps the rule. So what it has read of a message is what stands in
-- the register, and what it took are the first so many accepted. It is a further invariant, beside that of every run.
--   TakeOk       a take that is half done has read a part of what is in the register
--   Took         the host h has read out of the register i; acc were accepted, ent entered
--   grown_took   one accepted message more
--   Taker d w    so it is with the host that takes the messages of direction d
--   taker_kept   after every run in which it keeps the rule
-- Assumes nothing.
pub mod Reading
pub mod Slot
use Prim.Native.Nat.{ℕ}
use mathlib.Core.Bool.{Bool, true, false, cond}
use mathlib.Core.List.{List, [], ◌∷◌}
use mathlib.Core.Path.{◌≡◌, refl, sym, subst}
use native.Mathlib.Omega.{arith}
use Rattle.receiver.specs.declared.Inbox.{Inbox}
use Rattle.laws.proofs.Bools.{and_both}
use Rattle.end.specs.Registers.{read_of}
use Rattle.endlaws.proofs.Left.{write_leaves, health_leaves}
use Rattle.link.specs.Link.{Side, World, Direction, a_to_b, b_to_a, near, far, also, Access, read, write}
use Rattle.link.specs.Link.{health, present, receive_side, advance, accepts_now, message_written, ruled_call}
use Rattle.link.specs.Link.{hosted, Event, slot, at_a, at_b, reset_world, step, ruled_step, run, ruled, run_by, every}
use Rattle.link.proofs.Line.{Cell}
use Rattle.link.proofs.Invariant.{Inv, exchanged}
use Rattle.link.proofs.Kept.{Kept, reset_kept, step_kept}
use Rattle.link.proofs.Taken.Reading.{Took, no_take_ok, grown_took, read_took}
use Rattle.link.proofs.Taken.Slot.{slot_took}

-- what b's host took of a's messages
abbrev TookOf : Side → Side → Type 0
TookOf a b = Took b.end.inbox b.host a.host.accepted b.log.entered

abbrev pub Taker : Direction → World → Type 0
Taker d w = TookOf (near d w) (far d w)

-- a call of the host whose messages are taken
near_took : {a b : Side} {ca cb : List Cell} {D E pa pb : ℕ} → Inv a b ca cb D E pa pb → (c : Access) → TookOf a b
    → TookOf (hosted c a) b
near_took {a} {b} i (read r) t = go (receive_side r)
  where
    v : ℕ
    v = (read_of a.end r).value

    go : (s : Bool)
        → Took b.end.inbox b.host (cond s (advance r v a.host) a.host).accepted b.log.entered
    go true = t
    go false = t
near_took {a} {b} i (write r v l) t = go (accepts_now r v a.end)
  where
    go : (x : Bool) → Took b.end.inbox b.host (also x (message_written v a.host) a.host.accepted)
        b.log.entered
    go true = grown_took (message_written v a.host) (omega (arith, i.ab.order, i.ab.holding.sending.accepted)) t
    go false = t
near_took i (health k) t = t
near_took i present t = t

-- a call of the host that takes, by the rule
far_took : {a b : Side} {ca cb : List Cell} {D E pa pb : ℕ} → Inv a b ca cb D E pa pb → (c : Access)
    → ruled_call c a.host ≡ true → TookOf b a → TookOf b (hosted c a)
far_took i (read r) q t = read_took i t r q
far_took {a} {b} i (write r v l) q t =
    subst (λ (x : Inbox). Took x (hosted (write r v l) a).host b.host.accepted a.log.entered)
    (sym (write_leaves a.end r v).inbox)
    (record { reading = t.reading; taken_is = t.taken_is; count = t.count })
far_took {a} {b} i (health k) q t =
    subst (λ (x : Inbox). Took x a.host b.host.accepted a.log.entered)
    (sym (health_leaves a.end k).inbox) t
far_took i present q t = t

step_took : (d : Direction) (D E : ℕ) (e : Event) (w : World) → ruled_step d e w.a.host w.b.host ≡ true
    → Kept D E w → Taker d w
    → Taker d (step D E e w)
step_took a_to_b D E (slot ha hb) w q k t = slot_took k.inv ha hb t
step_took b_to_a D E (slot ha hb) w q k t = slot_took (exchanged k.inv) hb ha t
step_took a_to_b D E (at_a c) w q k t = near_took k.inv c t
step_took a_to_b D E (at_b c) w q k t = far_took (exchanged k.inv) c q t
step_took b_to_a D E (at_a c) w q k t = far_took k.inv c q t
step_took b_to_a D E (at_b c) w q k t = near_took (exchanged k.inv) c t

run_took : (d : Direction) (D E : ℕ) (es : List Event) (w : World) → ruled d D E es w ≡ true → Kept D E w → Taker d w
    → Taker d (run D E es w)
unfolding run_by every
run_took d D E [] w q k t = t
run_took d D E (e ∷ es) w q k t =
    let p = and_both (ruled_step d e w.a.host w.b.host) (ruled d D E es (step D E e w)) q in
    run_took d D E es (step D E e w) p.1 (step_kept D E e w k) (step_took d D E e w p.0 k t)

pub taker_kept : (d : Direction) (D E : ℕ) (es : List Event) → ruled d D E es reset_world ≡ true
    → Taker d (run D E es reset_world)
taker_kept d D E es q = run_took d D E es reset_world q (reset_kept D E) (from d)
  where
    from : (d : Direction) → Taker d reset_world
    from a_to_b = record { reading = no_take_ok _ _ _ _ refl; taken_is = refl; count = refl }
    from b_to_a = record { reading = no_take_ok _ _ _ _ refl; taken_is = refl; count = refl }
