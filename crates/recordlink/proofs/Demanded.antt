-- Demand 3 for records: what is true of the ends that the same run leads to.
--   near_hold, far_hold, holds_at    of a direction
--   idle_ends, idle_areas, landed_areas, landed_ends   what is said of bytes is what is said of the ends, both ways
--   nothing_lost, held_where, delivered, asked_alike   the statements of specs/Demand.antt
-- Assumes nothing.
use Prim.Native.Nat.{ℕ, ◌+◌, ◌≤◌, ◌<◌}
use mathlib.Core.Bool.{Bool, true, false, cond}
use mathlib.Core.List.{List, [], ◌∷◌, ◌++◌}
use mathlib.Core.Path.{◌≡◌, refl, sym, ap, ◌∙◌, subst}
use native.Mathlib.Omega.{arith}
use lib.Dec.{eqb}
use lib.ListN.{length}
use Rattle.end.specs.declared.End.{End}
use Rattle.end.specs.Calls.{Call}
use Rattle.end.specs.Shape.{Shaped}
use Rattle.laws.proofs.Pieces.{spelled}
use Rattle.recordspec.specs.Record.{size, flag, front_of, back_of, body_of, record_of, at, end_of}
use Rattle.record.specs.Calls.{Called}
use Rattle.joined.specs.Joined.{near, far}
use Rattle.link.specs.Link as ends
use Rattle.link.specs.Link.{Message, Host, Log, Side, World, Direction, a_to_b, b_to_a, write, also, accepts, accepts_now}
use Rattle.link.specs.Link.{message_written, Event, reset_world}
use Rattle.link.specs.Demand as demand
use Rattle.link.specs.Demand.{InTurn, most_held, held, at_near, bit13}
use Rattle.link.specs.LogFacts.{LogFacts}
use Rattle.link.proofs.PartOne as parts
use Rattle.link.proofs.PartTwo as time
use Rattle.recordlink.specs.Joined.{Area, Areas, both_started, done, run, ruled}
use Rattle.recordlink.specs.Demand.{NothingLost, side_of, HeldThere, Idle, Landed, Delivered, AskedAlike}
use Rattle.recordlink.proofs.Mirror.{Holds, call_is, end_is, BothHold, started_hold, step_hold, run_hold}
use Rattle.recordlink.proofs.Mirror.{ruled_same, unmarked_same}

near_hold : (d : Direction) {w : Areas} {v : World} → BothHold w v → Holds (near d w) (near d v)
near_hold a_to_b h = h.a
near_hold b_to_a h = h.b

far_hold : (d : Direction) {w : Areas} {v : World} → BothHold w v → Holds (far d w) (far d v)
far_hold a_to_b h = h.b
far_hold b_to_a h = h.a

-- a side with the end of its record is the side
side_is : {x : Area} {s : Side} → Holds x s → side_of x ≡ s
side_is h = λ j. record {
  end = end_is h j;
  sent = h.same.sent j;
  host = h.same.host j;
  log = h.same.log j;
}

-- the ends that a run from reset leads to
holds_at : (p q : List ℕ) → length p ≡ size → length q ≡ size → (D E : ℕ) (es : List Event) (w : Areas)
    → w ≡ run D E es (both_started p q) → BothHold w (ends.run D E es reset_world)
holds_at p q hp hq D E es w is =
    subst (λ (w : Areas). BothHold w (ends.run D E es reset_world)) (sym is)
    (run_hold D E es (both_started p q) reset_world (started_hold p q hp hq))

ruled_ends : (d : Direction) (p q : List ℕ) → length p ≡ size → length q ≡ size → (D E : ℕ) (es : List Event)
    → ruled d D E es (both_started p q) ≡ true → ends.ruled d D E es reset_world ≡ true
ruled_ends d p q hp hq D E es r =
    sym (ruled_same d D E es (both_started p q) reset_world (started_hold p q hp hq)) ∙ r

pub nothing_lost : NothingLost
nothing_lost d p q hp hq D E es r w is =
    subst (λ (k : Host). InTurn most_held k.accepted (far d w).host.taken) (sym (near_hold d h).same.host)
    (subst (λ (k : Host). InTurn most_held (near d v).host.accepted k.taken) (sym (far_hold d h).same.host)
    (parts.nothing_lost d D E es (ruled_ends d p q hp hq D E es r) v refl))
  where
    v : World
    v = ends.run D E es reset_world

    h : BothHold w v
    h = holds_at p q hp hq D E es w is

pub held_where : HeldThere
held_where d p q hp hq D E es r w is =
    subst (λ (s : Side). s.host.accepted ≡ (far d w).host.taken ++ held s (side_of (far d w)))
    (sym (side_is (near_hold d h)))
    (subst (λ (t : Side). (near d v).host.accepted ≡ t.host.taken ++ held (near d v) t)
    (sym (side_is (far_hold d h)))
    (parts.held_where d D E es (ruled_ends d p q hp hq D E es r) v refl))
  where
    v : World
    v = ends.run D E es reset_world

    h : BothHold w v
    h = holds_at p q hp hq D E es w is

-- what is said of the three bytes is true of the ends
idle_ends : {x y : Area} {s t : Side} → Holds x s → Holds y t → LogFacts s t → Idle x y → demand.Idle s t
unfolding end_of
idle_ends {x} {y} {s} {t} h k facts i = record {
  pending = pending_not;
  acknowledged =
      all (ready_so s.end.sender.ready ready_is facts.ready) facts.pending (no_pending _ pending_not);
  empty = ap (λ (e : End). e.inbox.full) (sym (end_is k)) ∙ ap (λ (n : ℕ). eqb n 1) i.empty;
}
  where
    pending_not : s.end.outbox.pending ≡ false
    pending_not = ap (λ (e : End). e.outbox.pending) (sym (end_is h)) ∙ ap (λ (n : ℕ). eqb n 1) i.pending

    ready_is : s.end.sender.ready ≡ true
    ready_is = ap (λ (e : End). e.sender.ready) (sym (end_is h)) ∙ ap (λ (n : ℕ). eqb n 1) i.ready

    ready_so : (b : Bool) → b ≡ true → s.log.load_count ≡ s.log.ack_count + cond b 0 1
        → s.log.load_count ≡ s.log.ack_count + 0
    ready_so b e f = rw e at f

    no_pending : (b : Bool) → b ≡ false → length (also b (demand.message_out s.end) []) ≡ 0
    no_pending b e = rw e

    all : {l a n p : ℕ} → l ≡ a + 0 → n ≡ l + p → p ≡ 0 → a ≡ n
    all e f g = omega arith

landed_areas : {x y : Area} {s t : Side} → Holds x s → Holds y t → (n : ℕ) (m : Message) → demand.Landed n m s t
    → Landed n m x y
landed_areas {x} {y} {s} {t} h k n m l = record {
  entered =
      subst (λ (g : Log). (older newer : List Message) × (g.entered ≡ older ++ m ∷ newer) × (length older ≡ n))
      (sym k.same.log) l.entered;
  acknowledged = subst (λ (g : Log). n < g.ack_count) (sym h.same.log) l.acknowledged;
  shown =
      λ q. ap (λ (c : Called). bit13 c.reply.value) (call_is h (Call.read 2308))
      ∙ l.shown (subst (λ (g : Log). g.seen_count ≤ n) h.same.log q);
}

pub delivered : Delivered
delivered d p q hp hq D E es w is idle v h acc x step_is fs clean enough y y-is =
    subst (λ (k : Host). Landed (length k.accepted) (message_written v k) (near d y) (far d y))
    (sym (near_hold d at_w).same.host)
    (landed_areas (near_hold d at_y) (far_hold d at_y) _ _
    (time.delivered d D E es u refl
    (idle_ends (near_hold d at_w) (far_hold d at_w) (parts.logs_true d D E es u refl) idle) v h accepted u₂ refl fs
    (sym (unmarked_same D E fs x u₂ at_x) ∙ clean) enough u₃ refl))
  where
    u : World
    u = ends.run D E es reset_world

    at_w : BothHold w u
    at_w = holds_at p q hp hq D E es w is

    u₂ : World
    u₂ = ends.step D E (at_near d (write 2308 v h)) u

    at_x : BothHold x u₂
    at_x = subst (λ (x : Areas). BothHold x u₂) (sym step_is) (step_hold D E (at_near d (write 2308 v h)) at_w)

    u₃ : World
    u₃ = ends.run D E fs u₂

    at_y : BothHold y u₃
    at_y = subst (λ (y : Areas). BothHold y u₃) (sym y-is) (run_hold D E fs x u₂ at_x)

    accepted : accepts_now 2308 v (near d u).end ≡ true
    accepted =
        ap (λ (c : Called). accepts 2308 v (done c.reply)) (sym (call_is (near_hold d at_w) (Call.write 2308 v h)))
        ∙ acc

-- the three bytes of a record
module _ (e : End) (h : Shaped e) where
  pending_at : at (record_of e) 32 ≡ flag e.outbox.pending
  unfolding record_of body_of front_of
  pending_at = rw (spelled 12 e.sender.symbols h.sending)

  ready_at : at (record_of e) 29 ≡ flag e.sender.ready
  unfolding record_of body_of front_of
  ready_at = rw (spelled 12 e.sender.symbols h.sending)

  full_at : at (record_of e) 80 ≡ flag e.inbox.full
  unfolding record_of body_of front_of back_of
  full_at =
      rw (
        spelled 12 e.sender.symbols h.sending,
        spelled 12 e.collector.symbols h.collecting,
        spelled 8 e.outbox.bytes h.eight_out,
      )

-- and the other way round
idle_areas : {x y : Area} {s t : Side} → Holds x s → Holds y t → LogFacts s t → demand.Idle s t → Idle x y
idle_areas {x} {y} {s} {t} h k facts i = record {
  pending = ap (λ (r : List ℕ). at r 32) h.same.bytes ∙ pending_at s.end h.shaped ∙ ap flag i.pending;
  ready =
      ap (λ (r : List ℕ). at r 29) h.same.bytes
      ∙ ready_at s.end h.shaped
      ∙ ap flag (ready_is s.end.sender.ready _ facts.ready facts.pending i.acknowledged);
  empty = ap (λ (r : List ℕ). at r 80) k.same.bytes ∙ full_at t.end k.shaped ∙ ap flag i.empty;
}
  where
    ready_is : (b : Bool) (p : ℕ) {l a n : ℕ} → l ≡ a + cond b 0 1 → n ≡ l + p → a ≡ n → b ≡ true
    ready_is true p e f g = refl
    ready_is false p e f g = absurd (omega arith)

landed_ends : {x y : Area} {s t : Side} → Holds x s → Holds y t → (n : ℕ) (m : Message) → Landed n m x y
    → demand.Landed n m s t
landed_ends {x} {y} {s} {t} h k n m l = record {
  entered =
      subst (λ (g : Log). (older newer : List Message) × (g.entered ≡ older ++ m ∷ newer) × (length older ≡ n))
      k.same.log l.entered;
  acknowledged = subst (λ (g : Log). n < g.ack_count) h.same.log l.acknowledged;
  shown =
      λ q. ap (λ (c : Called). bit13 c.reply.value) (sym (call_is h (Call.read 2308)))
      ∙ l.shown (subst (λ (g : Log). g.seen_count ≤ n) (sym h.same.log) q);
}

pub asked_alike : AskedAlike
asked_alike p q hp hq D E es w is = record {
  rule = λ d fs. ruled_same d D E fs w v h;
  marks = λ fs. unmarked_same D E fs w v h;
  idle = λ d. (
    idle_ends (near_hold d h) (far_hold d h) (parts.logs_true d D E es v refl),
    idle_areas (near_hold d h) (far_hold d h) (parts.logs_true d D E es v refl),
  );
  landed = λ d n m. (landed_ends (near_hold d h) (far_hold d h) n m, landed_areas (near_hold d h) (far_hold d h) n m);
}
  where
    v : World
    v = ends.run D E es reset_world

    h : BothHold w v
    h = holds_at p q hp hq D E es w is
