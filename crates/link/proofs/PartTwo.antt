-- Demand 3, second part: within 58 + D + E slots in which nothing that arrives is marked, the message has landed.
--   frame_after  the first frame start at or after a slot
--   ahead, home  the delays as the direction sees them
--   Seen         the invariant seen from one direction, for some cells
--   Going        with it the message's progress: goes_on after a host's call, slot_on after a slot
--   run_going    they hold after every continuation in which nothing that arrives is marked
--   begins       the write that is accepted into an idle direction
--   schedule, in_time   the times of the message's progress, and that the last one is within the bound
--   lands        what a going message comes to
--   delivered    the second part, each way
--   sound_unmarked   its premise holds of every slot on sound lines
-- Assumes nothing.
pub mod Progress
pub mod Arrival
pub mod SlotProgress
use Prim.Native.Nat.{ℕ, suc, ◌+◌, ◌*◌, ◌/◌, ◌%◌, ◌≤◌, ◌<◌}
use mathlib.Core.Bool.{true}
use mathlib.Core.List.{List, [], ◌∷◌, ◌++◌}
use mathlib.Core.Path.{◌≡◌, refl, sym, ap, ◌∙◌, subst}
use native.Mathlib.Nat.{le_of_eq, zero-add}
use native.Mathlib.Numerals.{one-add}
use native.Mathlib.Omega.{arith}
use lib.ListN.{length, get_or, take, drop}
use borrow.Author.Tests.{lt-ltb}
use lib.Seq.{split_at, length-take-le, get_or-take, get_or-append_seam}
use Rattle.laws.proofs.Bools.{and_both, and-true}
use Rattle.protocol.specs.Steps.{num}
use Rattle.link.specs.Link.{Message, Side, World, Direction, a_to_b, b_to_a, near, far, Event, slot, at_a, at_b, write}
use Rattle.link.specs.Link.{hosted, accepts_now, message_written, sound, reset_world, step, run, run_by, every, sends}
use Rattle.link.specs.Demand.{at_near, Idle, unmarked_step, unmarked, slots, bound, Landed, Delivered}
use Rattle.link.proofs.Line.{Cell}
use Rattle.link.proofs.Invariant.Logs.{length_more}
use Rattle.link.proofs.Invariant.OneWay.{no_message}
use Rattle.link.proofs.Invariant.{Inv, exchanged, acknowledged_entered}
use Rattle.link.proofs.Kept.Slot.{cell_of, both_sent, slot_kept}
use Rattle.link.proofs.Kept.{Kept, reset_kept, host_kept, step_kept, run_kept}
use Rattle.link.proofs.Shows.{Shows, BothShow, step_shows, run_shows, reset_shows, near_shows, received_is}
use Rattle.link.proofs.PartTwo.Progress.{Schedule, Prog, host_a, host_b}
use Rattle.link.proofs.PartTwo.Arrival.{sound_arrives}
use Rattle.link.proofs.PartTwo.SlotProgress.{slot_progress}

frame_after : ℕ → ℕ
frame_after n = (n + 11) / 12 * 12

frame_after_lem : (n : ℕ) → (n ≤ frame_after n) × (frame_after n ≤ n + 11) × (frame_after n % 12 ≡ 0)
unfolding frame_after
frame_after_lem n = (omega arith, omega arith, omega arith)

abbrev ahead : Direction → ℕ → ℕ → ℕ
ahead a_to_b D E = D
ahead b_to_a D E = E

abbrev home : Direction → ℕ → ℕ → ℕ
home a_to_b D E = E
home b_to_a D E = D

record Seen (d : Direction) (D E : ℕ) (w : World) : Type 0 where
  cn : List Cell
  cf : List Cell
  pn : ℕ
  pf : ℕ
  level : length cn ≡ length cf
  inv : Inv (near d w) (far d w) cn cf (ahead d D E) (home d D E) pn pf

seen : (d : Direction) {D E : ℕ} {w : World} → Kept D E w → Seen d D E w
seen a_to_b k = record { cn = k.ca; cf = k.cb; pn = k.pa; pf = k.pb; level = k.level; inv = k.inv }
seen b_to_a k = record {
  cn = k.cb;
  cf = k.ca;
  pn = k.pb;
  pf = k.pa;
  level = sym k.level;
  inv = exchanged k.inv;
}

-- the same cells
abbrev with_inv : (d : Direction) {D E : ℕ} {w : World} (k : Seen d D E w) (x : World)
    → Inv (near d x) (far d x) k.cn k.cf (ahead d D E) (home d D E) k.pn k.pf → Seen d D E x
with_inv d k x v = record { cn = k.cn; cf = k.cf; pn = k.pn; pf = k.pf; level = k.level; inv = v }

abbrev is_slot : Event → ℕ
is_slot (slot ha hb) = 1
is_slot (at_a c) = 0
is_slot (at_b c) = 0

slots_more : (e : Event) (es : List Event) → slots (e ∷ es) ≡ is_slot e + slots es
unfolding slots
slots_more (slot ha hb) es = omega arith
slots_more (at_a c) es = omega arith
slots_more (at_b c) es = omega arith

module _ (D E k n₀ t₁ t₂ t₃ : ℕ) (m : Message) where
  -- the message's progress in the world x, with the cells of r
  abbrev Goes : (d : Direction) {w : World} → Seen d D E w → World → Type 0
  Goes d r x =
      Prog (near d x) (far d x) r.cn r.cf (ahead d D E) (home d D E) r.pn k n₀ t₁ t₂ t₃ (length r.cn) m

  -- the world w, after n slots
  record Going (d : Direction) (w : World) (n : ℕ) : Type 0 where
    cells : Seen d D E w
    long : n ≡ length cells.cn
    prog : Goes d cells w

  -- a host's call: the same cells
  goes_on : (d : Direction) {w : World} {n : ℕ} (g : Going d w n) (x : World)
      → Inv (near d x) (far d x) g.cells.cn g.cells.cf (ahead d D E) (home d D E) g.cells.pn g.cells.pf
      → Goes d g.cells x → Going d x (0 + n)
  goes_on d {n = n} g x v p = record {
    cells = with_inv d g.cells x v;
    long = zero-add n ∙ g.long;
    prog = p;
  }

  -- a slot: one cell more on each line
  abbrev longer_near : (d : Direction) {w : World} {n : ℕ} → Going d w n → List Cell
  longer_near d {w} g = cell_of (near d w) g.cells.cn ∷ g.cells.cn

  abbrev longer_far : (d : Direction) {w : World} {n : ℕ} → Going d w n → List Cell
  longer_far d {w} g = cell_of (far d w) g.cells.cf ∷ g.cells.cf

  slot_on : (d : Direction) {w : World} {n pn pf : ℕ} (g : Going d w n) (x : World)
      → Inv (near d x) (far d x) (longer_near d g) (longer_far d g) (ahead d D E) (home d D E) pn pf
      → Prog (near d x) (far d x) (longer_near d g) (longer_far d g) (ahead d D E) (home d D E) pn k n₀ t₁ t₂ t₃
      (length (longer_near d g)) m
      → Going d x (1 + n)
  slot_on d {n = n} {pn = pn} {pf = pf} g x v p = record {
    cells = record {
      cn = longer_near d g;
      cf = longer_far d g;
      pn = pn;
      pf = pf;
      level = ap suc g.cells.level;
      inv = v;
    };
    long = one-add n ∙ ap suc g.long;
    prog = p;
  }

  step_going : (d : Direction) (e : Event) (w : World) (n : ℕ) → Schedule n₀ (ahead d D E) (home d D E) t₁ t₂ t₃
      → unmarked_step D E e (sends w.a).sent (sends w.b).sent ≡ true → Going d w n
      → Going d (step D E e w) (is_slot e + n)
  step_going a_to_b (slot ha hb) w n s c g =
      let q = and_both _ _ c in
      slot_on a_to_b g _ (slot_kept g.cells.inv ha hb)
      (slot_progress g.cells.inv g.cells.level s g.prog ha hb q.0 q.1)
  step_going b_to_a (slot ha hb) w n s c g =
      let q = and_both _ _ c in
      slot_on b_to_a g _ (exchanged (slot_kept (exchanged g.cells.inv) ha hb))
      (slot_progress g.cells.inv g.cells.level s g.prog hb ha q.1 q.0)
  step_going a_to_b (at_a x) w n s c g = goes_on a_to_b g _ (host_kept g.cells.inv x) (host_a g.prog x)
  step_going a_to_b (at_b x) w n s c g =
      goes_on a_to_b g _ (exchanged (host_kept (exchanged g.cells.inv) x)) (host_b g.prog x)
  step_going b_to_a (at_a x) w n s c g =
      goes_on b_to_a g _ (exchanged (host_kept (exchanged g.cells.inv) x)) (host_b g.prog x)
  step_going b_to_a (at_b x) w n s c g = goes_on b_to_a g _ (host_kept g.cells.inv x) (host_a g.prog x)

  run_going : (d : Direction) → Schedule n₀ (ahead d D E) (home d D E) t₁ t₂ t₃ → (fs : List Event) (w : World) (n : ℕ)
      → unmarked D E fs w ≡ true → Going d w n → Going d (run D E fs w) (slots fs + n)
  unfolding run_by every slots
  run_going d s [] w n c g = subst (λ (i : ℕ). Going d w i) (sym (zero-add n)) g
  run_going d s (e ∷ fs) w n c g =
      let q =
      and_both (unmarked_step D E e (sends w.a).sent (sends w.b).sent) (unmarked D E fs (step D E e w)) c in
      subst (λ (i : ℕ). Going d (run D E fs (step D E e w)) i) (regroup (is_slot e) (slots fs) (slots_more e fs))
      (run_going d s fs (step D E e w) (is_slot e + n) q.1 (step_going d e w n s q.0 g))
    where
      regroup : {l : ℕ} (i j : ℕ) → l ≡ i + j → j + (i + n) ≡ l + n
      regroup i j h = omega arith

begins : {a b : Side} {ca cb : List Cell} {D E pa pb t₁ t₂ t₃ : ℕ} → Inv a b ca cb D E pa pb
    → Schedule (length ca) D E t₁ t₂ t₃ → Idle a b → (v : ℕ) (h : v < 65536) → accepts_now 2308 v a.end ≡ true
    → Prog (hosted (write 2308 v h) a) b ca cb D E pa (length a.host.accepted) (length ca) t₁ t₂ t₃ (length ca)
    (message_written v a.host)
begins {a} {b} i s idle v h q = record {
  acknowledged = le_of_eq (sym idle.acknowledged);
  accepted = rw q (omega (arith, length_more a.host.accepted (message_written v a.host)));
  message = rw q (get_or-append_seam a.host.accepted _ [] no_message);
  left = all (acknowledged_entered i) idle.acknowledged (ap num idle.empty);
  loaded = λ l. absurd (omega (arith, s.first));
  ranks = λ j l. absurd (omega (arith, s.first));
  abreast_b = λ l p. absurd (omega arith);
  entered = λ l. absurd (omega (arith, s.first));
  entries = λ j l. absurd (omega (arith, s.first, s.second));
  abreast_a = λ l p. absurd (omega arith);
  heard = λ l. absurd (omega (arith, s.first, s.second));
  done = λ l. absurd (omega (arith, s.first, s.second, s.third));
}
  where
    all : {x y z u : ℕ} → x ≤ z → x ≡ y → u ≡ 0 → y + u ≤ z
    all e f g = omega arith

begin_going : (d : Direction) {D E t₁ t₂ t₃ : ℕ} (w : World) (k : Seen d D E w)
    → Schedule (length k.cn) (ahead d D E) (home d D E) t₁ t₂ t₃ → Idle (near d w) (far d w)
    → (v : ℕ) (h : v < 65536) → accepts_now 2308 v (near d w).end ≡ true
    → (x : World) → x ≡ step D E (at_near d (write 2308 v h)) w
    → Going D E (length (near d w).host.accepted) (length k.cn) t₁ t₂ t₃ (message_written v (near d w).host) d x
    (length k.cn)
begin_going d {D} {E} {t₁} {t₂} {t₃} w k s idle v h q x is =
    subst (λ (x : World). Going D E (length (near d w).host.accepted) (length k.cn) t₁ t₂ t₃
    (message_written v (near d w).host) d x (length k.cn)) (sym is) (go d k s idle q)
  where
    go : (d : Direction) (k : Seen d D E w) → Schedule (length k.cn) (ahead d D E) (home d D E) t₁ t₂ t₃
        → Idle (near d w) (far d w) → accepts_now 2308 v (near d w).end ≡ true
        → Going D E (length (near d w).host.accepted) (length k.cn) t₁ t₂ t₃
        (message_written v (near d w).host) d (step D E (at_near d (write 2308 v h)) w)
        (length k.cn)
    go a_to_b k s idle q = record {
      cells = with_inv a_to_b k _ (host_kept k.inv (write 2308 v h));
      long = refl;
      prog = begins k.inv s idle v h q;
    }
    go b_to_a k s idle q = record {
      cells = with_inv b_to_a k _ (host_kept k.inv (write 2308 v h));
      long = refl;
      prog = begins k.inv s idle v h q;
    }

-- the schedule from slot n on ends within the bound
module _ (n D E : ℕ) where
  abbrev first : ℕ
  first = frame_after n

  abbrev second : ℕ
  second = frame_after (first + 12 + D)

  abbrev third : ℕ
  third = frame_after (second + 12 + E)

  schedule : Schedule n D E first second third
  schedule = record {
    first = (frame_after_lem n).0;
    second = (frame_after_lem (first + 12 + D)).0;
    third = (frame_after_lem (second + 12 + E)).0;
    start₁ = (frame_after_lem n).2;
    start₂ = (frame_after_lem (first + 12 + D)).2;
    start₃ = (frame_after_lem (second + 12 + E)).2;
  }

  in_time : third < bound D E + n
  in_time = within (frame_after_lem n).1 (frame_after_lem (first + 12 + D)).1 (frame_after_lem (second + 12 + E)).1
    where
      within : first ≤ n + 11 → second ≤ first + 12 + D + 11 → third ≤ second + 12 + E + 11 → third < bound D E + n
      within a b c = omega arith

lands : {a b : Side} {ca cb : List Cell} {D E pa pb k n₀ t₁ t₂ t₃ n : ℕ} {m : Message} → Inv a b ca cb D E pa pb
    → Schedule n₀ D E t₁ t₂ t₃ → Shows a → Prog a b ca cb D E pa k n₀ t₁ t₂ t₃ n m → t₃ < n → Landed k m a b
lands {a} {b} {k = k} {m = m} i s h g l = record {
  entered = (
    take k b.log.entered,
    drop (suc k) b.log.entered,
    split_at b.log.entered k no_message in_there
        ∙ ap (λ (x : Message). take k b.log.entered ++ x ∷ drop (suc k) b.log.entered) message,
    length-take-le k b.log.entered (omega (arith, in_there)),
  );
  acknowledged = g.done l;
  shown = λ q. received_is i h ∙ lt-ltb _ _ (before q (g.done l));
}
  where
    before : {x y : ℕ} → x ≤ k → k < y → x < y
    before e f = omega arith

    in_there : k < length b.log.entered
    in_there = g.entered (omega (arith, s.second, s.third))

    message : get_or b.log.entered k no_message ≡ m
    message =
        ap (λ (l : List Message). get_or l k no_message) i.ab.filling.entered_is
        ∙ get_or-take (length b.log.entered) a.host.accepted k no_message in_there
        ∙ g.message

-- the bound is the same for both directions
bound_is : (d : Direction) (D E : ℕ) → bound (ahead d D E) (home d D E) ≡ bound D E
bound_is a_to_b D E = refl
bound_is b_to_a D E = omega arith

pub delivered : Delivered
delivered d D E es w is idle v h q x step_is fs clean enough y y-is =
    subst
    (λ (y : World). Landed (length (near d w).host.accepted) (message_written v (near d w).host) (near d y) (far d y))
    (sym y-is)
    (lands g.cells.inv s (near_shows d (run D E fs x) shows) g.prog
    (late (in_time n (ahead d D E) (home d D E)) (bound_is d D E) enough g.long))
  where
    kept : Kept D E w
    kept = subst (λ (w : World). Kept D E w) (sym is) (run_kept D E es reset_world (reset_kept D E))

    k : Seen d D E w
    k = seen d kept

    shows : BothShow (run D E fs x)
    shows =
        subst (λ (x : World). BothShow (run D E fs x)) (sym step_is)
        (run_shows D E fs _ (step_kept D E (at_near d (write 2308 v h)) w kept)
        (step_shows D E (at_near d (write 2308 v h)) w kept
        (subst (λ (w : World). BothShow w) (sym is) (run_shows D E es reset_world (reset_kept D E) reset_shows))))

    n : ℕ
    n = length k.cn

    t₁ : ℕ
    t₁ = first n (ahead d D E) (home d D E)

    t₂ : ℕ
    t₂ = second n (ahead d D E) (home d D E)

    t₃ : ℕ
    t₃ = third n (ahead d D E) (home d D E)

    s : Schedule n (ahead d D E) (home d D E) t₁ t₂ t₃
    s = schedule n (ahead d D E) (home d D E)

    g : Going D E (length (near d w).host.accepted) n t₁ t₂ t₃ (message_written v (near d w).host) d (run D E fs x)
        (slots fs + n)
    g =
        run_going D E (length (near d w).host.accepted) n t₁ t₂ t₃ (message_written v (near d w).host) d s fs x n
        clean
        (begin_going d w k s idle v h q x step_is)

    late : {t b c j : ℕ} → t < b + n → b ≡ c → c ≤ slots fs → slots fs + n ≡ j → t < j
    late a b c d = omega arith

pub sound_unmarked : (D E : ℕ) (es : List Event) (w : World) → w ≡ run D E es reset_world
    → unmarked D E (slot sound sound ∷ []) w ≡ true
unfolding every
sound_unmarked D E es w is =
    and-true _ _
    (and-true _ _ (sound_arrives (exchanged (both_sent k.inv))) (sound_arrives (both_sent k.inv))) refl
  where
    k : Kept D E w
    k = subst (λ (w : World). Kept D E w) (sym is) (run_kept D E es reset_world (reset_kept D E))
