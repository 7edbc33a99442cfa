-- Blocks over every run of two reporting hosts.
--   reported     they are handed over as the first so many offered, each once and whole, at most two fewer
--   stated       what both hosts have of what was asked, accepted and taken
--   by_blocks    the same for hosts of any kind whose messages accepted are those of blocks
--   asked-*      no more is asked
-- Assumes nothing.
use Prim.Native.Nat.{ℕ, zero, suc, ◌-◌, ◌≤◌}
use mathlib.Core.Bool.{true}
use mathlib.Core.List.{List, [], ◌∷◌}
use mathlib.Core.Path.{◌≡◌, refl, sym, ap, subst, ◌∙◌}
use native.Mathlib.Omega.{arith}
use lib.Dec.{eqb}
use borrow.Author.Tests.{eqb-false}
use lib.ListN.{length, length-map}
use Rattle.laws.proofs.Bools.{either}
use Rattle.joined.specs.Joined.{Direction, a_to_b, b_to_a, near, far, slot, at_a, at_b, InTurn}
use Rattle.end.specs.Message.{Message}
use Rattle.link.specs.Link.{Side, taking}
use Rattle.link.specs.Link as link
use Rattle.link.specs.Demand.{most_held}
use Rattle.link.proofs.PartOne.{nothing_lost}
use Rattle.report.specs.declared.SendingHost.{SendingHost}
use Rattle.report.specs.Sending.{under_way}
use Rattle.report.specs.declared.TakingHost.{TakingHost}
use Rattle.report.specs.Taking.{fresh_taking}
use Rattle.reportblocks.specs.Blocks.{counting, message_of, given_by}
use Rattle.reportblocks.specs.Carried.{Stands, AllBlocks, Sends, most_missing}
use Rattle.reportblocks.proofs.Carried.{carried}
use Rattle.reportblocks.proofs.Taken.{part_stated}
use Rattle.reportlink.specs.Reporting.{Reporter, World, reset_world, Event, step, run, run_by, hosted}
use Rattle.reportlink.specs.Demand.{Reported, still, Has, Stated, ByBlocks}
use Rattle.reportlink.proofs.Accesses.{Follows, follow_none, follow_slot, follow_calls}
use Rattle.reportlink.proofs.Kept.{Keeps, keeps_reset, keeps_side}
use Rattle.reportlink.proofs.Hosting.{does}

-- a symbol that arrives is none of the host's business
taking_host : (l : List ℕ) (s : Side) → (taking l s).host ≡ s.host
unfolding taking
taking_host [] s = refl
taking_host (y ∷ l) s = refl

record Reached (D E : ℕ) (w : World) : Type 0 where
  follows : Follows D E w
  a : Keeps w.a
  b : Keeps w.b

module _ (D E : ℕ) where
  slot_keeps : (r : Reporter) (l : List ℕ) → Keeps r
      → Keeps (record {
        side = taking l (link.sends r.side);
        sending = r.sending;
        taking = r.taking;
        asked = r.asked;
        offered = r.offered;
        handed = r.handed;
      })
  slot_keeps r l k =
      let h = taking_host l (link.sends r.side) in
      keeps_side r (taking l (link.sends r.side)) k
      (ap (λ (x : link.Host). x.accepted) h) (ap (λ (x : link.Host). x.taken) h)
      (ap (λ (x : link.Host). length x.written) h)

  one : (e : Event) (w : World) → Reached D E w → Reached D E (step D E e w)
  one (slot ha hb) w r = record {
    follows = follow_slot D E w ha hb r.follows;
    a = slot_keeps w.a _ r.a;
    b = slot_keeps w.b _ r.b;
  }
  one (at_a c) w r =
      let d = does c w.a r.a in
      record {
        follows =
            follow_calls D E a_to_b d.made w (record { a = hosted c w.a; b = w.b }) r.follows d.ruled
            (ap (λ (x : Side). record { a = x; b = w.b.side }) d.same);
        a = d.keeps;
        b = r.b;
      }
  one (at_b c) w r =
      let d = does c w.b r.b in
      record {
        follows =
            follow_calls D E b_to_a d.made w (record { a = w.a; b = hosted c w.b }) r.follows d.ruled
            (ap (λ (x : Side). record { a = w.a.side; b = x }) d.same);
        a = r.a;
        b = d.keeps;
      }

  reached_from : (es : List Event) (w : World) → Reached D E w → Reached D E (run D E es w)
  unfolding run_by
  reached_from [] w r = r
  reached_from (e ∷ es) w r = reached_from es (step D E e w) (one e w r)

  reached : (es : List Event) → Reached D E (run D E es reset_world)
  reached es =
      reached_from es reset_world (record { follows = follow_none D E; a = keeps_reset; b = keeps_reset })

counted : (n k : ℕ) → length (counting k n) ≡ n
counted zero k = refl
counted (suc n) k = ap suc (counted n (suc k))

still_few : (h : SendingHost) → length (still h) ≤ 15
still_few h =
    either (λ (l : List Message). length l ≤ 15) (under_way h) _ _
    (λ _.
    either (λ (l : List Message). length l ≤ 15) (eqb h.next 0) _ _
    (λ _. omega arith)
    (λ z.
    few h.next _ (eqb-false h.next 0 z)
    (length-map (counting h.next (16 - h.next)) (message_of h.block) ∙ counted (16 - h.next) h.next)))
    (λ _. omega arith)
  where
    few : (n l : ℕ) → ¬ (n ≡ 0) → l ≡ 16 - n → l ≤ 15
    few n l z e = omega arith

pub reported : Reported
reported d D E es w e = subst (λ (x : World). InTurn most_missing (near d x).offered (far d x).handed) (sym e) (go d)
  where
    r : Reached D E (run D E es reset_world)
    r = reached D E es

    both : (n f : Reporter) → Keeps n → Keeps f → InTurn most_held n.side.host.accepted f.side.host.taken
        → InTurn most_missing n.offered f.handed
    both n f kn kf t =
        subst (λ (l : List (List ℕ)). InTurn most_missing n.offered l) (sym kf.has.handed)
        (carried n.offered n.side.host.accepted f.side.host.taken kn.blocks
        (record { rest = still n.sending; whole = kn.has.accepted; begun = still_few n.sending }) t)

    go : (d : Direction)
        → InTurn most_missing (near d (run D E es reset_world)).offered (far d (run D E es reset_world)).handed
    go a_to_b =
        both (run D E es reset_world).a (run D E es reset_world).b r.a r.b
        (nothing_lost a_to_b D E r.follows.events (r.follows.ruled a_to_b) _ (sym r.follows.same))
    go b_to_a =
        both (run D E es reset_world).b (run D E es reset_world).a r.b r.a
        (nothing_lost b_to_a D E r.follows.events (r.follows.ruled b_to_a) _ (sym r.follows.same))

-- the part block
stands : (r : Reporter) → Has r → Stands r.taking r.side.host.taken
stands r h =
    subst (λ (t : TakingHost). Stands t r.side.host.taken) (sym h.taking)
    (part_stated r.side.host.taken h.eight)

pub stated : Stated
stated d D E es w e =
    subst (λ (x : World). (Has (near d x) × Has (far d x)) × Stands (far d x).taking (far d x).side.host.taken) (sym e)
    (go d)
  where
    a : Has (run D E es reset_world).a
    a = (reached D E es).a.has

    b : Has (run D E es reset_world).b
    b = (reached D E es).b.has

    x : World
    x = run D E es reset_world

    go : (d : Direction) → (Has (near d x) × Has (far d x)) × Stands (far d x).taking (far d x).side.host.taken
    go a_to_b = ((a, b), stands x.b b)
    go b_to_a = ((b, a), stands x.a a)

pub by_blocks : ByBlocks
by_blocks offered bs d D E es h w e s = carried offered _ _ bs s (nothing_lost d D E es h w e)

-- No more is asked than any delays, any events and either direction

asked_back : Reported → (D E : ℕ) (es : List Event)
    → InTurn most_missing (run D E es reset_world).b.offered (run D E es reset_world).a.handed
asked_back r D E es = r b_to_a D E es (run D E es reset_world) refl

asked_forth : Reported → (D E : ℕ) (es : List Event)
    → InTurn most_missing (run D E es reset_world).a.offered (run D E es reset_world).b.handed
asked_forth r D E es = r a_to_b D E es (run D E es reset_world) refl

asked_blocks : ByBlocks → (offered : List (List ℕ)) → AllBlocks offered → (d : Direction) (D E : ℕ) (es : List link.Event)
    → link.ruled d D E es link.reset_world ≡ true
    → Sends offered (near d (link.run D E es link.reset_world)).host.accepted
    → InTurn most_missing offered (given_by fresh_taking (far d (link.run D E es link.reset_world)).host.taken)
asked_blocks b offered bs d D E es h s = b offered bs d D E es h (link.run D E es link.reset_world) refl s
