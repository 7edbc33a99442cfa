-- No call leads from an end that answer 1 does not meet to one that it meets.
--   Limits, Good e   the ten numbers and arrays that answer 1 looks at, each within its limit (of crate end)
--   good, good_not   an end is Good exactly when answer 1 does not meet it
--   left_below       presence stays within its limit
--   reset_good, after_good, calls_good, reached_good, reached_shaped
-- Assumes nothing.
use Prim.Native.Nat.{ℕ, ◌≤◌, ◌+◌, ◌/◌, ◌%◌}
use mathlib.Core.Bool.{Bool, true, false, cond}
use mathlib.Core.List.{List, [], ◌∷◌}
use mathlib.Core.Path.{◌≡◌, refl}
use native.Mathlib.Nat.{le_of_suc-le-suc}
use native.Mathlib.Omega.{arith}
use lib.Dec.{eqb}
use lib.ListN.{get_or}
use borrow.Author.Tests.{le-ltb, leb-false, eqb-false}
use Rattle.frame.proofs.FrameLaws.{build_below}
use Rattle.frame.specs.Frame.{build}
use Rattle.end.specs.declared.End.{End}
use Rattle.receiver.specs.declared.Collector.{Collector}
use Rattle.laws.specs.Above.{above}
use Rattle.end.specs.Good.{bad, reset_of}
use Rattle.receiver.specs.Presence.{lasting, left_after}
use Rattle.end.specs.Sending.{frame_start, started, slot_of, moved_on}
use Rattle.receiver.specs.Receiving.{placed, count_with, accepts}
use Rattle.end.specs.Taking.{taken}
use Rattle.end.specs.Registers.{written}
pub use Rattle.end.proofs.Laws.{Limits, Good, good}
use Rattle.end.specs.Calls.{Call, after, calls, reached}
use Rattle.end.specs.Shape.{Shaped}
use Rattle.laws.proofs.Bools.{either, or_none}
use Rattle.laws.proofs.AboveLaws.{above_from, above_set}
use Rattle.endlaws.proofs.Done.{after_keeps}
use Rattle.endlaws.proofs.Shapes.{placed_keeps, counted_keeps, enters_now, after_shaped}
use Rattle.end.proofs.Guards.{reset_shaped}

pub good_not : (e : End) → Good e → bad e ≡ false
unfolding bad
good_not e g =
    or_none _ _ (le-ltb _ _ g.position)
    (or_none _ _ (le-ltb _ _ g.count)
    (or_none _ _ g.sending
    (or_none _ _ g.collecting
    (or_none _ _ (le-ltb _ _ g.health)
    (or_none _ _ (le-ltb _ _ g.loaded)
    (or_none _ _ (le-ltb _ _ g.partner) (or_none _ _ (le-ltb _ _ g.number)
    (or_none _ _ (le-ltb _ _ g.number_in) (le-ltb _ _ g.presence)))))))))

pub reset_good : bad reset_of ≡ false
unfolding bad above
reset_good = refl

next_position : (p : ℕ) → p ≤ 11 → cond (eqb p 11) 0 (p + 1) ≤ 11
next_position p h =
    either (λ (n : ℕ). n ≤ 11) (eqb p 11) 0 (p + 1) (λ _. omega arith) (λ t. omega (arith, eqb-false p 11 t))

moved_good : (e : End) → Good e → Good (moved_on e)
moved_good e g = search next_position

built_below : (l : List ℕ) → above 511 (build l) ≡ false
built_below l = above_from 511 (build l) (λ i. le_of_suc-le-suc (build_below l i))

start_good : (n : Bool) (e : End) → Good e → Good (started n e)
unfolding frame_start
start_good true e g = search built_below
start_good false e g = g

counted_below : (s : ℕ) (c : Collector) → c.count ≤ 11 → count_with s c ≤ 11
counted_below s c h = counted_keeps (λ (n : ℕ). n ≤ 11) s c (omega arith) (omega arith) (λ n. omega arith)

pub placed_below : (s : ℕ) (c : Collector) → above 511 c.symbols ≡ false → above 511 (placed s c) ≡ false
placed_below s c h =
    placed_keeps (λ (l : List ℕ). above 511 l ≡ false) s c h
    (λ i m. above_set 511 c.symbols i s (omega (arith, leb-false 512 s m)) h)

four_below : (n : ℕ) → n % 4 ≤ 3
four_below n = omega arith

sixteen_below : (n : ℕ) → n % 16 ≤ 15
sixteen_below n = omega arith

pub left_below : (a : Bool) (n : ℕ) → n ≤ lasting → left_after a n ≤ lasting
left_below true n h = omega arith
left_below false n h = omega arith

taken_good : (s : ℕ) (e : End) → Good e → Good (taken s e)
unfolding taken
taken_good s e g =
    let partner =
    either (λ (n : ℕ). n ≤ 3) (accepts s e.collector) _ e.heard.health
    (λ _. four_below (get_or (placed s e.collector) 0 0)) (λ _. g.partner) in
    let got =
    either (λ (n : ℕ). n ≤ 15) (enters_now s e) _ e.inbox.number
    (λ _. sixteen_below (get_or (placed s e.collector) 1 0)) (λ _. g.number_in) in
    search (counted_below, placed_below, left_below)

written_good : (e : End) (r v : ℕ) → Good e → Good (written e r v)
written_good e r v g =
    let number =
    either (λ (n : ℕ). n ≤ 15) (eqb r 2308) _ e.outbox.number
    (λ _. either (λ (n : ℕ). n ≤ 15) e.outbox.pending e.outbox.number _ (λ _. g.number)
    (λ _. sixteen_below (v / 256)))
    (λ _. g.number) in
    search

pub after_good : (c : Call) (e : End) → bad e ≡ false → bad (after c e) ≡ false
after_good c e h =
    good_not (after c e)
    (after_keeps Good e
    (λ _. record {
      sent = moved_good (slot_of e) (start_good (eqb e.sender.position 0) e (good e h));
      took = λ s _. taken_good s e (good e h);
      got = λ r. good e h;
      wrote = λ r v _. written_good e r v (good e h);
      set = λ x k. let g = good e h in search;
    })
    (good e h) c)

-- Reached ends

pub calls_good : (cs : List Call) (e : End) → bad e ≡ false → bad (calls cs e) ≡ false
unfolding calls
calls_good [] e h = h
calls_good (c ∷ cs) e h = calls_good cs (after c e) (after_good c e h)

pub calls_shaped : (cs : List Call) (e : End) → Shaped e → Shaped (calls cs e)
unfolding calls
calls_shaped [] e h = h
calls_shaped (c ∷ cs) e h = calls_shaped cs (after c e) (after_shaped c e h)

pub reached_good : (cs : List Call) → bad (reached cs) ≡ false
unfolding reached
reached_good cs = calls_good cs reset_of reset_good

pub reached_shaped : (cs : List Call) → Shaped (reached cs)
unfolding reached
reached_shaped cs = calls_shaped cs reset_of reset_shaped
