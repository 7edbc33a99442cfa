-- Each area holds the record of the end that the same run leads to.
--   Holds          an area and a side, with what a record needs to be read back
--   call_is        a call on the area's bytes is the call on the end
--   hosted_holds, sends_holds, taking_holds   each step keeps it
--   BothHold, started_hold, step_hold, run_hold   both areas, from reset on
--   ruled_same, unmarked_same   the rule and the marks of a run are those of the ends
--   mirrored       the statement of specs/Demand.antt
-- Assumes nothing.
use Prim.Native.Nat.{ℕ}
use mathlib.Core.Bool.{false, ◌&&◌}
use mathlib.Core.List.{List, [], ◌∷◌}
use mathlib.Core.Path.{◌≡◌, refl, sym, ap, ◌∙◌, subst}
use lib.ListN.{length}
use Rattle.end.specs.Good.{bad}
use Rattle.end.specs.Calls.{Call, after}
use Rattle.end.specs.Shape.{Shaped}
use Rattle.end.proofs.Guards.{reset_shaped}
use Rattle.endlaws.proofs.Goods.{after_good, reset_good}
use Rattle.endlaws.proofs.Shapes.{after_shaped}
use Rattle.recordspec.specs.Record.{size, record_of, end_of}
use Rattle.recordspec.specs.Results.{result}
use Rattle.recordspec.proofs.Written.{read_back}
use Rattle.record.specs.Calls.{Called, stored}
use Rattle.record.specs.Runs.{called}
use Rattle.record.proofs.Through.{through_end, reset_record}
use Rattle.link.specs.Link as ends
use Rattle.link.specs.Link.{Side, World, Direction, Access, read, write, health, present, Host, Log}
use Rattle.link.specs.Link.{did_read, read_log, accepts, stores, wrote, sent_log, arriving, enters_now, entering, message_in}
use Rattle.link.specs.Link.{Event, slot}
use Rattle.link.specs.Link.{at_a, at_b, reset_side, reset_world}
use Rattle.link.specs.Link.{run_by, every, ruled_step}
use Rattle.link.specs.Demand as demand
use Rattle.link.specs.Demand.{unmarked_step}
use Rattle.recordlink.specs.Joined.{Area, Areas, started, both_started, done, hosted, sends, taking, step}
use Rattle.recordlink.specs.Joined.{run, ruled, unmarked}
use Rattle.recordlink.specs.Demand.{RecordsOf, Mirrored}

pub record Holds (x : Area) (s : Side) : Type 0 where
  pub same : RecordsOf x s
  pub shaped : Shaped s.end
  pub good : bad s.end ≡ false

module _ {x : Area} {s : Side} (h : Holds x s) where
  pub call_is : (c : Call) → called c x.bytes ≡ stored (result c s.end)
  call_is c = ap (λ (r : List ℕ). called c r) h.same.bytes ∙ through_end (result c) s.end h.shaped h.good

  pub end_is : end_of x.bytes ≡ s.end
  end_is = ap end_of h.same.bytes ∙ read_back s.end h.shaped

  -- the record after a call
  record_is : (c : Call) → (called c x.bytes).bytes ≡ record_of (result c s.end).end
  record_is c = ap (λ (k : Called). k.bytes) (call_is c)

  -- bytes, host and log change
  by_call : (c : Call) (k l : Host) (f g : Log) → (result c s.end).end ≡ after c s.end → k ≡ l → f ≡ g
      → Holds (record { bytes = (called c x.bytes).bytes; sent = x.sent; host = k; log = f })
      (record { end = after c s.end; sent = s.sent; host = l; log = g })
  by_call c k l f g e q p = record {
    same = record {
      bytes = record_is c ∙ ap record_of e;
      sent = h.same.sent;
      host = q;
      log = p;
    };
    shaped = after_shaped c s.end h.shaped;
    good = after_good c s.end h.good;
  }

  pub hosted_holds : (c : Access) → Holds (hosted c x) (ends.hosted c s)
  hosted_holds (read r) =
      by_call (Call.read r) _ _ _ _ refl
      (λ j. did_read r (call_is (Call.read r) j).reply.value (h.same.host j)) (λ j. read_log r (h.same.log j))
  hosted_holds (write r v l) =
      by_call (Call.write r v l) _ _ _ _ refl
      (λ j. wrote (accepts r v (done (call_is (Call.write r v l) j).reply))
      (stores r (done (call_is (Call.write r v l) j).reply)) r v (h.same.host j)) h.same.log
  hosted_holds (health k) = by_call (Call.health k) _ _ _ _ refl h.same.host h.same.log
  hosted_holds present = by_call Call.present _ _ _ _ refl h.same.host h.same.log

  pub sends_holds : Holds (sends x) (ends.sends s)
  sends_holds = record {
    same = record {
      bytes = record_is Call.send;
      sent = λ j. (call_is Call.send j).reply.value ∷ h.same.sent j;
      host = h.same.host;
      log = λ j. sent_log (end_is j) (h.same.log j);
    };
    shaped = after_shaped Call.send s.end h.shaped;
    good = after_good Call.send s.end h.good;
  }

  pub taking_holds : (l : List ℕ) → Holds (taking l x) (ends.taking l s)
  unfolding taking ends.taking
  taking_holds [] = h
  taking_holds (y ∷ l) = record {
    same = record {
      bytes = record_is (Call.take y);
      sent = h.same.sent;
      host = h.same.host;
      log = λ j. entering (enters_now y (end_is j)) (message_in (next_is j)) (h.same.log j);
    };
    shaped = after_shaped (Call.take y) s.end h.shaped;
    good = after_good (Call.take y) s.end h.good;
  }
    where
      next_is : end_of (called (Call.take y) x.bytes).bytes ≡ after (Call.take y) s.end
      next_is =
          ap end_of (record_is (Call.take y))
          ∙ read_back (after (Call.take y) s.end) (after_shaped (Call.take y) s.end h.shaped)

pub record BothHold (w : Areas) (v : World) : Type 0 where
  pub a : Holds w.a v.a
  pub b : Holds w.b v.b

started_holds : (r : List ℕ) → length r ≡ size → Holds (started r) reset_side
started_holds r h = record {
  same = record { bytes = ap (λ (c : Called). c.bytes) (reset_record r h); sent = refl; host = refl; log = refl };
  shaped = reset_shaped;
  good = reset_good;
}

pub started_hold : (p q : List ℕ) → length p ≡ size → length q ≡ size → BothHold (both_started p q) reset_world
started_hold p q h k = record { a = started_holds p h; b = started_holds q k }

-- what arrives is what the other side sent
arrives : {x : Area} {s : Side} (h : Holds x s) (d : ℕ) (m : ends.Harm)
    → arriving d m (sends x).sent ≡ arriving d m (ends.sends s).sent
arrives h d m = ap (λ (l : List ℕ). arriving d m l) (sends_holds h).same.sent

taking_as_lem : {x : Area} {s : Side} → Holds x s → (l k : List ℕ) → l ≡ k → Holds (taking l x) (ends.taking k s)
taking_as_lem {x} {s} h l k e = subst (λ (k : List ℕ). Holds (taking l x) (ends.taking k s)) e (taking_holds h l)

pub step_hold : (D E : ℕ) (e : Event) {w : Areas} {v : World} → BothHold w v
    → BothHold (step D E e w) (ends.step D E e v)
step_hold D E (slot ha hb) h = record {
  a = taking_as_lem (sends_holds h.a) _ _ (arrives h.b E ha);
  b = taking_as_lem (sends_holds h.b) _ _ (arrives h.a D hb);
}
step_hold D E (at_a c) h = record { a = hosted_holds h.a c; b = h.b }
step_hold D E (at_b c) h = record { a = h.a; b = hosted_holds h.b c }

pub run_hold : (D E : ℕ) (es : List Event) (w : Areas) (v : World) → BothHold w v
    → BothHold (run D E es w) (ends.run D E es v)
unfolding run_by
run_hold D E [] w v h = h
run_hold D E (e ∷ es) w v h = run_hold D E es (step D E e w) (ends.step D E e v) (step_hold D E e h)

-- The rule and the marks

pub ruled_same : (d : Direction) (D E : ℕ) (es : List Event) (w : Areas) (v : World) → BothHold w v
    → ruled d D E es w ≡ ends.ruled d D E es v
unfolding every
ruled_same d D E [] w v h = refl
ruled_same d D E (e ∷ es) w v h =
    λ j. ruled_step d e (h.a.same.host j) (h.b.same.host j)
    && ruled_same d D E es (step D E e w) (ends.step D E e v) (step_hold D E e h) j

pub unmarked_same : (D E : ℕ) (es : List Event) (w : Areas) (v : World) → BothHold w v
    → unmarked D E es w ≡ demand.unmarked D E es v
unfolding every
unmarked_same D E [] w v h = refl
unmarked_same D E (e ∷ es) w v h =
    λ j. unmarked_step D E e ((sends_holds h.a).same.sent j) ((sends_holds h.b).same.sent j)
    && unmarked_same D E es (step D E e w) (ends.step D E e v) (step_hold D E e h) j

pub mirrored : Mirrored
mirrored p q hp hq D E es w is =
    subst
    (λ (w : Areas). RecordsOf w.a (ends.run D E es reset_world).a × RecordsOf w.b (ends.run D E es reset_world).b)
    (sym is) (h.a.same, h.b.same)
  where
    h : BothHold (run D E es (both_started p q)) (ends.run D E es reset_world)
    h = run_hold D E es (both_started p q) reset_world (started_hold p q hp hq)
