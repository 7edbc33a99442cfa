-- Ends and blocks of every run have eight words of sixteen bits, and answer 1 meets no block.
--   Sound b        such a block
--   ShapedSide s   the end, and all that was sent
--   sends_shaped, takes_shaped, hosted_shaped   each step keeps it
--   run_shaped     so it is after every run
-- Assumes nothing.
use Prim.{tt}
use Prim.Native.Nat.{ℕ, zero, suc, ◌≤◌}
use mathlib.Core.Bool.{false}
use mathlib.Core.List.{List, [], ◌∷◌, map}
use mathlib.Core.Path.{refl, sym, subst}
use Rattle.laws.specs.Above.{above}
use Rattle.fibre.specs.declared.Block.{Block}
use Rattle.fibre.specs.Shape.{Eight, Shaped}
use Rattle.fibre.specs.Calls.{Call}
use Rattle.fibrelaws.proofs.Reached.{after_shaped, block_shaped, block_good}
use Rattle.joined.specs.Joined.{due, slot, at_a, at_b, run_by}
use Rattle.fibrelink.specs.Link.{Side, World, reset_side, sends, Access, hosted, Harm, sound, spoilt}
use Rattle.fibrelink.specs.Link.{harmed, taking, takes_from, Event, step, run}
use Rattle.fibrelink.proofs.Flight.{All}
use Rattle.fibrelink.proofs.Steps.{takes_spoilt}

abbrev pub Sound : Block → Type 0
Sound b = Eight b.words × (b.control ≤ 4095)

pub record ShapedSide (s : Side) : Type 0 where
  pub end : Shaped s.end
  pub sent : All Sound s.sent

pub reset_shaped : ShapedSide reset_side
unfolding above
reset_shaped = record {
  end = record { transmit = (refl, refl); sent = (refl, refl); receive = (refl, refl) };
  sent = tt;
}

pub sends_shaped : (s : Side) → ShapedSide s → ShapedSide (sends s)
sends_shaped s h = record {
  end = after_shaped Call.send s.end tt h.end;
  sent = ((block_shaped s.end h.end, block_good s.end), h.sent);
}

pub all_due : (P : Block → Type 0) (d : ℕ) (l : List Block) → All P l → All P (due d l)
all_due P zero [] a = tt
all_due P zero (x ∷ l) a = (a.0, tt)
all_due P (suc d) [] a = tt
all_due P (suc d) (x ∷ l) a = all_due P d l a.1

arriving_shaped : (h : Harm) (l : List Block) (s : Side) → All Sound l → ShapedSide s
    → ShapedSide (taking (map (harmed h) l) s)
unfolding taking
arriving_shaped h [] s a k = k
arriving_shaped sound (b ∷ l) s a k =
    record { end = after_shaped (Call.take false b) s.end a.0.0 k.end; sent = k.sent }
arriving_shaped (spoilt c) (b ∷ l) s a k = subst ShapedSide (sym (takes_spoilt s c)) k

pub takes_shaped : (d : ℕ) (h : Harm) (other s : Side) → ShapedSide other → ShapedSide s
    → ShapedSide (takes_from d h other s)
takes_shaped d h other s o k =
    arriving_shaped h (due d other.sent) s (all_due Sound d other.sent o.sent) k

pub hosted_shaped : (c : Access) (s : Side) → ShapedSide s → ShapedSide (hosted c s)
hosted_shaped (Access.read r) s h = record { end = after_shaped (Call.read r) s.end tt h.end; sent = h.sent }
hosted_shaped (Access.write r v b) s h = record {
  end = after_shaped (Call.write r v b) s.end tt h.end;
  sent = h.sent;
}

pub record BothShaped (w : World) : Type 0 where
  pub a : ShapedSide w.a
  pub b : ShapedSide w.b

pub step_shaped : (D E : ℕ) (e : Event) (w : World) → BothShaped w → BothShaped (step D E e w)
step_shaped D E (slot ha hb) w k =
    let a = sends_shaped w.a k.a in
    let b = sends_shaped w.b k.b in
    record {
      a = takes_shaped E ha (sends w.b) (sends w.a) b a;
      b = takes_shaped D hb (sends w.a) (sends w.b) a b;
    }
step_shaped D E (at_a c) w k = record { a = hosted_shaped c w.a k.a; b = k.b }
step_shaped D E (at_b c) w k = record { a = k.a; b = hosted_shaped c w.b k.b }

pub run_shaped : (D E : ℕ) (es : List Event) (w : World) → BothShaped w → BothShaped (run D E es w)
unfolding run_by
run_shaped D E [] w k = k
run_shaped D E (e ∷ es) w k = run_shaped D E es (step D E e w) (step_shaped D E e w k)
