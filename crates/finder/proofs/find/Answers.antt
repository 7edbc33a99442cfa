-- `finder::find` meets its contract: the part that it hands back stands in the caller's own list, at the place that
-- `place` says. Assumes nothing.
use Prim.Native.Nat.{◌+◌, ◌*◌, ◌≤◌}
use native.Mathlib.Omega.{arith}
use mathlib.Core.Bool.{true, false}
use mathlib.Core.Path.{◌≡◌, refl, ap, sym, ◌∙◌}
use borrow.Author.Rules.{rules}
use lib.Dec.{eqb}
use lib.ListN.{length}
use Rattle.answer.specs.Number.{number_of}
use Rattle.finder.specs.declared.Found.{Found}
use Rattle.finder.proofs.FinderLaws.{found_inside, found_part, found_nothing}
use Rattle.finder.proofs.find.Goals as goal
use Rattle.finder.proofs.find.Goals.{Then-eq, Else-eq}

-- what the comparison of answers says of the answer's number
is_done : (c : Then-eq) → eqb (number_of c.place-found.result.answer) 0 ≡ true
is_done c = let same : c.eq.result ≡ eqb (number_of c.place-found.result.answer) 0 = search rules in sym same ∙ c.if-eq.true

is_refusal : (c : Else-eq) → eqb (number_of c.place-found.result.answer) 0 ≡ false
is_refusal c = let same : c.eq.result ≡ eqb (number_of c.place-found.result.answer) 0 = search rules in sym same ∙ c.if-eq.false

-- where something was found, it ends within the list
inside : (c : Then-eq) → c.place-found.result.place + 12 ≤ length c.args.list.now
inside c = found_inside _ _ c.place-found.ensures (is_done c)

pub overflow_add-result : goal.overflow_add-result
overflow_add-result c = omega (arith, inside (goal.at.overflow_add-result c).Then-eq)

pub offset_bounds-list-found : goal.offset_bounds-list-found
offset_bounds-list-found c = omega (arith, inside (goal.at.offset_bounds-list-found c).Then-eq)

pub slice_bounds-result-end : goal.slice_bounds-result-end
slice_bounds-result-end c = inside (goal.at.slice_bounds-result-end c).Then-eq

pub returns-then-eq : goal.returns-then-eq
returns-then-eq c = record {
  contents = found_part _ _ c.place-found.ensures (is_done (goal.at.returns-then-eq c).Then-eq);
  block = refl;
  offset = ap (λ (f : Found). f.place * 2 + c.args.list.ref_ptr.1) c.place-found.ensures;
}

pub returns-else-eq : goal.returns-else-eq
returns-else-eq c =
    let r = found_nothing _ _ c.place-found.ensures (is_refusal (goal.at.returns-else-eq c).Else-eq) in record {
      contents = r.0;
      block = refl;
      offset = rw (← r.1) (omega arith);
    }
