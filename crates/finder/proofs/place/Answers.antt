-- `finder::place` meets its contract: no place before the present one passes, and SearchLaws says what the inner
-- loop keeps of the twelve symbols there, and which places a fault rules out. Assumes nothing.
use native.Mathlib.Omega.{arith}
use mathlib.Core.Bool.{true, true≢false}
use mathlib.Core.Path.{refl, ap, sym, ◌∙◌}
use borrow.Author.Count.{below_none}
use borrow.Author.Rules.{rules}
use Rattle.finder.proofs.SearchLaws.{none_more, matching_start, matching_more}
use Rattle.finder.proofs.SearchLaws.{passes_crc, crc_rules_out}
use Rattle.finder.proofs.FaultLaws.{fault_rules_out}
use Rattle.finder.proofs.SearchLaws.{place_length, place_above, place_nowhere, place_found}
use Rattle.answer.specs.declared.Answer.TheVariants.{Done}
use Rattle.finder.proofs.place.Goals.{else-places-test, then-places-test+else-loop-k-test+then-crc_right}
use Rattle.finder.proofs.place.Goals as goal

pub returns-then-list-gt-LIMIT : goal.returns-then-list-gt-LIMIT
returns-then-list-gt-LIMIT c = place_length c.args.list.now c.if-list-gt-LIMIT.true

pub returns-then-above : goal.returns-then-above
returns-then-above c = place_above c.args.list.now c.if-list-gt-LIMIT.false (sym c.above.ensures ∙ c.if-above.true)

pub places-init : goal.places-init
places-init c = (search rules, refl, refl, below_none _)

pub loop-k-init : goal.loop-k-init
loop-k-init c = (
  refl,
  omega arith,
  c.places.invariant.3,
  matching_start c.args.list.now c.places.at
      (omega arith) c.places.symbols _ (omega arith) c.places.invariant.1,
)

pub loop-k-preserved : goal.loop-k-preserved
loop-k-preserved c =
    let here = c.loop-k in
    let list = c.args.list.now in (
      here.invariant.0,
      here.invariant.1,
      here.invariant.2,
      matching_more list here.at here.invariant.1 here.symbols here.k (search rules) (search rules)
          here.invariant.3
          (sym c.stands.ensures ∙ c.if-not-stands.false),
    )

pub places-preserved-then-not-stands : goal.places-preserved-then-not-stands
places-preserved-then-not-stands c =
    let here = c.loop-k in
    let out =
    fault_rules_out _ here.at here.invariant.1 here.symbols here.k (search rules) (search rules) here.invariant.3
    (sym c.stands.ensures ∙ c.if-not-stands.true) _ c.ruled_out-at.ensures in (
      omega (arith, out.2),
      here.invariant.3.room,
      c.places.invariant.2,
      none_more _ here.at _ here.invariant.2 out.0,
    )

pub places-preserved : goal.places-preserved
places-preserved c =
    let here = c.loop-k in
    let list = c.args.list.now in (
      omega arith,
      here.invariant.3.room,
      c.places.invariant.2,
      none_more list here.at 12 here.invariant.2
          (crc_rules_out list here.at here.invariant.1 here.symbols here.k (omega arith) here.invariant.3
          (sym c.crc_right.ensures ∙ c.if-crc_right.false)),
    )

pub returns-then-found : goal.returns-then-found
returns-then-found c =
    let list = c.args.list.now in
    elim c.places-test.branch [
      | else-places-test w ↦ absurd (true≢false (sym c.if-found.true ∙ w.found-is ∙ c.places.invariant.2))
      | then-places-test+else-loop-k-test+then-crc_right w ↦
          ap (λ k. record { answer = Done; place = k }) w.at-is
          ∙ place_found list c.if-list-gt-LIMIT.false w.loop-k.at (sym c.above.ensures ∙ c.if-above.false)
          w.loop-k.invariant.2
          (passes_crc list w.loop-k.at w.loop-k.invariant.1 w.loop-k.symbols w.loop-k.k true (omega arith)
          w.loop-k.invariant.3 (sym w.crc_right.ensures ∙ w.if-crc_right.true))
    ]

pub returns-else-found : goal.returns-else-found
returns-else-found c =
    let list = c.args.list.now in
    elim c.places-test.branch [
      | else-places-test w ↦
          place_nowhere list c.if-list-gt-LIMIT.false c.places.at (sym c.above.ensures ∙ c.if-above.false)
          c.places.invariant.3 (omega (arith, w.places-test.false))
      | then-places-test+else-loop-k-test+then-crc_right w ↦
          absurd (true≢false (sym w.found-is ∙ c.if-found.false))
    ]
