-- `consolecommands::dump::dumped` meets its contract. Assumes nothing.
use Rattle.std.proofs.Common.{[], ap, arith, refl, sym, ◌∙◌}
use Rattle.std.proofs.lemmas.List.{append-nil}
use Rattle.consolecommands.proofs.DumpLaws.{dump_all, dump_end, dump_more, field_joined, room_here}
use Rattle.consolecommands.specs.Dump.{dump_room}
use Rattle.consolecommands.proofs.dump.dumped.Goals as goal

pub loop-i-init : goal.loop-i-init
loop-i-init g c = (omega (arith, ap (dump_room g.F.Field.name_of g.F.Field.elements_of) c.all-fields.ensures.value), (refl, refl), λ rest h. (rest, h, refl))

pub joined-requires-clause-space : goal.joined-requires-clause-space
joined-requires-clause-space g c =
    let (low, (same, room), whole) = c.loop-i.invariant in
    omega (arith, room_here g.F.Field.name_of g.F.Field.elements_of c.all-fields.result.now c.loop-i.i c.index-fields-i.result c.name.result.now c.loop-i-test.true c.index-fields-i.is c.name.ensures.value)

pub loop-i-preserved : goal.loop-i-preserved
loop-i-preserved g c =
    let (low, (same, room), whole) = c.loop-i.invariant in
    let (elements, shown, written) = c.joined.ensures.written in (
      omega (arith, room_here g.F.Field.name_of g.F.Field.elements_of c.all-fields.result.now c.loop-i.i c.index-fields-i.result c.name.result.now c.loop-i-test.true c.index-fields-i.is c.name.ensures.value),
      (cc, cc),
      λ rest h.
          let (text, all, printed) = whole _ (dump_more _ _ _ c.all-fields.result.now c.loop-i.i c.index-fields-i.result elements rest c.loop-i-test.true c.index-fields-i.is shown h) in
          (text, all, field_joined _ _ _ _ _ _ _ elements rest 61 _ c.name.ensures.value c.text.ensures.written c.byte.ensures.written written c.closing.ensures.written ∙ printed),
    )

pub returns : goal.returns
returns g c =
    let (low, kept, whole) = c.loop-i.invariant in
    let (text, all, printed) = whole [] (dump_end _ _ _ c.all-fields.result.now c.loop-i.i c.loop-i-test.false) in
    record {
      kept = kept;
      written = (text, dump_all _ _ _ _ _ text c.all-fields.ensures.value all, sym (append-nil _) ∙ printed);
    }
