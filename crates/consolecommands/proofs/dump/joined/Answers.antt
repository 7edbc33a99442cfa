-- `consolecommands::dump::joined` meets its contract. Assumes nothing.
use Rattle.std.proofs.Common.{[], ◌∷◌, ◌++◌, sym, ◌∙◌, arith}
use Rattle.std.proofs.lemmas.List.{append-nil}
use Rattle.text.specs.Printed.{short_of}
use Rattle.consolecommands.proofs.DumpLaws.{elements_none, elements_one, elements_more, joined_more}
use Rattle.consolecommands.proofs.dump.joined.Goals as goal

pub returns-then-elements-eq0-clause-written : goal.returns-then-elements-eq0-clause-written
returns-then-elements-eq0-clause-written g c =
    ([], elements_none _ _ (sym c.elements-elements.ensures.value ∙ c.if-elements-eq0.true), sym (append-nil _))

pub loop-i-init : goal.loop-i-init
loop-i-init g c = (
  omega arith,
  c.short_hex.ensures.kept,
  (short_of 16 4 c.value.result, elements_one _ _ c.value.ensures, c.short_hex.ensures.written),
)

pub loop-i-preserved : goal.loop-i-preserved
loop-i-preserved g c =
    let (low, (same, room), (text, shown, written)) = c.loop-i.invariant in (
      omega arith,
      (cc, cc),
      (
        text ++ (44 ∷ short_of 16 4 c.value-in-loop-i.result),
        elements_more _ _ text c.value-in-loop-i.result (omega arith) shown c.value-in-loop-i.ensures,
        joined_more _ _ _ _ text (short_of 16 4 c.value-in-loop-i.result) 44 written c.byte.ensures.written c.short_hex-in-loop-i.ensures.written,
      ),
    )
