-- `taking::settle` meets its contract. The register at the known test is the definition at it. Assumes nothing.
use mathlib.Core.Bool.{Bool}
use mathlib.Core.Path.{sym, ap}
use Rattle.receiver.specs.Receiving.{settle}
use Rattle.receiver.proofs.taking.settle.Goals as goal

pub returns-then-releases : goal.returns-then-releases
returns-then-releases c =
    let a = c.args in
    ap (λ (r : Bool). settle r a.last.toggle a.inbox) (sym c.if-releases.true)

pub returns : goal.returns
returns c =
    let a = c.args in
    ap (λ (r : Bool). settle r a.last.toggle a.inbox) (sym c.if-releases.false)
