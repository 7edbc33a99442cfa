-- `taking::enter` meets its contract. The register at the known test is the definition at it. Assumes nothing.
use mathlib.Core.Bool.{Bool}
use mathlib.Core.Path.{ap, ◌∙◌}
use Rattle.receiver.specs.Receiving.{enters, entered}
use Rattle.receiver.specs.declared.Heard.{Heard}
use Rattle.laws.proofs.Bools.{hence}
use Rattle.receiver.proofs.taking.enter.Goals as goal

pub returns-then-enters : goal.returns-then-enters
returns-then-enters c =
    let a = c.args in
    let t = c in
    let s = ap (λ (h : Heard). enters a.accepted h a.inbox) t.said_by-said.ensures in
    rw (c.message_of-bytes.ensures, t.said_by-said.ensures)
    (ap (λ (b : Bool). entered b a.symbols a.inbox) (hence t.if-enters.true (t.enters.ensures ∙ s)))

pub returns : goal.returns
returns c =
    let a = c.args in
    let t = c in
    let s = ap (λ (h : Heard). enters a.accepted h a.inbox) t.said_by-said.ensures in
    ap (λ (b : Bool). entered b a.symbols a.inbox) (hence t.if-enters.false (t.enters.ensures ∙ s))
