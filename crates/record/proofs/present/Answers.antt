-- `present` meets its contract: it is refused, or the call on the end that was read.
-- Assumes nothing.
use Prim.Native.Nat.{ℕ}
use mathlib.Core.Path.{◌≡◌, ap, ◌∙◌}
use borrow.Author.Rules.{rules}
use Rattle.answer.specs.declared.Answer.TheVariants.{Done}
use Rattle.end.specs.declared.End.{End}
use Rattle.end.specs.Good.{present_of}
use Rattle.recordspec.specs.Record.{flag}
use Rattle.recordspec.specs.Results.{presenting}
use Rattle.record.specs.declared.Reply.{Reply}
use Rattle.record.proofs.Gave.{refused_reply, good_reply}
use Rattle.record.proofs.present.Goals as goal

abbrev answered : ℕ → Reply
answered v = record { answer = Done; value = v }

pub returns-in_default : goal.returns-in_default
returns-in_default c = refused_reply presenting _ c.in_default.ensures

pub returns : goal.returns
returns c =
    let value : c.from.result ≡ flag (present_of c.in-Some.end) = search rules in
    ap answered (value ∙ ap (λ (e : End). flag (present_of e)) c.in-Some.ensures.1)
    ∙ good_reply presenting _ c.in-Some.ensures.0
