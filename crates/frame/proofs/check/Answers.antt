-- `frame::check` meets its contract: the list is refused, or its reason says which answer is given. Assumes nothing.
use mathlib.Core.Bool.{Bool, true, false, cond}
use mathlib.Core.Path.{◌≡◌, ap, sym, ◌∙◌}
use Rattle.answer.specs.declared.Answer.TheVariants.{Done, NotAcceptable}
use Rattle.frame.specs.Reason.{is_accepted, checked_of}
use Rattle.frame.proofs.ReasonLaws.{check_length, check_above, check_reason}
use Rattle.frame.proofs.check.Goals as goal
use Rattle.frame.proofs.check.Goals.{After-is_accepted}

pub returns-in_default : goal.returns-in_default
returns-in_default c = check_length c.args.list.now c.in_default.ensures.1

pub returns-then-above : goal.returns-then-above
returns-then-above c =
    let whole = c.in-Ok.ensures.1 in
    check_above c.args.list.now whole.long (rw whole.same at (sym c.above.ensures ∙ c.if-above.true))

-- twelve symbols, none above the largest: the reason decides
decided : (b : Bool) (c : After-is_accepted) → c.is_accepted.result ≡ b
    → record { answer = cond b Done NotAcceptable; reason = c.reason_of-reason.result }
    ≡ checked_of c.args.list.now
decided b c r =
    let whole = c.in-Ok.ensures.1 in
    let e = rw whole.same at c.reason_of-reason.ensures in
    check_reason c.args.list.now b _ whole.long (rw whole.same at (sym c.above.ensures ∙ c.if-above.false)) e
    (sym (ap is_accepted e) ∙ (sym c.is_accepted.ensures ∙ r))

pub returns-then-is_accepted : goal.returns-then-is_accepted
returns-then-is_accepted c = decided true (goal.at.returns-then-is_accepted c).After-is_accepted c.if-is_accepted.true

pub returns-else-is_accepted : goal.returns-else-is_accepted
returns-else-is_accepted c = decided false (goal.at.returns-else-is_accepted c).After-is_accepted c.if-is_accepted.false
