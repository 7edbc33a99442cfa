-- `frame::reason_of` meets its contract: the first fault of the symbols still to come is the whole's. Assumes nothing.
use mathlib.Core.Bool.{Bool, true, false, cond}
use mathlib.Core.Path.{◌≡◌, refl, ap, sym, ◌∙◌}
use borrow.Author.Rules.{rules}
use Rattle.frame.specs.declared.reason.Reason.TheVariants.{Accepted, Crc}
use Rattle.frame.specs.Reason.{reason_of}
use Rattle.frame.proofs.ReasonLaws.{by_crc, fault_here, fault_next, fault_end}
use Rattle.frame.proofs.reason_of.Goals as goal
use Rattle.frame.proofs.reason_of.Goals.{After-crc_right}

pub loop-place-init : goal.loop-place-init
unfolding reason_of
loop-place-init c = refl

pub loop-place-preserved : goal.loop-place-preserved
loop-place-preserved c =
    let at = c.loop-place in
    let symbols = c.args.symbols in
    let right = sym c.right_at.ensures ∙ c.if-not-right_at.false in
    fault_next symbols at.place (search rules) (by_crc symbols) right ∙ at.invariant

pub returns-then-not-right_at : goal.returns-then-not-right_at
returns-then-not-right_at c =
    let at = c.loop-place in
    let symbols = c.args.symbols in
    let wrong = sym c.right_at.ensures ∙ c.if-not-right_at.true in
    c.fault_at.ensures ∙ sym (fault_here symbols at.place (search rules) (by_crc symbols) wrong) ∙ at.invariant

-- all twelve are right: the CRC decides
decided : (b : Bool) (c : After-crc_right) → c.crc_right.result ≡ b
    → cond b Accepted Crc ≡ reason_of c.args.symbols
decided b c r =
    let at = c.loop-place in
    let symbols = c.args.symbols in
    ap (λ (b : Bool). cond b Accepted Crc) (sym r ∙ c.crc_right.ensures)
    ∙ sym (fault_end symbols at.place (by_crc symbols) (search rules))
    ∙ at.invariant

pub returns-then-crc_right : goal.returns-then-crc_right
returns-then-crc_right c = decided true (goal.at.returns-then-crc_right c).After-crc_right c.if-crc_right.true

pub returns-else-crc_right : goal.returns-else-crc_right
returns-else-crc_right c = decided false (goal.at.returns-else-crc_right c).After-crc_right c.if-crc_right.false
