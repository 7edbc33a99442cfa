-- `text::words::past_spaces` meets its contract: the spaces passed, and those from the place on, are those of the line.
-- Assumes nothing.
use native.Mathlib.Omega.{arith}
use Rattle.text.proofs.WordLaws.{spaces_more, spaces_stop, spaces_end}
use Rattle.text.proofs.words.past_spaces.Goals as goal

pub loop-at-init : goal.loop-at-init
loop-at-init c = (omega arith, omega arith)

pub returns-then-line-at-ne32 : goal.returns-then-line-at-ne32
returns-then-line-at-ne32 c =
    let l = c.loop-at in
    let s = c.args in
    let none = spaces_stop s.line.now l.at (omega arith) c.if-line-at-ne32.true in
    record { in_bounds = omega arith; value = omega arith }

pub loop-at-preserved : goal.loop-at-preserved
loop-at-preserved c =
    let l = c.loop-at in
    let s = c.args in
    (omega arith, spaces_more s.line.now l.at _ (omega arith) c.if-line-at-ne32.false l.invariant.1)

pub returns : goal.returns
returns c =
    let l = c.loop-at in
    let s = c.args in
    let none = spaces_end s.line.now l.at (omega arith) in
    record { in_bounds = omega arith; value = omega arith }
