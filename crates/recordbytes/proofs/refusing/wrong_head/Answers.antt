-- `refusing::wrong_head` meets its contract: each test is one of the definition.
-- Assumes nothing.
use mathlib.Core.Path.{refl}
use native.Mathlib.Omega.{arith}
use Rattle.recordspec.proofs.Refusing.{head_length, head_said, head_version}
use Rattle.recordbytes.proofs.refusing.wrong_head.Goals as goal

pub returns-then-area-version : goal.returns-then-area-version
returns-then-area-version c = head_length _ _ _ c.if-area-version.true

pub returns-then-from-version : goal.returns-then-from-version
returns-then-from-version c =
    head_said _ _ _ c.if-area-version.false refl refl (λ e. c.if-from-version.true (omega arith))

pub returns : goal.returns
returns c = head_version _ _ _ c.if-area-version.false refl refl (omega arith)
