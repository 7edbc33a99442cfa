-- `SendingHost::offer` meets its contract. Each return knows whether a block is under way. Assumes nothing.
use mathlib.Core.Path.{sym}
use borrow.Author.Tests.{lt-ltb, le-ltb}
use Rattle.laws.proofs.Bools.{cond_true, cond_false}
use Rattle.report.specs.Sending.{offer_of}
use Rattle.report.proofs.SendingHost.offer.Goals as goal

pub returns-then-self-lt-PARTS : goal.returns-then-self-lt-PARTS
unfolding offer_of
returns-then-self-lt-PARTS c = sym (cond_true _ _ (lt-ltb _ _ c.if-self-lt-PARTS.true))

pub returns : goal.returns
unfolding offer_of
returns c = sym (cond_false _ _ (le-ltb _ _ c.if-self-lt-PARTS.false))
