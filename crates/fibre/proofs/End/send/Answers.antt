-- `End::send` meets its contract. Each return knows what `bad` gave, and the default block is all 0. Assumes nothing.
use mathlib.Core.Path.{◌≡◌, sym}
use native.Mathlib.Omega.{arith}
use Rattle.std.proofs.lemmas.Grind.{common_steps}
use Rattle.fibre.specs.Good.{no_block}
use Rattle.fibre.specs.Sending.{send_of}
use Rattle.laws.proofs.Bools.{cond_true, cond_false, hence}
use Rattle.fibre.proofs.End.send.Goals as goal

pub returns-then-bad : goal.returns-then-bad
unfolding send_of
returns-then-bad c =
    let empty : c.default.result ≡ no_block = grind (arith, common_steps) in
    rw empty (sym (cond_true _ _ (hence c.bad.ensures c.if-bad.true)))

pub returns : goal.returns
unfolding send_of
returns c =
    rw c.loaded-end.ensures (sym (cond_false _ _ (hence c.bad.ensures c.if-bad.false)))
