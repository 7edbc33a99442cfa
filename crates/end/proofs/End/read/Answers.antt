-- `End::read` meets its contract. Each arm knows which number the register has. Assumes nothing.
use Prim.Native.Nat.{ℕ}
use mathlib.Core.Bool.{false}
use mathlib.Core.Path.{◌≡◌, refl, sym, subst}
use Rattle.std.proofs.Common.{Some}
use Rattle.std.proofs.Math.Bool.{and_comm}
use Rattle.end.specs.Good.{bad}
use Rattle.end.specs.Names.{Names}
use Rattle.end.specs.Registers.{read_of}
use Rattle.end.specs.declared.End.{End}
use Rattle.end.specs.declared.good.Good.{Good}
use Rattle.end.specs.declared.registers.Register.{Register}
use Rattle.laws.proofs.Bools.{cond_true}
use Rattle.end.proofs.RegisterLaws.{read_done, read_message, read_received, read_outside}
use Rattle.end.proofs.End.read.Goals as goal

-- past the first test the end is one that answer 1 does not meet
fine : {e : End} (g : Good) → g.end ≡ e → bad e ≡ false
fine g h = subst (λ (e : End). bad e ≡ false) h g.good

-- the register that an arm is for, as a fact of its number
number : (n : ℕ) {j k : Register} → j ≡ k → Names n (Some j) → Names n (Some k)
number n h = subst (λ (k : Register). Names n (Some k)) h

pub returns-in_default : goal.returns-in_default
unfolding read_of
returns-in_default c = sym (cond_true _ _ c.in_default.ensures)

pub returns-in_default-named : goal.returns-in_default-named
returns-in_default-named c =
    let a = c.args in
    sym (read_outside a.self a.register (fine c.in-Some.good c.in-Some.ensures) c.in_default-named.ensures)

pub returns-in-Control : goal.returns-in-Control
returns-in-Control c =
    let f = fine c.in-Some.good c.in-Some.ensures in
    let n = number c.args.register c.in-Control.is c.in-Some-named.ensures in
    rw (c.control-value.ensures, c.in-Some.ensures, n) (sym (read_done c.args.self 2308 f refl))

pub returns-in-Message : goal.returns-in-Message
returns-in-Message c =
    let f = fine c.in-Some.good c.in-Some.ensures in
    let n = number c.args.register c.in-Message.is c.in-Some-named.ensures in
    rw (c.pair-value.ensures, n.0) (sym (read_message c.args.self c.in-Message.i f n.1))

pub returns-in-Status : goal.returns-in-Status
returns-in-Status c =
    let f = fine c.in-Some.good c.in-Some.ensures in
    let n = number c.args.register c.in-Status.is c.in-Some-named.ensures in
    rw (c.status-value.ensures, c.in-Some.ensures, n) (sym (read_done c.args.self 2313 f refl))

pub returns-in-Received : goal.returns-in-Received
returns-in-Received c =
    let f = fine c.in-Some.good c.in-Some.ensures in
    let n = number c.args.register c.in-Received.is c.in-Some-named.ensures in
    rw (c.pair-value-in-Received.ensures, n.0, and_comm c.args.self.inbox.full) (sym (read_received c.args.self c.in-Received.i f n.1))
