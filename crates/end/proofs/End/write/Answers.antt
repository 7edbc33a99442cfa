-- `End::write` meets its contract. Each arm knows which number the register has. Assumes nothing.
use Prim.Native.Nat.{ℕ}
use mathlib.Core.Bool.{false}
use mathlib.Core.Path.{◌≡◌, refl, sym, subst}
use Rattle.std.proofs.Common.{Some, inl, inr}
use Rattle.end.specs.Good.{bad}
use Rattle.end.specs.Names.{Names}
use Rattle.end.specs.Registers.{write_of}
use Rattle.end.specs.declared.End.{End}
use Rattle.end.specs.declared.good.Good.{Good}
use Rattle.end.specs.declared.registers.Register.{Register}
use Rattle.laws.proofs.Bools.{cond_true}
use Rattle.end.proofs.RegisterLaws.{write_only, write_outside, write_received}
use Rattle.end.proofs.End.write.Goals as goal

-- past the first test the end is one that answer 1 does not meet
fine : {e : End} (g : Good) → g.end ≡ e → bad e ≡ false
fine g h = subst (λ (e : End). bad e ≡ false) h g.good

-- the register that an arm is for, as a fact of its number
number : (n : ℕ) {j k : Register} → j ≡ k → Names n (Some j) → Names n (Some k)
number n h = subst (λ (k : Register). Names n (Some k)) h

pub returns-in_default : goal.returns-in_default
unfolding write_of
returns-in_default c = sym (cond_true _ _ c.in_default.ensures)

pub returns-in_default-named : goal.returns-in_default-named
returns-in_default-named c =
    let a = c.args in
    sym (write_outside a.self a.register a.value (fine c.in-Some.good c.in-Some.ensures) c.in_default-named.ensures)

pub returns-in-Status : goal.returns-in-Status
returns-in-Status c =
    let a = c.args in
    let f = fine c.in-Some.good c.in-Some.ensures in
    elim c.in-Status.is [
      | inl h ↦ rw (number a.register h c.in-Some-named.ensures) (sym (write_only a.self 2313 a.value f refl refl))
      | inr p ↦
          let n = number a.register p.1 c.in-Some-named.ensures in
          rw n.0 (sym (write_received a.self p.0 a.value f n.1))
    ]
