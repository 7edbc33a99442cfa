-- `End::write` meets its contract. Each arm knows which number the word has. Assumes nothing.
use Prim.Native.Nat.{ℕ}
use mathlib.Core.Path.{◌≡◌, refl, sym, subst}
use Rattle.std.proofs.Common.{Some, inl, inr}
use Rattle.fibre.specs.Names.{Names}
use Rattle.fibre.specs.Words.{write_of}
use Rattle.fibre.specs.declared.words.Word.{Word}
use Rattle.laws.proofs.Bools.{cond_true, cond_false, hence}
use Rattle.fibre.proofs.WordLaws.{write_message, write_only, write_received, write_outside}
use Rattle.fibre.proofs.End.write.Goals as goal

-- the word that an arm is for, as a fact of its number
number : (n : ℕ) {j k : Word} → j ≡ k → Names n (Some j) → Names n (Some k)
number n h = subst (λ (k : Word). Names n (Some k)) h

pub returns-then-bad : goal.returns-then-bad
unfolding write_of
returns-then-bad c = sym (cond_true _ _ (hence c.bad.ensures c.if-bad.true))

pub returns-in_default : goal.returns-in_default
returns-in_default c =
    let a = c.args in
    sym (write_outside a.self a.word a.value (hence c.bad.ensures c.if-bad.false) c.in_default.ensures)

pub with_word-requires : goal.with_word-requires
with_word-requires c = (number c.args.word c.in-Message.is c.in-Some.ensures).1

pub returns-in-Control : goal.returns-in-Control
unfolding write_of
returns-in-Control c =
    rw (c.unless_requested.ensures, c.with_control.ensures, number c.args.word c.in-Control.is c.in-Some.ensures)
    (sym (cond_false _ _ (hence c.bad.ensures c.if-bad.false)))

pub returns-in-Message : goal.returns-in-Message
returns-in-Message c =
    let a = c.args in
    let n = number a.word c.in-Message.is c.in-Some.ensures in
    rw (c.unless_requested-in-Message.ensures, c.with_word.ensures, n.0)
    (sym (write_message a.self c.in-Message.i a.value (hence c.bad.ensures c.if-bad.false) n.1))

pub returns-in-Status : goal.returns-in-Status
returns-in-Status c =
    let a = c.args in
    let f = hence c.bad.ensures c.if-bad.false in
    elim c.in-Status.is [
      | inl h ↦ rw (number a.word h c.in-Some.ensures) (sym (write_only a.self 9 a.value f refl refl))
      | inr p ↦
          let n = number a.word p.1 c.in-Some.ensures in
          rw n.0 (sym (write_received a.self p.0 a.value f n.1))
    ]
