-- `End::read` meets its contract. Each arm knows which number the word has. Assumes nothing.
use Prim.Native.Nat.{ℕ}
use mathlib.Core.Bool.{false}
use mathlib.Core.Path.{◌≡◌, refl, sym, subst}
use Rattle.std.proofs.Common.{Some}
use Rattle.fibre.specs.Good.{bad}
use Rattle.fibre.specs.Names.{Names}
use Rattle.fibre.specs.Words.{read_of}
use Rattle.fibre.specs.declared.End.{End}
use Rattle.fibre.specs.declared.good.Good.{Good}
use Rattle.fibre.specs.declared.words.Word.{Word}
use Rattle.laws.proofs.Bools.{cond_true}
use Rattle.fibre.proofs.WordLaws.{read_done, read_message, read_received, read_outside}
use Rattle.fibre.proofs.End.read.Goals as goal
use Rattle.fibre.proofs.End.read.Goals.{in-Control, in-Message, in-Status, in-Received}

-- past the first test the end is one that answer 1 does not meet
fine : {e : End} (g : Good) → g.end ≡ e → bad e ≡ false
fine g h = subst (λ (e : End). bad e ≡ false) h g.good

-- the word that an arm is for, as a fact of its number
number : (n : ℕ) {j k : Word} → j ≡ k → Names n (Some j) → Names n (Some k)
number n h = subst (λ (k : Word). Names n (Some k)) h

pub returns-in_default : goal.returns-in_default
unfolding read_of
returns-in_default c = sym (cond_true _ _ c.in_default.ensures)

pub returns-in_default-named : goal.returns-in_default-named
returns-in_default-named c =
    sym (read_outside c.args.self c.args.word (fine c.in-Some.good c.in-Some.ensures) c.in_default-named.ensures)

pub returns : goal.returns
returns c =
    let e = c.args.self in
    let f = fine c.in-Some.good c.in-Some.ensures in
    elim c.match-name.branch [
      | in-Control w ↦
          let n = number c.args.word w.in-Control.is c.in-Some-named.ensures in
          rw (w.value-is, w.control.ensures, c.in-Some.ensures, n) (sym (read_done e 0 f refl))
      | in-Message w ↦
          let n = number c.args.word w.in-Message.is c.in-Some-named.ensures in
          rw (w.value-is, n.0) (sym (read_message e w.in-Message.i f n.1))
      | in-Status w ↦
          let n = number c.args.word w.in-Status.is c.in-Some-named.ensures in
          rw (w.value-is, w.status.ensures, c.in-Some.ensures, n) (sym (read_done e 9 f refl))
      | in-Received w ↦
          let n = number c.args.word w.in-Received.is c.in-Some-named.ensures in
          rw (w.value-is, w.emptied.ensures, n.0) (sym (read_received e w.in-Received.i f n.1))
    ]
