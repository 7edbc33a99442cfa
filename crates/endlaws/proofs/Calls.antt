-- What an end answers to calls that follow one another, by calls and answers alone: for hosts that see no more of it.
-- A message's bytes are written to 3.2309 + i, i below 4.
--   bytes_alike        any two writes of them get one answer, whatever is written
--   bytes_leave        a write of them leaves what such a write is answered
--   OneOf014 a         the answer a has the number 0, 1 or 4
--   bytes_answers      the answer to such a write has
--   control_follows    where it is 0, so is that to a write to 3.2308 of bit 15 and a number alone
--   status_leaves      a read of 3.2313 leaves the end
--   status_answers     it is answered 0 or 1
--   reads_follow       after a read that is answered 0, a read of any of the ten registers is answered 0
-- Assumes nothing.
use Prim.Native.Nat.{ℕ, ◌+◌, ◌*◌, ◌/◌, ◌%◌, ◌≤◌, ◌<◌}
use mathlib.Core.Bool.{Bool, true, false, cond}
use mathlib.Core.Logic.{◌⊎◌, inl, inr, ⊎_elim}
use mathlib.Core.Path.{◌≡◌, refl, sym, ap, ap₂, ◌∙◌}
use native.Mathlib.Omega.{arith}
use borrow.Author.Tests.{le-ltb, ne_eqb}
use Rattle.laws.proofs.Bools.{either}
use Rattle.laws.proofs.Decide.{decides_no}
use Rattle.answer.specs.declared.Answer.{Answer}
use Rattle.answer.specs.declared.Answer.TheVariants.{Done, BadEnd, Blocked}
use Rattle.answer.specs.Number.{number_of}
use Rattle.end.specs.declared.End.{End}
use Rattle.end.specs.declared.Next.{Next}
use Rattle.end.specs.declared.Read.{Read}
use Rattle.end.specs.Calls.{Call}
use Rattle.end.specs.Good.{bad}
use Rattle.end.specs.Registers.{read_of, write_of}
use Rattle.end.proofs.RegisterLaws.{write_message, write_full}
use Rattle.endlaws.specs.Rows.{SetsReadOnly}
use Rattle.endlaws.proofs.Answers.{read_0, write_0}
use Rattle.endlaws.proofs.Done.{read_case, write_case}
use Rattle.endlaws.proofs.Goods.{after_good}
use Rattle.endlaws.proofs.Left.{write_leaves}
use Rattle.endlaws.proofs.Tested.{met, read_only_row}

abbrev pub OneOf014 : Answer → Type 0
OneOf014 a = (number_of a ≡ 0) ⊎ ((number_of a ≡ 1) ⊎ (number_of a ≡ 4))

-- Writing

-- what they are all answered: only answer 1 and a pending message count
abbrev answered : Bool → Bool → Answer
answered b p = cond b BadEnd (cond p Blocked Done)

bytes_answered : (e : End) (i v : ℕ) → i < 4
    → (write_of e (2309 + i) v).answer ≡ answered (bad e) e.outbox.pending
unfolding write_of
bytes_answered e i v l = go (bad e) e.outbox.pending refl refl
  where
    go : (b p : Bool) → bad e ≡ b → e.outbox.pending ≡ p → (write_of e (2309 + i) v).answer ≡ answered b p
    go true p h k = rw h
    go false true h k = ap (λ (r : Next). r.answer) (write_full e i v h k l)
    go false false h k = ap (λ (r : Next). r.answer) (write_message e i v h k l)

pub bytes_alike : (e : End) (i j v w : ℕ) → i < 4 → j < 4
    → (write_of e (2309 + i) v).answer ≡ (write_of e (2309 + j) w).answer
bytes_alike e i j v w h k = bytes_answered e i v h ∙ sym (bytes_answered e j w k)

-- a write to one of them leaves what answer 1 looks at
bytes_bad : (e : End) (r v : ℕ) → ¬ (r ≡ 2308) → bad (write_of e r v).end ≡ bad e
unfolding bad
bytes_bad e r v n = write_case (λ (f : End). bad f ≡ bad e) e refl r v (λ _ _. rw (ne_eqb r 2308 n))

pub bytes_leave : (e : End) (i j v w : ℕ) → i < 4 → j < 4
    → (write_of (write_of e (2309 + i) v).end (2309 + j) w).answer ≡ (write_of e (2309 + j) w).answer
bytes_leave e i j v w h k =
    let n : ¬ (2309 + i ≡ 2308) = λ q. omega arith in
    bytes_answered (write_of e (2309 + i) v).end j w k
    ∙ (ap₂ answered (bytes_bad e (2309 + i) v n) ((write_leaves e (2309 + i) v).pending n)
    ∙ sym (bytes_answered e j w k))

pub bytes_answers : (e : End) (i v : ℕ) → i < 4 → OneOf014 (write_of e (2309 + i) v).answer
bytes_answers e i v h = rw (bytes_answered e i v h) (go (bad e) e.outbox.pending)
  where
    go : (b p : Bool) → OneOf014 (answered b p)
    go true p = inr (inl refl)
    go false true = inr (inr refl)
    go false false = inl refl

-- bit 15 and bits 11:8 alone
may_be_set : (n : ℕ) → n < 16 → ¬ SetsReadOnly 2308 (32768 + n * 256)
may_be_set n h = (read_only_row 2308 (32768 + n * 256)).fails (rw (le-ltb 0 _ high, le-ltb 0 _ middle, le-ltb 0 _ low))
  where
    high : (32768 + n * 256) / 4096 % 8 ≤ 0
    high = omega arith

    middle : (32768 + n * 256) / 8 % 32 ≤ 0
    middle = omega arith

    low : (32768 + n * 256) % 4 ≤ 0
    low = omega arith

pub control_follows : (e : End) (i v n : ℕ) → i < 4 → n < 16 → number_of (write_of e (2309 + i) v).answer ≡ 0
    → number_of (write_of e 2308 (32768 + n * 256)).answer ≡ 0
control_follows e i v n b h k =
    let w = (write_0 e (2309 + i) v).0 k in
    (write_0 e 2308 (32768 + n * 256)).1 (
      w.0,
      (
        ⊎_elim (λ x. omega arith) (λ x. omega arith),
        (λ x. omega arith, (may_be_set n h, λ p. w.1.1.1.1 (p.0, inr (omega arith, omega arith)))),
      ),
    )

-- Reading

pub status_leaves : (e : End) → (read_of e 2313).end ≡ e
status_leaves e = read_case (λ (f : End). f ≡ e) e refl 2313 (λ _ _. refl)

pub status_answers : (e : End) → (number_of (read_of e 2313).answer ≡ 0) ⊎ (number_of (read_of e 2313).answer ≡ 1)
unfolding read_of
status_answers e =
    either (λ (r : Read). (number_of r.answer ≡ 0) ⊎ (number_of r.answer ≡ 1)) (bad e) _ _
    (λ _. inr refl) (λ _. inl refl)

pub reads_follow : (e : End) (r s : ℕ) → 2308 ≤ s → s ≤ 2317 → number_of (read_of e r).answer ≡ 0
    → number_of (read_of (read_of e r).end s).answer ≡ 0
reads_follow e r s l u h =
    let g = after_good (Call.read r) e (decides_no (met e) ((read_0 e r).0 h).0) in
    (read_0 (read_of e r).end s).1 ((met (read_of e r).end).fails g, ⊎_elim (λ x. omega arith) (λ x. omega arith))
