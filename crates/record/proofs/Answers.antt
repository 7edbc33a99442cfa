-- The answer table through records, for every call and whatever the bytes are.
--   call_11         11 exactly when the record is wrong
--   call_n          any other number exactly when it is not, and the call on its end gives that number
--   call_never_1    1 is never given: an end that it would meet is answered 11
--   call_refused    any number but 0: the value is 0 and every byte is as it was
--   reset_11, reset_0, reset_refused   the same of reset, which asks only for an area of the right size
-- Assumes nothing.
use Prim.Native.Nat.{ℕ}
use mathlib.Core.Bool.{Bool, true, false, cond, true≢false}
use mathlib.Core.List.{List}
use mathlib.Core.Logic.{◌↔◌}
use mathlib.Core.Path.{◌≡◌, refl, sym, ap, ◌∙◌}
use native.Mathlib.Omega.{arith}
use lib.Dec.{eqb}
use lib.ListN.{length}
use borrow.Author.Tests.{eqb-true, eqb-false, ne_eqb}
use Rattle.answer.specs.Number.{number_of}
use Rattle.end.specs.Calls.{Call}
use Rattle.endlaws.proofs.Answers.{bad_met}
use Rattle.laws.proofs.Decide.{Decides, hit, skip, pass}
use Rattle.recordspec.specs.Record.{size, record_of, end_of, refused, Wrong}
use Rattle.recordspec.specs.Results.{result}
use Rattle.recordspec.proofs.Accepted.{accepted_back, accepted_good}
use Rattle.record.proofs.Results.{refuses}
use Rattle.recordspec.proofs.Wrong.{wrong, not_refused}
use Rattle.record.specs.Calls.{Called, through, resetting, bad_record, stored}
use Rattle.record.specs.Runs.{called}

-- The number of a call on a record

abbrev replied : Called → ℕ
replied x = number_of x.reply.answer

pub call_11 : (c : Call) (r : List ℕ) → (number_of (called c r).reply.answer ≡ 11) ↔ Wrong r
unfolding through
call_11 c r = hit replied (refused r) (wrong r) refl ((refuses c).not_11 (end_of r))

pub call_n : (c : Call) (r : List ℕ) (n : ℕ) → ¬ (n ≡ 11)
    → (number_of (called c r).reply.answer ≡ n) ↔ (¬ Wrong r × (number_of (result c (end_of r)).answer ≡ n))
unfolding through
call_n c r n h = skip replied (refused r) (wrong r) (λ e. h (sym e)) (λ _. (λ e. e, λ e. e))

pub call_never_1 : (c : Call) (r : List ℕ) → ¬ (number_of (called c r).reply.answer ≡ 1)
call_never_1 c r h =
    let a = (call_n c r 1 (λ e. omega arith)).0 h in
    let f : refused r ≡ false = not_refused r a.0 in
    true≢false (sym ((bad_met (end_of r)).1 ((refuses c).one_met (end_of r) a.1)) ∙ accepted_good r f)

-- Refused: every byte as it was

pub call_refused : (c : Call) (r : List ℕ) → ¬ (number_of (called c r).reply.answer ≡ 0)
    → ((called c r).reply.value ≡ 0) × ((called c r).bytes ≡ r)
unfolding through
call_refused c r = go (refused r) refl
  where
    go : (b : Bool) → refused r ≡ b → ¬ (replied (cond b (bad_record r) (stored (result c (end_of r)))) ≡ 0)
        → ((cond b (bad_record r) (stored (result c (end_of r)))).reply.value ≡ 0)
        × ((cond b (bad_record r) (stored (result c (end_of r)))).bytes ≡ r)
    go true e h = (refl, refl)
    go false e h =
        let l = (refuses c).left (end_of r) h in
        (l.0, ap record_of l.1 ∙ accepted_back r e)

-- Reset

right_size : (r : List ℕ) → Decides (eqb (length r) size) (length r ≡ size)
right_size r = record { holds = eqb-true (length r) size; fails = eqb-false (length r) size }

pub reset_0 : (r : List ℕ) → (number_of (resetting r).reply.answer ≡ 0) ↔ (length r ≡ size)
unfolding resetting
reset_0 r = hit replied (eqb (length r) size) (right_size r) refl (λ h. omega arith)

pub reset_11 : (r : List ℕ) → (number_of (resetting r).reply.answer ≡ 11) ↔ ¬ (length r ≡ size)
unfolding resetting
reset_11 r = pass replied (eqb (length r) size) (right_size r) (λ h. omega arith) refl

pub reset_refused : (r : List ℕ) → ¬ (length r ≡ size) → ((resetting r).reply.value ≡ 0) × ((resetting r).bytes ≡ r)
unfolding resetting
reset_refused r h = rw (ne_eqb (length r) size h) (refl, refl)
