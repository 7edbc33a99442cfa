-- What the calls on an end have in common.
--   Refuses, refuses   no call is answered 11; with 1 the end is one that answer 1 meets; with any number but 0 the
--                      value is 0 and the end is as it was
--   after_end          the end of a call's result is the end after it
-- Assumes nothing.
use Prim.Native.Nat.{ℕ}
use mathlib.Core.Path.{◌≡◌, refl}
use native.Mathlib.Omega.{arith}
use lib.Dec.{ltb}
use Rattle.answer.specs.Number.{number_of}
use Rattle.end.specs.declared.End.{End}
use Rattle.end.specs.declared.Read.{Read}
use Rattle.end.specs.declared.Next.{Next}
use Rattle.end.specs.declared.Sent.{Sent}
use Rattle.end.specs.declared.Taken.{Taken}
use Rattle.end.specs.Good.{bad}
use Rattle.end.specs.Sending.{send_of}
use Rattle.end.specs.Taking.{take_of}
use Rattle.end.specs.Registers.{outside, read_only, read_only_bits, blocked, read_of, write_of, health_of}
use Rattle.end.specs.Calls.{Call, send, take, read, write, health, present, after}
use Rattle.endlaws.specs.Rows.{Met}
use Rattle.endlaws.proofs.Answers.{send_1, take_1, read_1, write_1, health_1, send_refused, take_refused}
use Rattle.endlaws.proofs.Answers.{read_refused, write_refused, health_refused}
use Rattle.laws.proofs.Decide.{never}
use Rattle.recordspec.specs.Results.{Result, result}

-- the number of a result
abbrev number : Result → ℕ
number x = number_of x.answer

pub record Refuses (f : End → Result) : Type 0 where
  pub not_11 : (e : End) → ¬ (number (f e) ≡ 11)
  pub one_met : (e : End) → number (f e) ≡ 1 → Met e
  pub left : (e : End) → ¬ (number (f e) ≡ 0) → ((f e).value ≡ 0) × ((f e).end ≡ e)

-- no call on an end is answered 11
sent : Sent → ℕ
sent s = number_of s.answer

got : Read → ℕ
got g = number_of g.answer

took : Taken → ℕ
took t = number_of t.answer

next : Next → ℕ
next n = number_of n.answer

send_not : (e : End) → ¬ (number_of (send_of e).answer ≡ 11)
unfolding send_of sent
send_not e = never sent (bad e) (λ h. omega arith) (λ h. omega arith)

take_not : (s : ℕ) (e : End) → ¬ (number_of (take_of e s).answer ≡ 11)
unfolding take_of took
take_not s e = never took (bad e) (λ h. omega arith) (never took (ltb 1023 s) (λ h. omega arith) (λ h. omega arith))

read_not : (r : ℕ) (e : End) → ¬ (number_of (read_of e r).answer ≡ 11)
unfolding read_of got
read_not r e = never got (bad e) (λ h. omega arith) (never got (outside r) (λ h. omega arith) (λ h. omega arith))

write_not : (r v : ℕ) (e : End) → ¬ (number_of (write_of e r v).answer ≡ 11)
unfolding write_of next
write_not r v e =
    never next (bad e) (λ h. omega arith)
    (never next (outside r) (λ h. omega arith)
    (never next (read_only r) (λ h. omega arith)
    (never next (read_only_bits r v) (λ h. omega arith)
    (never next (blocked e r v) (λ h. omega arith) (λ h. omega arith)))))

health_not : (h : ℕ) (e : End) → ¬ (number_of (health_of e h).answer ≡ 11)
unfolding health_of next
health_not h e = never next (bad e) (λ k. omega arith) (never next (ltb 3 h) (λ k. omega arith) (λ k. omega arith))

pub refuses : (c : Call) → Refuses (result c)
refuses send = record { not_11 = send_not; one_met = λ e. (send_1 e).0; left = send_refused }
refuses (take s) = record {
  not_11 = take_not s;
  one_met = λ e. (take_1 e s).0;
  left = λ e h. (refl, (take_refused e s h).1);
}
refuses (read r) = record { not_11 = read_not r; one_met = λ e. (read_1 e r).0; left = λ e. read_refused e r }
refuses (write r v k) = record {
  not_11 = write_not r v;
  one_met = λ e. (write_1 e r v).0;
  left = λ e h. (refl, write_refused e r v h);
}
refuses (health h) = record {
  not_11 = health_not h;
  one_met = λ e. (health_1 e h).0;
  left = λ e k. (refl, health_refused e h k);
}
refuses present = record {
  not_11 = λ e h. omega arith;
  one_met = λ e h. absurd (omega arith);
  left = λ e h. absurd (h refl);
}

pub after_end : (c : Call) (e : End) → (result c e).end ≡ after c e
after_end send e = refl
after_end (take s) e = refl
after_end (read r) e = refl
after_end (write r v h) e = refl
after_end (health h) e = refl
after_end present e = refl
