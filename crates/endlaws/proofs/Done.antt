-- What a call on an end that answer 1 does not meet gives, and what calls keep.
--   send_good, take_good    the call that is not refused (for read and write: RegisterLaws of crate end)
--   take_above              a symbol above 1,023 is refused
--   send_case, take_case, read_case, write_case, health_case    a refused call returns the end it was given
--   Kept P e      P holds of what each call that is done makes of e
--   after_keeps   what every call keeps where it is done, it keeps
-- Assumes nothing.
use Prim.Native.Nat.{ℕ, ◌≤◌, ◌<◌}
use mathlib.Core.Bool.{false}
use mathlib.Core.Path.{◌≡◌, ◌∙◌}
use lib.Dec.{ltb}
use borrow.Author.Tests.{le-ltb, lt-ltb, ltb-false}
use Rattle.answer.specs.declared.Answer.TheVariants.{Done, BadSymbol}
use Rattle.frame.specs.declared.reason.Reason.TheVariants.{Nothing}
use Rattle.end.specs.declared.End.{End}
use Rattle.end.specs.declared.Read.{Read}
use Rattle.end.specs.declared.Next.{Next}
use Rattle.end.specs.declared.Sent.{Sent}
use Rattle.end.specs.declared.Taken.{Taken}
use Rattle.end.specs.Good.{bad}
use Rattle.end.specs.Sending.{slot_of, moved_on, symbol_at, send_of}
use Rattle.end.specs.Taking.{taken, took_of, take_of}
use Rattle.end.specs.Registers.{outside, read_only, read_only_bits, blocked, read_end, written, with_health, read_of}
use Rattle.end.specs.Registers.{write_of, health_of}
use Rattle.end.specs.Calls.{Call, after}
use Rattle.laws.proofs.Bools.{cond_true, cond_false, either}

pub send_good : (e : End) → bad e ≡ false
    → send_of e ≡ record { answer = Done; symbol = symbol_at (slot_of e); end = moved_on (slot_of e) }
unfolding send_of
send_good e h = cond_false _ _ h

pub take_good : (e : End) (s : ℕ) → bad e ≡ false → s ≤ 1023 → take_of e s ≡ took_of s e
unfolding take_of
take_good e s h k = cond_false _ _ h ∙ cond_false _ _ (le-ltb 1023 s k)

pub take_above : (e : End) (s : ℕ) → bad e ≡ false → 1023 < s
    → take_of e s ≡ record { answer = BadSymbol; reason = Nothing; end = e }
unfolding take_of
take_above e s h k = cond_false _ _ h ∙ cond_true _ _ (lt-ltb 1023 s k)

-- what holds of the end given and of the end that the call makes where it is done, holds of the end returned

module _ (P : End → Type 0) (e : End) (p : P e) where
  pub send_case : (bad e ≡ false → P (moved_on (slot_of e))) → P (send_of e).end
  unfolding send_of
  send_case q = either (λ (r : Sent). P r.end) (bad e) _ _ (λ _. p) q

  pub take_case : (s : ℕ) → (bad e ≡ false → s ≤ 1023 → P (taken s e)) → P (take_of e s).end
  unfolding take_of
  take_case s q =
      either (λ (r : Taken). P r.end) (bad e) _ _ (λ _. p)
      (λ g. either (λ (r : Taken). P r.end) (ltb 1023 s) _ _ (λ _. p) (λ t. q g (ltb-false 1023 s t)))

  pub read_case : (r : ℕ) → (bad e ≡ false → outside r ≡ false → P (read_end e r)) → P (read_of e r).end
  unfolding read_of
  read_case r q =
      either (λ (r : Read). P r.end) (bad e) _ _ (λ _. p)
      (λ g. either (λ (r : Read). P r.end) (outside r) _ _ (λ _. p) (q g))

  pub write_case : (r v : ℕ)
      → (bad e ≡ false → blocked e r v ≡ false → P (written e r v))
      → P (write_of e r v).end
  unfolding write_of
  write_case r v q =
      either (λ (r : Next). P r.end) (bad e) _ _ (λ _. p)
      (λ g. either (λ (r : Next). P r.end) (outside r) _ _ (λ _. p)
      (λ _. either (λ (r : Next). P r.end) (read_only r) _ _ (λ _. p)
      (λ _. either (λ (r : Next). P r.end) (read_only_bits r v) _ _ (λ _. p)
      (λ _. either (λ (r : Next). P r.end) (blocked e r v) _ _ (λ _. p) (q g)))))

  pub health_case : (h : ℕ) → (bad e ≡ false → h ≤ 3 → P (with_health e h)) → P (health_of e h).end
  unfolding health_of
  health_case h q =
      either (λ (r : Next). P r.end) (bad e) _ _ (λ _. p)
      (λ g. either (λ (r : Next). P r.end) (ltb 3 h) _ _ (λ _. p) (λ t. q g (ltb-false 3 h t)))

pub record Kept (P : End → Type 0) (e : End) : Type 0 where
  pub sent : P (moved_on (slot_of e))
  pub took : (s : ℕ) → s ≤ 1023 → P (taken s e)
  pub got : (r : ℕ) → P (read_end e r)
  pub wrote : (r v : ℕ) → v < 65536 → P (written e r v)
  pub set : (h : ℕ) → h ≤ 3 → P (with_health e h)

pub after_keeps : (P : End → Type 0) (e : End) → (bad e ≡ false → Kept P e) → P e → (c : Call) → P (after c e)
after_keeps P e k p Call.send = send_case P e p (λ g. (k g).sent)
after_keeps P e k p (Call.take s) = take_case P e p s (λ g. (k g).took s)
after_keeps P e k p (Call.read r) = read_case P e p r (λ g _. (k g).got r)
after_keeps P e k p (Call.write r v l) = write_case P e p r v (λ g _. (k g).wrote r v l)
after_keeps P e k p (Call.health h) = health_case P e p h (λ g. (k g).set h)
after_keeps P e k p Call.present = p
