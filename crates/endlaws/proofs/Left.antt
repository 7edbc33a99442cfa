-- What each call leaves as it was, whatever the end is and whether the call is refused or done: see specs/Leaves.antt.
-- Assumes nothing.
use Prim.Native.Nat.{ℕ, ◌/◌}
use mathlib.Core.Bool.{Bool, true, false, not, ◌&&◌, ◌||◌, true≢false}
use mathlib.Core.Path.{◌≡◌, refl, sym, ◌∙◌}
use lib.Dec.{eqb}
use borrow.Author.Tests.{eq-eqb, eqb-true, ne_eqb}
use Rattle.crc.specs.Bits.{odd}
use Rattle.end.specs.declared.End.{End}
use Rattle.end.specs.Sending.{send_of}
use Rattle.end.specs.Taking.{taken, take_of}
use Rattle.end.specs.Registers.{blocked, written, read_of, write_of, health_of}
use Rattle.endlaws.specs.Leaves.{SendLeaves, TakeLeaves, ReadLeaves, WriteLeaves, HealthLeaves}
use Rattle.laws.proofs.Bools.{cond_true, cond_false, cond_same}
use Rattle.endlaws.proofs.Done.{send_case, take_case, read_case, write_case, health_case}

pub send_leaves : (e : End) → SendLeaves e (send_of e).end
send_leaves e = send_case (SendLeaves e) e (search) (λ _. search)

pub take_leaves : (e : End) (s : ℕ) → TakeLeaves e (take_of e s).end
unfolding taken
take_leaves e s = take_case (TakeLeaves e) e (search) s (λ _ _. search)

pub read_leaves : (e : End) (r : ℕ) → ReadLeaves r e (read_of e r).end
read_leaves e r = read_case (ReadLeaves r e) e (search) r (λ _ _. search (cond_false, ne_eqb))

-- a write that a pending message does not block is to 3.2308, with bit 15 clear
unblocked : (e : End) (r v : ℕ) → blocked e r v ≡ false → e.outbox.pending ≡ true → r ≡ 2308
unblocked e r v h k = go e.outbox.pending (eqb r 2308) refl k h
  where
    go : (p t : Bool) → eqb r 2308 ≡ t → p ≡ true → (p && (not t || odd (v / 32768))) ≡ false → r ≡ 2308
    go p true e k h = eqb-true r 2308 e
    go true false e k h = absurd (true≢false h)
    go false false e k h = absurd (true≢false (sym k))

written_leaves : (e : End) (r v : ℕ) → blocked e r v ≡ false → WriteLeaves r e (written e r v)
written_leaves e r v b = record {
  sender = refl;
  collector = refl;
  heard = refl;
  inbox = refl;
  counts = refl;
  presence = refl;
  toggle = cond_same (eqb r 2308) e.outbox.toggle;
  received = cond_same (eqb r 2308) e.outbox.received;
  confirmed = cond_same (eqb r 2308) e.outbox.confirmed;
  bytes = λ h. cond_true _ _ (eq-eqb r 2308 h);
  pending = λ n. cond_false _ _ (ne_eqb r 2308 n);
  number = λ n. cond_false _ _ (ne_eqb r 2308 n);
  ping = λ n. cond_false _ _ (ne_eqb r 2308 n);
  still_pending = λ k. cond_true _ _ (control k) ∙ cond_true _ _ k;
  pending_number = λ k. cond_true _ _ (control k) ∙ cond_true _ _ k;
  pending_bytes = λ k. cond_true _ _ (control k);
}
  where
    control : e.outbox.pending ≡ true → eqb r 2308 ≡ true
    control k = eq-eqb r 2308 (unblocked e r v b k)

pub write_leaves : (e : End) (r v : ℕ) → WriteLeaves r e (write_of e r v).end
write_leaves e r v = write_case (WriteLeaves r e) e (search) r v (λ _. written_leaves e r v)

pub health_leaves : (e : End) (h : ℕ) → HealthLeaves e (health_of e h).end
health_leaves e h = health_case (HealthLeaves e) e (search) h (λ _ _. search)
