-- A slot leaves what the taking host has read, and where a message enters the register, no take had begun.
--   enters_empty   a message enters an empty register alone
--   slot_took      Took is kept
-- Assumes nothing.
use Prim.Native.Nat.{ℕ, suc, ◌+◌, ◌<◌}
use mathlib.Core.Bool.{Bool, true, false, not, ◌&&◌, beq, false≢true, true≢false}
use mathlib.Core.List.{List}
use mathlib.Core.Path.{◌≡◌, refl, sym, ap, ◌∙◌, subst}
use native.Mathlib.Omega.{arith}
use lib.ListN.{length}
use Rattle.receiver.specs.declared.Heard.{Heard}
use Rattle.receiver.specs.declared.Inbox.{Inbox}
use Rattle.receiver.specs.Receiving.{placed, said_by, enters}
use Rattle.end.specs.Taking.{settled}
use Rattle.endlaws.proofs.Left.{send_leaves}
use Rattle.protocol.specs.Steps.{num}
use Rattle.link.specs.Link.{Message, Host, Side, sends, Harm, arriving, taking}
use Rattle.link.proofs.Line.{Cell}
use Rattle.link.proofs.Invariant.Logs.{length_more}
use Rattle.link.proofs.Invariant.{Inv}
use Rattle.link.proofs.Kept.Taking.{taking_by}
use Rattle.link.proofs.Kept.Slot.{taking_host, both_sent, arrive_case}
use Rattle.link.proofs.Taken.Reading.{Took}

pub enters_empty : (t : Bool) (h : Heard) (i : Inbox) → enters t h i ≡ true → i.full ≡ false
enters_empty t h i e = go t i.full (h.valid && beq h.toggle i.expected) e
  where
    go : (t f r : Bool) → (t && (not f && r)) ≡ true → f ≡ false
    go true true r e = absurd (false≢true e)
    go true false r e = refl
    go false f r e = absurd (false≢true e)

-- b's host takes the messages acc; the side b takes the symbol s
module _ {acc : List Message} (b : Side) (k : Took b.end.inbox b.host acc b.log.entered) where
  abbrev Has : Side → Type 0
  Has x = Took x.end.inbox x.host acc x.log.entered

  taking_took : (s : ℕ) (t n : Bool) → enters t (said_by (placed s b.end.collector)) (settled b.end) ≡ n
      → Has (taking_by t n s b)
  taking_took s t false e = record { reading = k.reading; taken_is = k.taken_is; count = k.count }
  taking_took s t true e = record {
    reading = record {
      within = k.reading.within;
      full = λ q. refl;
      number = λ q. absurd (no_take q);
      bytes = λ q. absurd (no_take q);
    };
    taken_is = k.taken_is;
    count = one_more (length b.log.entered) (length b.host.taken) _ (num b.end.inbox.full)
        (length_more b.log.entered _) k.count (ap num empty);
  }
    where
      empty : b.end.inbox.full ≡ false
      empty = enters_empty t (said_by (placed s b.end.collector)) (settled b.end) e

      no_take : 0 < b.host.stage → ⊥
      no_take q = true≢false (sym (k.reading.full q) ∙ empty)

      one_more : (x y z f : ℕ) → z ≡ suc x → x ≡ y + f → f ≡ 0 → z ≡ y + 1
      one_more x y z f e g h = omega arith

pub slot_took : {a b : Side} {ca cb : List Cell} {D E pa pb : ℕ} → Inv a b ca cb D E pa pb → (ha hb : Harm)
    → Took b.end.inbox b.host a.host.accepted b.log.entered
    → Took (taking (arriving D hb (sends a).sent) (sends b)).end.inbox
    (taking (arriving D hb (sends a).sent) (sends b)).host
    (taking (arriving E ha (sends b).sent) (sends a)).host.accepted
    (taking (arriving D hb (sends a).sent) (sends b)).log.entered
slot_took {a} {b} {D = D} {E = E} v ha hb k =
    subst (λ (h : Host). Took after.end.inbox after.host h.accepted after.log.entered)
    (sym (taking_host (arriving E ha (sends b).sent) (sends a)))
    (arrive_case (both_sent v) (λ (x : Side). Has (sends b) sent x) sent (taking_took (sends b) sent) hb)
  where
    after : Side
    after = taking (arriving D hb (sends a).sent) (sends b)

    sent : Took (sends b).end.inbox b.host a.host.accepted b.log.entered
    sent =
        subst (λ (i : Inbox). Took i b.host a.host.accepted b.log.entered)
        (sym (send_leaves b.end).inbox) k
