-- The counts and presence are apart: no call looks at them, but for the range of presence, which answer 1 looks at, and
-- for present itself. An end with other counts and another presence gives the same answer, value and reason to each
-- call, and the same next end but for the counts and presence; so do lists of calls. Both presences are in range, or
-- neither is.
--   same_bad        answer 1 meets both or neither
--   send_apart, take_apart, read_apart, write_apart, health_apart, present_apart
--   take_lapses     take changes presence by the answer and the reason that it gives, whatever end and symbol come in
--   range_after, range_next   no call leads into the range of presence or out of it, nor only one of two such ends
--   after_apart, reasons_apart, calls_apart   the same of any call, and of lists of calls
--   same_presence   of an end with other counts alone, presence too is the same after a call
-- Assumes nothing.
use Prim.Native.Nat.{ℕ}
use mathlib.Core.Bool.{Bool, true, false, not, ◌&&◌}
use mathlib.Core.List.{List, [], ◌∷◌, ◌++◌}
use mathlib.Core.Path.{◌≡◌, refl, sym, ap, ap₂, ◌∙◌}
use lib.Dec.{ltb}
use borrow.Author.Tests.{le-ltb}
use Rattle.frame.specs.declared.reason.Reason.{Reason}
use Rattle.receiver.specs.declared.Counts.{Counts}
use Rattle.end.specs.declared.End.{End}
use Rattle.end.specs.declared.Read.{Read}
use Rattle.end.specs.declared.Next.{Next}
use Rattle.end.specs.declared.Sent.{Sent}
use Rattle.end.specs.declared.Taken.{Taken}
use Rattle.receiver.specs.Counting.{tallied}
use Rattle.receiver.specs.Presence.{lasting}
use Rattle.end.specs.Good.{bad, present_of}
use Rattle.end.specs.Sending.{acked, frame_start, send_of}
use Rattle.receiver.specs.Receiving.{placed, accepts}
use Rattle.end.specs.Taking.{taken, take_of}
use Rattle.end.specs.Registers.{outside, read_only, read_only_bits, blocked, read_of, write_of, health_of}
use Rattle.receiver.proofs.Laws.{accepts_reason}
use Rattle.end.specs.Parts.{beside}
use Rattle.end.specs.Calls.{Call, after, calls}
use Rattle.endlaws.specs.Presence.{left_by}
use Rattle.endlaws.specs.Reasons.{reasons_of, reasons}
use Rattle.endlaws.proofs.Done.{after_keeps}
use Rattle.endlaws.proofs.Goods.{good, left_below}
use Rattle.endlaws.proofs.Left.{send_leaves, read_leaves, write_leaves, health_leaves}

-- One call

module _ (k : Counts) (p : ℕ) (e : End) (range : ltb lasting p ≡ ltb lasting e.presence) where
  abbrev other : End
  other = beside k p e

  pub same_bad : bad other ≡ bad e
  unfolding bad
  same_bad = rw range

  pub send_apart : send_of other
      ≡ record { answer = (send_of e).answer; symbol = (send_of e).symbol; end = beside k p (send_of e).end }
  unfolding send_of frame_start acked
  send_apart = go (bad e) refl
    where
      same : Sent → Sent
      same x = record { answer = x.answer; symbol = x.symbol; end = beside k p x.end }

      go : (b : Bool) → bad e ≡ b → send_of other ≡ same (send_of e)
      go true h = rw (same_bad, h)
      go false h = rw (same_bad, h)

  pub take_apart : (s : ℕ) → take_of other s
      ≡ record {
        answer = (take_of e s).answer;
        reason = (take_of e s).reason;
        end = beside (tallied (take_of e s).reason k) (left_by (take_of e s) p) (take_of e s).end;
      }
  unfolding take_of taken tallied
  take_apart s = go (bad e) (ltb 1023 s) refl refl
    where
      same : Taken → Taken
      same x = record {
        answer = x.answer;
        reason = x.reason;
        end = beside (tallied x.reason k) (left_by x p) x.end;
      }

      go : (b t : Bool) → bad e ≡ b → ltb 1023 s ≡ t → take_of other s ≡ same (take_of e s)
      go true t h j = rw (same_bad, h)
      go false true h j = rw (same_bad, h, j)
      go false false h j =
          rw (same_bad, h, j, accepts_reason s e.collector.count (placed s e.collector))

  pub read_apart : (r : ℕ) → read_of other r
      ≡ record { answer = (read_of e r).answer; value = (read_of e r).value; end = beside k p (read_of e r).end }
  unfolding read_of
  read_apart r = go (bad e) (outside r) refl refl
    where
      same : Read → Read
      same x = record { answer = x.answer; value = x.value; end = beside k p x.end }

      go : (b o : Bool) → bad e ≡ b → outside r ≡ o → read_of other r ≡ same (read_of e r)
      go true o h i = rw (same_bad, h)
      go false true h i = rw (same_bad, h, i)
      go false false h i = rw (same_bad, h, i)

  same_next : Next → Next
  same_next x = record { answer = x.answer; end = beside k p x.end }

  pub write_apart : (r v : ℕ) → write_of other r v
      ≡ record { answer = (write_of e r v).answer; end = beside k p (write_of e r v).end }
  unfolding write_of same_next
  write_apart r v =
      go (bad e) (outside r) (read_only r) (read_only_bits r v) (blocked e r v) refl refl refl refl refl
    where
      go : (b o n t p : Bool) → bad e ≡ b → outside r ≡ o → read_only r ≡ n → read_only_bits r v ≡ t → blocked e r v ≡ p
          → write_of other r v ≡ same_next (write_of e r v)
      go true o n t p h i j l m = rw (same_bad, h)
      go false true n t p h i j l m = rw (same_bad, h, i)
      go false false true t p h i j l m = rw (same_bad, h, i, j)
      go false false false true p h i j l m = rw (same_bad, h, i, j, l)
      go false false false false true h i j l m = rw (same_bad, h, i, j, l, m)
      go false false false false false h i j l m = rw (same_bad, h, i, j, l, m)

  pub health_apart : (x : ℕ) → health_of other x
      ≡ record { answer = (health_of e x).answer; end = beside k p (health_of e x).end }
  unfolding health_of same_next
  health_apart x = go (bad e) (ltb 3 x) refl refl
    where
      go : (b t : Bool) → bad e ≡ b → ltb 3 x ≡ t → health_of other x ≡ same_next (health_of e x)
      go true t h j = rw (same_bad, h)
      go false true h j = rw (same_bad, h, j)
      go false false h j = rw (same_bad, h, j)

  pub present_apart : present_of other ≡ (not (bad e) && ltb 0 p)
  unfolding present_of
  present_apart = rw same_bad

pub take_lapses : (e : End) (s : ℕ) → (take_of e s).end.presence ≡ left_by (take_of e s) e.presence
take_lapses e s = ap (λ (t : Taken). t.end.presence) (take_apart e.counts e.presence e refl s)

-- Calls

pub range_after : (c : Call) (e : End) → ltb lasting (after c e).presence ≡ ltb lasting e.presence
unfolding frame_start taken
range_after c e =
    after_keeps (λ (x : End). ltb lasting x.presence ≡ ltb lasting e.presence) e
    (λ h. record {
      sent = refl;
      took = λ s _.
          let within = (good e h).presence in
          le-ltb lasting _ (left_below (accepts s e.collector) e.presence within)
          ∙ sym (le-ltb lasting e.presence within);
      got = λ r. refl;
      wrote = λ r v _. refl;
      set = λ x _. refl;
    })
    refl c

own : {x : End} (y : End) {n : Counts} {m : ℕ} → x ≡ beside n m y → x ≡ beside x.counts x.presence y
own {x} y {n} {m} p = p ∙ ap (λ (z : End). beside z.counts z.presence y) (sym p)

-- the end after a call, with its own counts and presence
module _ (k : Counts) (p : ℕ) (e : End) (range : ltb lasting p ≡ ltb lasting e.presence) where
  pub after_apart : (c : Call)
      → after c (beside k p e)
      ≡ beside (after c (beside k p e)).counts (after c (beside k p e)).presence (after c e)
  after_apart Call.send = own (send_of e).end (ap (λ (x : Sent). x.end) (send_apart k p e range))
  after_apart (Call.take s) = own (take_of e s).end (ap (λ (x : Taken). x.end) (take_apart k p e range s))
  after_apart (Call.read r) = own (read_of e r).end (ap (λ (x : Read). x.end) (read_apart k p e range r))
  after_apart (Call.write r v h) = own (write_of e r v).end (ap (λ (x : Next). x.end) (write_apart k p e range r v))
  after_apart (Call.health x) = own (health_of e x).end (ap (λ (x : Next). x.end) (health_apart k p e range x))
  after_apart Call.present = refl

  -- the range of presence is the same in both
  pub range_next : (c : Call)
      → ltb lasting (after c (beside k p e)).presence ≡ ltb lasting (after c e).presence
  range_next c = range_after c (beside k p e) ∙ (range ∙ sym (range_after c e))

  reasons_one : (c : Call) → reasons_of c (beside k p e) ≡ reasons_of c e
  reasons_one Call.send = refl
  reasons_one (Call.take s) = rw (take_apart k p e range s)
  reasons_one (Call.read r) = refl
  reasons_one (Call.write r v h) = refl
  reasons_one (Call.health x) = refl
  reasons_one Call.present = refl

-- other counts alone: presence stays the same
pub same_presence : (c : Call) (k : Counts) (e : End)
    → (after c (beside k e.presence e)).presence ≡ (after c e).presence
same_presence Call.send k e =
    ap (λ (x : Sent). x.end.presence) (send_apart k e.presence e refl) ∙ sym (send_leaves e).presence
same_presence (Call.take s) k e =
    ap (λ (x : Taken). x.end.presence) (take_apart k e.presence e refl s) ∙ sym (take_lapses e s)
same_presence (Call.read r) k e =
    ap (λ (x : Read). x.end.presence) (read_apart k e.presence e refl r) ∙ sym (read_leaves e r).presence
same_presence (Call.write r v h) k e =
    ap (λ (x : Next). x.end.presence) (write_apart k e.presence e refl r v) ∙ sym (write_leaves e r v).presence
same_presence (Call.health x) k e =
    ap (λ (x : Next). x.end.presence) (health_apart k e.presence e refl x) ∙ sym (health_leaves e x).presence
same_presence Call.present k e = refl

pub reasons_apart : (cs : List Call) (k : Counts) (p : ℕ) (e : End) → ltb lasting p ≡ ltb lasting e.presence
    → reasons cs (beside k p e) ≡ reasons cs e
unfolding reasons
reasons_apart [] k p e h = refl
reasons_apart (c ∷ cs) k p e h =
    let x = after c (beside k p e) in
    ap₂ (λ (a b : List Reason). a ++ b) (reasons_one k p e h c)
    (ap (reasons cs) (after_apart k p e h c)
    ∙ reasons_apart cs x.counts x.presence (after c e) (range_next k p e h c))

pub calls_apart : (cs : List Call) (k : Counts) (p : ℕ) (e : End) → ltb lasting p ≡ ltb lasting e.presence
    → calls cs (beside k p e)
    ≡ beside (calls cs (beside k p e)).counts (calls cs (beside k p e)).presence (calls cs e)
unfolding calls
calls_apart [] k p e h = refl
calls_apart (c ∷ cs) k p e h =
    let x = after c (beside k p e) in
    own (calls cs (after c e))
    (ap (calls cs) (after_apart k p e h c)
    ∙ calls_apart cs x.counts x.presence (after c e) (range_next k p e h c))
