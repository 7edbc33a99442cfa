-- A slot in which nothing that arrives is marked: the message goes on by the schedule.
--   now_or_before   the two ways in which a slot is reached by now
--   Leaves          taking a symbol leaves the host and the counts
--   last_place      when the last symbol of a frame arrives
--   loaded_by, done_by, ranks_by, entries_by, entered_by, heard_by   each thing, by its time
--   slot_progress   what has happened after one slot more
-- Assumes nothing.
use Prim.Native.Nat.{ℕ, zero, suc, ◌+◌, ◌*◌, ◌%◌, ◌≤◌, ◌<◌}
use mathlib.Core.Bool.{Bool, true, false, cond, false≢true}
use mathlib.Core.List.{List, [], ◌∷◌}
use mathlib.Core.Path.{◌≡◌, refl, sym, ap, ◌∙◌, subst}
use native.Mathlib.Nat.{le_refl, le_trans, le_of_eq}
use native.Mathlib.Omega.{arith}
use lib.Dec.{eqb, ltb}
use lib.ListN.{length, get_or}
use borrow.Author.Tests.{ltb-true, ltb-false, eqb-false, eq-eqb}
use Rattle.receiver.specs.declared.Collector.{Collector}
use Rattle.receiver.specs.declared.Inbox.{Inbox}
use Rattle.receiver.specs.Receiving.{placed, said_by, enters}
use Rattle.end.specs.Taking.{settled, take_of}
use Rattle.endlaws.proofs.Left.{send_leaves}
use Rattle.protocol.specs.Steps.{num}
use Rattle.link.specs.Link.{Message, Host, Side, message_in, acks_now, loads_now, sends, Harm, arriving, enters_now}
use Rattle.link.specs.Link.{taking}
use Rattle.link.proofs.Line.{Cell, cell_at, frame_at, rank, Line}
use Rattle.link.proofs.Line.Sent.{sends_as, cell_sent}
use Rattle.link.proofs.Invariant.Logs.{length_more}
use Rattle.link.proofs.Invariant.OneWay.{no_message}
use Rattle.link.proofs.Invariant.{Inv, exchanged}
use Rattle.link.proofs.Kept.Sending.{no_less, new_loads, acknowledged_is}
use Rattle.link.proofs.Kept.Taking.{taking_by}
use Rattle.link.proofs.Kept.Slot.{cell_of, frame_arrives, hears, both_sent, arrive_case}
use Rattle.link.proofs.PartTwo.Progress.{Schedule, Abreast, Prog, longer}
use Rattle.link.proofs.PartTwo.Arrival.{NoneMarked, arrival_abreast, arrival_entered, arrival_heard}

now_or_before : (P : Type 0) (t n : ℕ) → t < suc n → (t < n → P) → (t ≡ n → P) → P
now_or_before P t n h f g = go (ltb t n) refl
  where
    go : (b : Bool) → ltb t n ≡ b → P
    go true e = f (ltb-true t n e)
    go false e = g (omega (arith, ltb-false t n e))

record Leaves (x y : Side) : Type 0 where
  host : x.host ≡ y.host
  load_count : x.log.load_count ≡ y.log.load_count
  ack_count : x.log.ack_count ≡ y.log.ack_count

taking_leaves : (l : List ℕ) (s : Side) → Leaves (taking l s) s
unfolding taking
taking_leaves [] s = record { host = refl; load_count = refl; ack_count = refl }
taking_leaves (y ∷ l) s = record { host = refl; load_count = refl; ack_count = refl }

taking_longer : (l : List ℕ) (s : Side) → length s.log.entered ≤ length (taking l s).log.entered
unfolding taking
taking_longer [] s = le_refl _
taking_longer (y ∷ l) s = longer (enters_now y s.end) s.log.entered (message_in (take_of s.end y).end)

-- a frame that started in slot t has its last symbol arriving d slots and eleven more after it
last_place : {cs : List Cell} → Line cs → (d t : ℕ) {n : ℕ} → length cs ≡ suc n → d < length cs → t % 12 ≡ 0
    → t + 11 + d ≡ n
    → (cell_at cs d).place ≡ 11
last_place {cs} line d t {n} long there start e = eleven (line.places d there) (line.within d)
  where
    eleven : {p : ℕ} → (p + (d + 1)) % 12 ≡ length cs % 12 → p < 12 → p ≡ 11
    eleven x y = omega arith

module _ {a b : Side} {ca cb : List Cell} {D E pa pb k n₀ t₁ t₂ t₃ : ℕ} {m : Message} (v : Inv a b ca cb D E pa pb)
    (level : length ca ≡ length cb) (s : Schedule n₀ D E t₁ t₂ t₃)
    (g : Prog a b ca cb D E pa k n₀ t₁ t₂ t₃ (length ca) m) where
  abbrev n : ℕ
  n = length ca

  abbrev ca' : List Cell
  ca' = cell_of a ca ∷ ca

  abbrev cb' : List Cell
  cb' = cell_of b cb ∷ cb

  position_a : n % 12 ≡ 0 → eqb a.end.sender.position 0 ≡ true
  position_a z = eq-eqb _ 0 (v.fit_a.sender.position ∙ z)

  acked_more : a.log.ack_count ≤ (sends a).log.ack_count
  acked_more = no_less (acks_now a.end) a.log.ack_count

  loaded_by : t₁ < suc n → k < (sends a).log.load_count
  loaded_by h =
      now_or_before (k < (sends a).log.load_count) t₁ n h
      (λ l. le_trans (g.loaded l) (no_less (loads_now a.end) a.log.load_count))
      (λ e.
      let t = position_a (ap (λ (m : ℕ). m % 12) (sym e) ∙ s.start₁) in
      subst (λ (x : Side). k < x.log.load_count) (sym (sends_as a true v.fit_a.good t))
      (new_loads v t k g.acknowledged g.accepted))

  done_by : t₃ < suc n → k < (sends a).log.ack_count
  done_by h =
      now_or_before (k < (sends a).log.ack_count) t₃ n h
      (λ l. le_trans (g.done l) acked_more)
      (λ e.
      let t = position_a (ap (λ (m : ℕ). m % 12) (sym e) ∙ s.start₃) in
      subst (λ (x : Side). k < x.log.ack_count) (sym (sends_as a true v.fit_a.good t))
      (subst (λ (m : ℕ). k < m) (sym (acknowledged_is v t)) (g.heard (le_trans s.third (le_of_eq e)))))

  ranks_by : (i : ℕ) → i + t₁ < suc n → 2 * k + 1 ≤ rank (frame_at ca' i)
  ranks_by zero h =
      subst (λ (x : ℕ). 2 * k + 1 ≤ x) (sym (both_sent v).ab.onward.newest)
      (sum (le_trans g.acknowledged acked_more) (loaded_by (omega arith)))
    where
      sum : {p q : ℕ} → k ≤ p → k < q → 2 * k + 1 ≤ p + q
      sum x y = omega arith
  ranks_by (suc i) h = g.ranks i (omega arith)

  entries_by : (i : ℕ) → i + t₂ < suc n → k < (frame_at cb' i).enter_count
  entries_by zero h = go (eqb b.end.sender.position 0) refl
    where
      go : (t : Bool) → eqb b.end.sender.position 0 ≡ t → k < (cell_sent t b cb).frame.enter_count
      go true e = g.entered (omega (arith, s.second))
      go false e =
          g.entries 0
          (later (eqb-false _ _ e) (v.fit_b.sender.position ∙ ap (λ (m : ℕ). m % 12) (sym level)) s.start₂)
        where
          later : {p : ℕ} → (p ≡ 0 → ⊥) → p ≡ n % 12 → t₂ % 12 ≡ 0 → 0 + t₂ < n
          later x y z = omega arith
  entries_by (suc i) h = g.entries i (omega arith)

  -- the collections are as they were before the sending
  sent_abreast_b : Abreast (sends b).end.collector ca' (suc D) (suc n₀) (suc n)
  sent_abreast_b h p =
      ap (λ (c : Collector). c.count) (send_leaves b.end).collector ∙ g.abreast_b (omega arith) (omega arith)

  sent_abreast_a : Abreast (sends a).end.collector cb' (suc E) (suc n₀) (length cb')
  sent_abreast_a h p =
      ap (λ (c : Collector). c.count) (send_leaves a.end).collector
      ∙ g.abreast_a (omega (arith, level)) (omega (arith, level))

  -- the far register has room when the message comes
  abbrev Left : Side → Type 0
  Left x = k + num x.end.inbox.full ≤ length x.log.entered

  sent_left : Left (sends b)
  sent_left = subst (λ (i : Inbox). k + num i.full ≤ n_entered) (sym (send_leaves b.end).inbox) g.left
    where
      n_entered : ℕ
      n_entered = length b.log.entered

  takes_left : (y : ℕ) (t e : Bool)
      → enters t (said_by (placed y (sends b).end.collector)) (settled (sends b).end) ≡ e
      → Left (taking_by t e y (sends b))
  takes_left y t true q =
      more (length b.log.entered) _ (num (sends b).end.inbox.full) (length_more b.log.entered _) sent_left
    where
      more : (x z f : ℕ) → z ≡ suc x → k + f ≤ x → k + 1 ≤ z
      more x z f e h = omega arith
  takes_left y t false q = sent_left

  module _ (ha hb : Harm) (none-a : NoneMarked E ha (sends b)) (none-b : NoneMarked D hb (sends a)) where
    abbrev to_a : List ℕ
    to_a = arriving E ha (sends b).sent

    abbrev to_b : List ℕ
    to_b = arriving D hb (sends a).sent

    abbrev a' : Side
    a' = taking to_a (sends a)

    abbrev b' : Side
    b' = taking to_b (sends b)

    entered_by : t₁ + 12 + D ≤ suc n → k < length b'.log.entered
    entered_by h =
        now_or_before (k < length b'.log.entered) (t₁ + 11 + D) n (omega arith)
        (λ l. le_trans (g.entered (omega arith)) (taking_longer to_b (sends b)))
        (λ e.
        let there : D < suc n = omega arith in
        arrival_entered (both_sent v) n₀ sent_abreast_b hb none-b there
        (last_place (both_sent v).fit_a.line D t₁ refl there s.start₁ e) (omega (arith, s.first)) k sent_left
        (ranks_by D (omega arith)))

    heard_by : t₂ + 12 + E ≤ suc n → k < hears E to_a (sends a) cb' pa
    heard_by h = go (frame_arrives to_a (sends a).end.collector) refl
      where
        go : (t : Bool) → frame_arrives to_a (sends a).end.collector ≡ t → k < cond t (frame_at cb' E).enter_count pa
        go true q = entries_by E (omega arith)
        go false q =
            now_or_before (k < pa) (t₂ + 11 + E) n (omega arith)
            (λ l. g.heard (omega arith))
            (λ e.
            let there : E < length cb' = omega (arith, level) in
            absurd (false≢true (sym q ∙ arrival_heard (exchanged (both_sent v)) n₀ sent_abreast_a ha none-a there
            (last_place (both_sent v).fit_b.line E t₂ (ap suc (sym level)) there s.start₂ e)
            (omega (arith, level, s.first, s.second)))))

    pub slot_progress : Prog a' b' ca' cb' D E (hears E to_a (sends a) cb' pa) k n₀ t₁ t₂ t₃ (suc n) m
    slot_progress = record {
      acknowledged = subst (λ (m : ℕ). k ≤ m) (sym near.ack_count) (le_trans g.acknowledged acked_more);
      accepted = subst (λ (h : Host). k < length h.accepted) (sym near.host) g.accepted;
      message = ap (λ (h : Host). get_or h.accepted k no_message) near.host ∙ g.message;
      left = arrive_case (both_sent v) Left sent_left takes_left hb;
      loaded = λ h. subst (λ (m : ℕ). k < m) (sym near.load_count) (loaded_by h);
      ranks = ranks_by;
      abreast_b = arrival_abreast (both_sent v) n₀ sent_abreast_b hb none-b;
      entered = entered_by;
      entries = entries_by;
      abreast_a =
          subst (λ (m : ℕ). Abreast a'.end.collector cb' E n₀ (suc m)) (sym level)
          (arrival_abreast (exchanged (both_sent v)) n₀ sent_abreast_a ha none-a);
      heard = heard_by;
      done = λ h. subst (λ (m : ℕ). k < m) (sym near.ack_count) (done_by h);
    }
      where
        near : Leaves a' (sends a)
        near = taking_leaves to_a (sends a)

        far : Leaves b' (sends b)
        far = taking_leaves to_b (sends b)
