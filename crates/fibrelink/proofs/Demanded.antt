-- Demand 3's prefix part, what word 0 says, and the log.
--   nothing_lost, held_there, all_taken   the statements of specs/Demand.antt
--   table_two                             of specs/Status.antt
--   logs_true, entered_is                 of specs/LogFacts.antt
-- Assumes nothing.
use Prim.{tt}
use Prim.Native.Nat.{ℕ, suc, ◌+◌, ◌-◌, ◌≤◌}
use mathlib.Core.Bool.{Bool, true, false, cond, beq, false≢true}
use mathlib.Core.List.{List, [], ◌∷◌, ◌++◌, append_assoc, append-nil}
use mathlib.Core.Path.{◌≡◌, refl, sym, ap, ap₂, subst, ◌∙◌}
use native.Mathlib.Omega.{arith}
use lib.Dec.{ltb}
use lib.ListN.{length, length-append}
use borrow.Author.Tests.{ltb-true, ltb-false}
use Rattle.crc.specs.Bits.{odd}
use Rattle.weights.proofs.Weighed.{odd_is}
use Rattle.joined.specs.Joined.{Direction, near, far, also, InTurn}
use Rattle.protocol.specs.Steps.{num}
use Rattle.protocol.proofs.Keeps.{num_le}
use Rattle.fibrelink.specs.Link.{Message, message_in, message_out, message_of, Side, World, reset_world, Event, run}
use Rattle.fibrelink.specs.Demand.{ByRule, NothingLost, HeldThere, register_holds, in_flight, pending_in, held}
use Rattle.fibrelink.specs.Demand.{most_held, word_zero, bit_of, AllSaid, AllTaken}
use Rattle.fibrelink.specs.Status.{Row, table, row_of, Told, TableTwo}
use Rattle.fibrelink.specs.LogFacts.{LogFacts, LogsTrue, EnteredIs, ReadFacts, ReadsTrue}
use Rattle.fibrelink.proofs.Flight.{Stamp}
use Rattle.fibrelink.proofs.Chain.{Toggles, heard_entered, entered_loaded, read_gone}
use Rattle.fibrelink.proofs.Way.{Way, same_num, other_num}
use Rattle.fibrelink.proofs.Shown.{Zero, word_zero_lem}
use Rattle.fibrelink.proofs.Kept.{Kept, reset_kept, run_kept}
use Rattle.fibrelink.proofs.Took.{Took, took_after}

-- Nothing lost

also_length : (b : Bool) (m : Message) → length (also b m []) ≡ num b
also_length true m = refl
also_length false m = refl

module _ {fa fb : List Stamp} {near far : Side} (w : Way fa fb near far) where
  -- those accepted are those loaded and the one requested
  pub accepted_count : length near.host.accepted ≡ near.log.load_count + num near.end.transmit.txreq
  accepted_count =
      let a = ap (λ (l : List Message). length l) w.accepted in
      let b = length-append far.log.entered (in_flight near far ++ pending_in near) in
      let c = length-append (in_flight near far) (pending_in near) in
      let d = also_length i (message_of near.end.sent) in
      let e = also_length near.end.transmit.txreq (message_out near.end) in
      omega (arith, a, b, c, d, e, flying i refl)
    where
      i : Bool
      i = ltb (length far.log.entered) near.log.load_count

      flying : (b : Bool) → i ≡ b → length far.log.entered + num b ≡ near.log.load_count
      flying true e =
          let l = ltb-true (length far.log.entered) near.log.load_count e in
          omega (arith, l, heard_entered w.chain, entered_loaded w.chain, w.chain.few)
      flying false e =
          let l = ltb-false (length far.log.entered) near.log.load_count e in
          omega (arith, l, entered_loaded w.chain)

module _ {fa fb : List Stamp} {near far : Side} (w : Way fa fb near far) (t : Took far) where
  held_is : near.host.accepted ≡ far.host.taken ++ held near far
  held_is =
      w.accepted
      ∙ (ap (λ (l : List Message). l ++ (in_flight near far ++ pending_in near)) t.whole
      ∙ append_assoc far.host.taken (register_holds far) (in_flight near far ++ pending_in near))

  in_turn_lem : InTurn most_held near.host.accepted far.host.taken
  in_turn_lem = record { rest = held near far; whole = held_is; few = few }
    where
      i : Bool
      i = ltb (length far.log.entered) near.log.load_count

      lengths : length (held near far) ≡ num far.end.receive.rxval + (num i + num near.end.transmit.txreq)
      lengths =
          length-append (register_holds far) (in_flight near far ++ pending_in near)
          ∙ ap₂ (λ (x y : ℕ). x + y) (also_length far.end.receive.rxval (message_in far.end))
          (length-append (in_flight near far) (pending_in near)
          ∙ ap₂ (λ (x y : ℕ). x + y) (also_length i (message_of near.end.sent))
          (also_length near.end.transmit.txreq (message_out near.end)))

      few : length (held near far) ≤ most_held
      few =
          let a = num_le far.end.receive.rxval in
          let b = num_le i in
          let c = num_le near.end.transmit.txreq in
          omega (arith, lengths, a, b, c)

  -- Counts

  taken_count : length far.host.taken ≡ w.gone
  taken_count =
      let a = ap (λ (l : List Message). length l) t.whole in
      let b = length-append far.host.taken (register_holds far) in
      let c = also_length far.end.receive.rxval (message_in far.end) in
      omega (arith, a, b, c, w.full)

  waits : (t : Bool) → near.end.transmit.txreq ≡ t
      → length near.host.accepted ≡ cond t (suc near.log.load_count) near.log.load_count
  waits true e = omega (arith, accepted_count w, ap num e)
  waits false e = omega (arith, accepted_count w, ap num e)

  -- What word 0 says

  abbrev L : ℕ
  L = near.log.load_count

  -- message K has entered, was taken; and so was K - 1
  all_read : beq near.end.transmit.phyt near.end.sent.msgt ≡ true
      → beq near.end.transmit.mert near.end.sent.msgt ≡ true → L ≤ length far.host.taken
  all_read x y =
      let p = same_num near.end.transmit.phyt near.end.sent.msgt x in
      let m = same_num near.end.transmit.mert near.end.sent.msgt y in
      let c = w.chain in
      omega (
        arith,
        p,
        m,
        w.phyt,
        w.mert,
        w.msgt,
        heard_entered c,
        entered_loaded c,
        read_gone c,
        c.few,
        c.read_least,
        c.read_most,
        taken_count,
      )

  all_entered : beq near.end.transmit.phyt near.end.sent.msgt ≡ true → L ≤ length far.log.entered
  all_entered x =
      let p = same_num near.end.transmit.phyt near.end.sent.msgt x in
      let c = w.chain in
      omega (arith, p, w.phyt, w.msgt, heard_entered c, entered_loaded c, c.few)

  last_read : beq near.end.transmit.phyt near.end.sent.msgt ≡ false
      → beq near.end.transmit.mert near.end.sent.msgt ≡ false → L - 1 ≤ length far.host.taken
  last_read x y =
      let p = other_num near.end.transmit.phyt near.end.sent.msgt x in
      let m = other_num near.end.transmit.mert near.end.sent.msgt y in
      let c = w.chain in
      omega (
        arith,
        p,
        m,
        w.phyt,
        w.mert,
        w.msgt,
        heard_entered c,
        entered_loaded c,
        read_gone c,
        c.few,
        c.read_least,
        c.read_most,
        taken_count,
      )

  last_entered : L - 1 ≤ length far.log.entered
  last_entered = omega (arith, heard_entered w.chain, w.chain.few)

  -- where K has entered, K - 1 was taken
  before_read : beq near.end.transmit.phyt near.end.sent.msgt ≡ true → L - 1 ≤ length far.host.taken
  before_read x = omega (arith, all_entered x, w.chain.gone_least, taken_count)

  told_as : (t x y : Bool) → near.end.transmit.txreq ≡ t
      → beq near.end.transmit.phyt near.end.sent.msgt ≡ x
      → beq near.end.transmit.mert near.end.sent.msgt ≡ y → Told (table t x y) near far
  told_as false true true e x y = record {
    waiting = waits false e;
    sending = all_read x y;
    before = before_read x;
  }
  told_as false false false e x y = record { waiting = waits false e; sending = tt; before = last_read x y }
  told_as false true false e x y = record {
    waiting = waits false e;
    sending = all_entered x;
    before = before_read x;
  }
  told_as false false true e x y = record { waiting = waits false e; sending = tt; before = last_entered }
  told_as true true true e x y = record { waiting = waits true e; sending = all_read x y; before = before_read x }
  told_as true false false e x y = record { waiting = waits true e; sending = tt; before = last_read x y }
  told_as true true false e x y = record { waiting = waits true e; sending = all_entered x; before = before_read x }
  told_as true false true e x y = record { waiting = waits true e; sending = tt; before = last_entered }

  told : Told (row_of (word_zero near)) near far
  told =
      subst (λ (r : Row). Told r near far) (sym row_is)
      (told_as near.end.transmit.txreq (beq near.end.transmit.phyt near.end.sent.msgt)
      (beq near.end.transmit.mert near.end.sent.msgt) refl refl refl)
    where
      z : Zero near.end (word_zero near)
      z = word_zero_lem near.end w.near_good

      row_is :
          row_of (word_zero near)
          ≡ table near.end.transmit.txreq (beq near.end.transmit.phyt near.end.sent.msgt)
          (beq near.end.transmit.mert near.end.sent.msgt)
      row_is =
          ap₂ (λ (t g : Bool). table t (beq (bit_of 14 (word_zero near)) g) (beq (bit_of 13 (word_zero near)) g))
          z.txreq z.msgt
          ∙ ap₂ (λ (p m : Bool). table near.end.transmit.txreq (beq p near.end.sent.msgt)
          (beq m near.end.sent.msgt)) z.phyt z.mert

  all_said : AllSaid (word_zero near) → near.host.accepted ≡ far.host.taken
  all_said s =
      held_is
      ∙ (ap (λ (l : List Message). far.host.taken ++ l) (empty (held near far) none) ∙ append-nil far.host.taken)
    where
      z : Zero near.end (word_zero near)
      z = word_zero_lem near.end w.near_good

      equal : {a b c d : Bool} → a ≡ c → b ≡ d → a ≡ b → beq c d ≡ true
      equal {a} {b} {c} {d} p q e = same c d (sym p ∙ (e ∙ q))
        where
          same : (c d : Bool) → c ≡ d → beq c d ≡ true
          same true true h = refl
          same true false h = absurd (false≢true (sym h))
          same false true h = absurd (false≢true h)
          same false false h = refl

      read : L ≤ length far.host.taken
      read = all_read (equal z.phyt z.msgt s.received) (equal z.mert z.msgt s.read)

      unrequested : num near.end.transmit.txreq ≡ 0
      unrequested = ap num (sym z.txreq ∙ s.no_request)

      none : length (held near far) ≡ 0
      none =
          let a = ap (λ (l : List Message). length l) held_is in
          let b = length-append far.host.taken (held near far) in
          omega (arith, a, b, accepted_count w, unrequested, read)

      empty : (l : List Message) → length l ≡ 0 → l ≡ []
      empty [] h = refl
      empty (x ∷ l) h = absurd (omega (arith, h))

-- After every run

module _ (d : Direction) (D E : ℕ) (es : List Event) where
  kept : Kept d D E (run D E es reset_world)
  kept = run_kept d D E es reset_world (reset_kept d D E)

by_rule : (P : Side → Side → Type 0)
    → ((fa fb : List Stamp) (near far : Side) → Way fa fb near far → Took far → P near far) → ByRule P
by_rule P f d D E es r w e =
    subst (λ (x : World). P (near d x) (far d x)) (sym e)
    (f (kept d D E es).fa (kept d D E es).fb (near d (run D E es reset_world)) (far d (run D E es reset_world))
    (kept d D E es).way (took_after d D E es r))

pub nothing_lost : NothingLost
nothing_lost =
    by_rule (λ near far. InTurn most_held near.host.accepted far.host.taken) (λ _ _ _ _ w t. in_turn_lem w t)

pub held_there : HeldThere
held_there = by_rule (λ near far. near.host.accepted ≡ far.host.taken ++ held near far) (λ _ _ _ _ w t. held_is w t)

pub all_taken : AllTaken
all_taken =
    by_rule (λ near far. AllSaid (word_zero near) → near.host.accepted ≡ far.host.taken)
    (λ _ _ _ _ w t. all_said w t)

pub table_two : TableTwo
table_two = by_rule (λ near far. Told (row_of (word_zero near)) near far) (λ _ _ _ _ w t. told w t)

pub entered_is : EnteredIs
entered_is = by_rule (λ near far. far.log.entered ≡ far.host.taken ++ register_holds far) (λ _ _ _ _ w t. t.whole)

toggle_is : (b : Bool) (n : ℕ) → Toggles b n → b ≡ odd n
toggle_is b n e = sym (odd_is b n (sym e))

log_facts : {fa fb : List Stamp} {near far : Side} → Way fa fb near far → LogFacts near far
log_facts w = record {
  acknowledged = heard_entered w.chain;
  loaded = entered_loaded w.chain;
  one = w.chain.few;
  accepted = w.accepted;
  msgt = toggle_is _ _ w.msgt;
  phyt = toggle_is _ _ w.phyt;
  sent_phyt = toggle_is _ _ w.sent_phyt;
}

pub logs_true : LogsTrue
logs_true d D E es w e =
    subst (λ (x : World). LogFacts (near d x) (far d x)) (sym e) (log_facts (kept d D E es).way)

pub reads_true : ReadsTrue
reads_true =
    by_rule ReadFacts
    (λ _ _ _ far w t. record {
      sent_mert =
          toggle_is _ _ (subst (λ (n : ℕ). Toggles far.end.sent.mert n) (sym (taken_count w t)) w.sent_mert);
      toggle = λ h. toggle_is _ _ (w.toggle h);
    })
