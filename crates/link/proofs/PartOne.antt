-- Demand 3, first part: accepted = taken ++ far register ++ in the sender and not yet entered ++ pending. And beside it
-- the facts on the log.
--   take_also      the first so many of what was accepted, with the next one where it stands in a place
--   held_there, few, entered_are, log_facts   what the invariants say of one way
--   always, by_rule   what follows from them is true after every run, both ways
--   nothing_lost, held_where, entered_is, logs_true   so these are
-- Assumes nothing.
use Prim.Native.Nat.{ℕ, ◌+◌, ◌≤◌, ◌<◌}
use mathlib.Core.Bool.{Bool, true, false, cond}
use mathlib.Core.List.{List, ◌∷◌, [], ◌++◌, append_assoc, append-nil}
use mathlib.Core.Path.{◌≡◌, refl, sym, ap, ◌∙◌, subst}
use native.Mathlib.Nat.{add-zero}
use native.Mathlib.Numerals.{add-one}
use native.Mathlib.Omega.{arith}
use lib.Dec.{ltb}
use lib.ListN.{length, get_or, take, length-append}
use lib.Seq.{take-suc, take_all}
use borrow.Author.Tests.{ltb-true, ltb-false}
use Rattle.protocol.specs.Steps.{num}
use Rattle.protocol.proofs.Keeps.{pending_below}
use Rattle.link.specs.Link.{Message, Side, World, Direction, a_to_b, b_to_a, near, far, reset_world, message_in, also}
use Rattle.link.specs.Demand.{ByRule, Always, most_held, InTurn, NothingLost, message_out, pending_in, message_sent}
use Rattle.link.specs.Demand.{sender_holds, register_holds, held, HeldThere}
use Rattle.link.specs.LogFacts.{LogFacts, LogsTrue, EnteredIs}
use Rattle.link.proofs.Line.{Cell}
use Rattle.link.proofs.Invariant.OneWay.{no_message}
use Rattle.link.proofs.Invariant.{Inv, exchanged, acknowledged_entered, loaded_next}
use Rattle.link.proofs.Kept.{Kept, reset_kept, run_kept}
use Rattle.link.proofs.Taken.Reading.{Took}
use Rattle.link.proofs.Taken.{Taker, taker_kept}

take_also : (acc : List Message) (n : ℕ) (b : Bool) (m : Message)
    → (b ≡ true → (n < length acc) × (get_or acc n no_message ≡ m)) → take n acc ++ also b m [] ≡ take (n + num b) acc
take_also acc n true m h =
    ap (λ (x : Message). take n acc ++ (x ∷ [])) (sym (h refl).1)
    ∙ sym (take-suc acc n no_message (h refl).0)
    ∙ ap (λ (k : ℕ). take k acc) (sym (add-one n))
take_also acc n false m h = append-nil (take n acc) ∙ ap (λ (k : ℕ). take k acc) (sym (add-zero n))

-- each place holds at most one
also_length : (b : Bool) (m : Message) → length (also b m []) ≤ 1
also_length true m = omega arith
also_length false m = omega arith

also_num : (b : Bool) (m : Message) → num b ≡ length (also b m [])
also_num true m = refl
also_num false m = refl

unready : (r : Bool) (ld ackd : ℕ) → ld + num r ≡ ackd + 1 → ld ≡ ackd + cond r 0 1
unready true ld ackd e = omega arith
unready false ld ackd e = omega arith

module _ {a b : Side} {ca cb : List Cell} {D E pa pb : ℕ} (v : Inv a b ca cb D E pa pb) where
  abbrev acc : List Message
  acc = a.host.accepted

  abbrev ent : ℕ
  ent = length b.log.entered

  accepted_is : length acc ≡ a.log.load_count + num a.end.outbox.pending
  accepted_is = v.ab.holding.sending.accepted

  -- a message that was loaded and has not entered is the one in the sender
  sender_there : ltb ent a.log.load_count ≡ true
      → (ent < length acc) × (get_or acc ent no_message ≡ message_sent a.end)
  sender_there q = go a.end.sender.ready refl v.ab.holding.sending.loaded
    where
      less : ent < a.log.load_count
      less = ltb-true ent a.log.load_count q

      go : (r : Bool) → a.end.sender.ready ≡ r → a.log.load_count + num r ≡ a.log.ack_count + 1
          → (ent < length acc) × (get_or acc ent no_message ≡ message_sent a.end)
      go true e l = absurd (omega (arith, less, acknowledged_entered v))
      go false e l =
          let same : ent ≡ a.log.ack_count = omega (arith, less, acknowledged_entered v) in
          (omega (arith, accepted_is, less), ap (λ (n : ℕ). get_or acc n no_message) same ∙ v.ab.holding.sent e)

  loaded_is : ent + num (ltb ent a.log.load_count) ≡ a.log.load_count
  loaded_is = go (ltb ent a.log.load_count) refl (acknowledged_entered v) (loaded_next v) v.ab.order
    where
      go : (t : Bool) → ltb ent a.log.load_count ≡ t → a.log.ack_count ≤ ent
          → a.log.load_count ≤ a.log.ack_count + 1 → ent ≤ a.log.load_count → ent + num t ≡ a.log.load_count
      go true t from next order = omega (arith, ltb-true ent a.log.load_count t)
      go false t from next order = omega (arith, ltb-false ent a.log.load_count t)

  sender : take ent acc ++ sender_holds a b ≡ take a.log.load_count acc
  sender = take_also acc ent _ _ sender_there ∙ ap (λ (n : ℕ). take n acc) loaded_is

  pending : take a.log.load_count acc ++ pending_in a ≡ acc
  pending =
      take_also acc a.log.load_count _ _
      (λ q. (pending_below v.ab.holding.sending q, v.ab.holding.pending q))
      ∙ ap (λ (n : ℕ). take n acc) (sym accepted_is)
      ∙ take_all (length acc) acc (omega arith)

  pub few : length (held a b) ≤ most_held
  few =
      three (length-append (register_holds b) (sender_holds a b ++ pending_in a))
      (length-append (sender_holds a b) (pending_in a)) (also_length b.end.inbox.full _)
      (also_length (ltb ent a.log.load_count) _) (also_length a.end.outbox.pending _)
    where
      three : {x y r s p : ℕ} → x ≡ r + y → y ≡ s + p → r ≤ 1 → s ≤ 1 → p ≤ 1 → x ≤ most_held
      three e f g h k = omega arith

  pub log_facts : LogFacts a b
  log_facts = record {
    acknowledged = acknowledged_entered v;
    pending =
        accepted_is
        ∙ ap (λ (n : ℕ). a.log.load_count + n) (also_num a.end.outbox.pending (message_out a.end));
    ready = unready a.end.sender.ready a.log.load_count a.log.ack_count v.ab.holding.sending.loaded;
  }

  -- b's host takes by the rule
  module _ (t : Took b.end.inbox b.host a.host.accepted b.log.entered) where
    abbrev tk : ℕ
    tk = length b.host.taken

    full_there : b.end.inbox.full ≡ true → (tk < length acc) × (get_or acc tk no_message ≡ message_in b.end)
    full_there q = (
      below (ap num q) t.count v.ab.order,
      ap (λ (n : ℕ). get_or acc n no_message) (same ent tk v.ab.filling.gone (num b.end.inbox.full) t.count
          v.ab.filling.receiving.taken)
          ∙ v.ab.filling.register q,
    )
      where
        below : {f : ℕ} → f ≡ 1 → ent ≡ tk + f → ent ≤ a.log.load_count → tk < length acc
        below e f g = omega (arith, accepted_is)

        same : (x y z f : ℕ) → x ≡ y + f → x ≡ z + f → y ≡ z
        same x y z f e g = omega arith

    register : b.host.taken ++ register_holds b ≡ take ent acc
    register =
        ap (λ (l : List Message). l ++ register_holds b) t.taken_is
        ∙ take_also acc tk _ _ full_there
        ∙ ap (λ (n : ℕ). take n acc) (sym t.count)

    pub entered_are : b.log.entered ≡ b.host.taken ++ register_holds b
    entered_are = v.ab.filling.entered_is ∙ sym register

    pub held_there : acc ≡ b.host.taken ++ held a b
    held_there =
        sym (sym (append_assoc b.host.taken (register_holds b) (sender_holds a b ++ pending_in a))
        ∙ ap (λ (l : List Message). l ++ (sender_holds a b ++ pending_in a)) register
        ∙ sym (append_assoc (take ent acc) (sender_holds a b) (pending_in a))
        ∙ ap (λ (l : List Message). l ++ pending_in a) sender
        ∙ pending)

abbrev AsKept : Side → Side → Type 0 → Type 0
AsKept a b P = (ca cb : List Cell) (D E pa pb : ℕ) → Inv a b ca cb D E pa pb → P

kept_so : (P : Side → Side → Type 0) (d : Direction) (D E : ℕ) (w : World) → Kept D E w
    → AsKept (near d w) (far d w) (P (near d w) (far d w)) → P (near d w) (far d w)
kept_so P a_to_b D E w k f = f _ _ _ _ _ _ k.inv
kept_so P b_to_a D E w k f = f _ _ _ _ _ _ (exchanged k.inv)

pub always : (P : Side → Side → Type 0) → ((a b : Side) → AsKept a b (P a b)) → Always P
always P f d D E es w is =
    kept_so P d D E w (subst (λ (w : World). Kept D E w) (sym is) (run_kept D E es reset_world (reset_kept D E))) (f _ _)

by_rule : (P : Side → Side → Type 0)
    → ((a b : Side) → Took b.end.inbox b.host a.host.accepted b.log.entered → AsKept a b (P a b))
    → ByRule P
by_rule P f d D E es q w is =
    kept_so P d D E w (subst (λ (w : World). Kept D E w) (sym is) (run_kept D E es reset_world (reset_kept D E)))
    (f _ _ (subst (λ (w : World). Taker d w) (sym is) (taker_kept d D E es q)))

pub nothing_lost : NothingLost
nothing_lost =
    by_rule (λ near far. InTurn most_held near.host.accepted far.host.taken)
    (λ a b t ca cb D E pa pb v. record { rest = held a b; whole = held_there v t; few = few v })

pub held_where : HeldThere
held_where = by_rule (λ near far. near.host.accepted ≡ far.host.taken ++ held near far)
    (λ a b t ca cb D E pa pb v. held_there v t)

pub logs_true : LogsTrue
logs_true = always LogFacts (λ a b ca cb D E pa pb v. log_facts v)

pub entered_is : EnteredIs
entered_is = by_rule (λ near far. far.log.entered ≡ far.host.taken ++ register_holds far)
    (λ a b t ca cb D E pa pb v. entered_are v t)
