-- Taking a block keeps what every run keeps.
--   near_takes, far_takes   a side takes the oldest block in flight; near_loses, far_loses: it is spoilt
--   near_hears, far_enters  what is heard then, and what has entered
-- Assumes nothing.
use Prim.Native.Nat.{ℕ, suc, ◌+◌, ◌≤◌}
use mathlib.Core.Bool.{Bool, true, false, not, cond, beq, true≢false, false≢true}
use mathlib.Core.List.{List, [], ◌∷◌, ◌++◌, append_assoc}
use mathlib.Core.Path.{◌≡◌, refl, sym, ap, subst, ◌∙◌}
use native.Mathlib.Omega.{arith}
use lib.Dec.{eqb, ltb}
use lib.ListN.{length, length-append}
use borrow.Author.Tests.{lt-ltb, le-ltb, eqb-true, eqb-false}
use Rattle.fibre.specs.declared.Block.{Block}
use Rattle.fibre.specs.Good.{bad}
use Rattle.fibre.specs.Taking.{enters}
use Rattle.fibre.specs.Calls.{Call}
use Rattle.fibrelaws.proofs.Reached.{after_good}
use Rattle.joined.specs.Joined.{also}
use Rattle.laws.proofs.Bools.{and_both, and-true}
use Rattle.protocol.specs.Steps.{num}
use Rattle.fibrelink.specs.Link.{Message, message_out, message_of, Side, differ, takes}
use Rattle.fibrelink.proofs.Flight.{Stamp}
use Rattle.fibrelink.proofs.Chain.{Toggles, Tells, Chain, hear, told_last, heard_next, lose_back}
use Rattle.fibrelink.proofs.Chain.{carried_last, loads_next, lose_forth, enter}
use Rattle.fibrelink.proofs.Steps.{took_as, takes_as}
use Rattle.fibrelink.proofs.Way.{Way, same_num, other_num}

-- the end that a side has after it has taken a block
took_good : (s : Side) (b : Block) → bad s.end ≡ false → ltb 4095 b.control ≡ false
    → bad (took_as (enters b s.end) b s).end ≡ false
took_good s b g f =
    subst (λ (x : Side). bad x.end ≡ false) (takes_as s (enters b s.end) b g f refl)
    (after_good (Call.take false b) s.end g)

-- At the near side

-- PHYT changes exactly where the count is the next one
counted : (p q : Bool) (h n : ℕ) → Toggles p h → Toggles q n → h ≤ n → n ≤ suc h → cond (differ p q) (suc h) h ≡ n
counted p q h n e f l u = go (beq p q) refl
  where
    go : (b : Bool) → beq p q ≡ b → cond (not b) (suc h) h ≡ n
    go true k = omega (arith, same_num p q k, e, f, l, u)
    go false k = omega (arith, other_num p q k, e, f, l, u)

module _ {fa : List Stamp} (fb : List Stamp) (y : Stamp) {near far : Side} (w : Way fa (fb ++ (y ∷ [])) near far) where
  pub near_loses : Way fa fb near far
  near_loses = record {
    near_good = w.near_good;
    far_good = w.far_good;
    gone = w.gone;
    read = w.read;
    chain = lose_back fb y w.chain;
    msgt = w.msgt;
    phyt = w.phyt;
    mert = w.mert;
    sent_phyt = w.sent_phyt;
    sent_mert = w.sent_mert;
    toggle = w.toggle;
    full = w.full;
    accepted = w.accepted;
    written = w.written;
  }

  near_takes_as : (n : Bool) → bad (took_as n y.block near).end ≡ false → Way fa fb (took_as n y.block near) far
  near_takes_as n g = record {
    near_good = g;
    far_good = w.far_good;
    gone = w.gone;
    read = y.gone;
    chain =
        subst (λ (h : ℕ). Chain near.log.load_count h (length far.log.entered) w.gone y.gone
        (message_of near.end.sent) fa fb)
        (sym heard_is) (hear fb y w.chain);
    msgt = w.msgt;
    phyt = subst (λ (h : ℕ). Toggles y.block.phyt h) (sym heard_is) told.phyt;
    mert = told.mert;
    sent_phyt = w.sent_phyt;
    sent_mert = w.sent_mert;
    toggle = w.toggle;
    full = w.full;
    accepted = w.accepted;
    written = w.written;
  }
    where
      told : Tells y
      told = told_last fb y w.chain

      heard_is : (took_as n y.block near).log.ack_count ≡ y.entered
      heard_is =
          counted near.end.transmit.phyt y.block.phyt near.log.ack_count y.entered w.phyt told.phyt
          (heard_next fb y w.chain).0 (heard_next fb y w.chain).1

  -- what is heard then
  pub near_hears : (takes (record { marked = false; block = y.block }) near).log.ack_count ≡ y.entered
  near_hears =
      let t = told_last fb y w.chain in
      let n = enters y.block near.end in
      ap (λ (x : Side). x.log.ack_count) (takes_as near n y.block w.near_good t.fine refl)
      ∙ counted near.end.transmit.phyt y.block.phyt near.log.ack_count y.entered w.phyt t.phyt
      (heard_next fb y w.chain).0 (heard_next fb y w.chain).1

  pub near_takes : Way fa fb (takes (record { marked = false; block = y.block }) near) far
  near_takes =
      let f = (told_last fb y w.chain).fine in
      let n = enters y.block near.end in
      subst (λ (x : Side). Way fa fb x far) (sym (takes_as near n y.block w.near_good f refl))
      (near_takes_as n (took_good near y.block w.near_good f))

-- At the far side

module _ (fa : List Stamp) {fb : List Stamp} (x : Stamp) {near far : Side} (w : Way (fa ++ (x ∷ [])) fb near far) where
  pub far_loses : Way fa fb near far
  far_loses = record {
    near_good = w.near_good;
    far_good = w.far_good;
    gone = w.gone;
    read = w.read;
    chain = lose_forth fa x w.chain;
    msgt = w.msgt;
    phyt = w.phyt;
    mert = w.mert;
    sent_phyt = w.sent_phyt;
    sent_mert = w.sent_mert;
    toggle = w.toggle;
    full = w.full;
    accepted = w.accepted;
    written = w.written;
  }

  abbrev N : ℕ
  N = length far.log.entered

  abbrev L : ℕ
  L = near.log.load_count

  -- what enters is the next message, which is the last one loaded; the receive words were read out
  pub next : enters x.block far.end ≡ true → (x.loads ≡ suc N) × (L ≡ suc N) × (w.gone ≡ N)
  next e =
      let t = and_both (differ x.block.msgt far.end.sent.phyt) _ e in
      let u = unlike (beq x.block.msgt far.end.sent.phyt) t.0 in
      let o = other_num x.block.msgt far.end.sent.phyt u in
      let c = (carried_last fa x w.chain).msgt in
      let r = loads_next fa x w.chain in
      let s : x.loads ≡ suc N = omega (arith, o, c, w.sent_phyt, r.0, r.1, r.2) in
      (s, omega (arith, s, r.1, r.2), empty far.end.receive.rxval t.1 w.full)
    where
      unlike : (b : Bool) → not b ≡ true → b ≡ false
      unlike true h = sym h
      unlike false h = refl

      empty : (v : Bool) → not v ≡ true → N ≡ w.gone + num v → w.gone ≡ N
      empty true h f = absurd (false≢true h)
      empty false h f = omega (arith, f)

  longer : (l : List Message) (m : Message) → length (l ++ (m ∷ [])) ≡ suc (length l)
  longer l m = simp length-append (omega arith)

  far_takes_as : (n : Bool) → enters x.block far.end ≡ n → bad (took_as n x.block far).end ≡ false
      → Way fa fb near (took_as n x.block far)
  far_takes_as true e g = record {
    near_good = w.near_good;
    far_good = g;
    gone = w.gone;
    read = w.read;
    chain =
        subst (λ (n : ℕ). Chain L near.log.ack_count n w.gone w.read (message_of near.end.sent) fa fb)
        (sym more) (enter fa x w.chain is.0 is.2);
    msgt = w.msgt;
    phyt = w.phyt;
    mert = w.mert;
    sent_phyt = turned;
    sent_mert = w.sent_mert;
    toggle = λ _. turned;
    full = omega (arith, more, is.2);
    accepted =
        w.accepted
        ∙ (ap (λ (i : Bool). far.log.entered ++ (also i (message_of near.end.sent) [] ++ pend))
        (lt-ltb N L (omega (arith, is.1)))
        ∙ (ap (λ (m : Message). far.log.entered ++ ((m ∷ []) ++ pend)) (sym carries)
        ∙ (sym (append_assoc far.log.entered (message_of x.block ∷ []) pend)
        ∙ sym (ap (λ (i : Bool). now ++ (also i (message_of near.end.sent) [] ++ pend))
        (le-ltb (length now) L (omega (arith, more, is.1)))))));
    written = w.written;
  }
    where
      is : (x.loads ≡ suc N) × (L ≡ suc N) × (w.gone ≡ N)
      is = next e

      now : List Message
      now = far.log.entered ++ (message_of x.block ∷ [])

      pend : List Message
      pend = also near.end.transmit.txreq (message_out near.end) []

      more : length now ≡ suc N
      more = longer far.log.entered (message_of x.block)

      carries : message_of x.block ≡ message_of near.end.sent
      carries = (carried_last fa x w.chain).last (omega (arith, is.0, is.1))

      turned : Toggles x.block.msgt (length now)
      turned = omega (arith, (carried_last fa x w.chain).msgt, is.0, more)
  far_takes_as false e g = record {
    near_good = w.near_good;
    far_good = g;
    gone = w.gone;
    read = w.read;
    chain = lose_forth fa x w.chain;
    msgt = w.msgt;
    phyt = w.phyt;
    mert = w.mert;
    sent_phyt = w.sent_phyt;
    sent_mert = w.sent_mert;
    toggle = w.toggle;
    full = w.full;
    accepted = w.accepted;
    written = w.written;
  }

  pub far_takes : Way fa fb near (takes (record { marked = false; block = x.block }) far)
  far_takes =
      let f = (carried_last fa x w.chain).fine in
      let n = enters x.block far.end in
      subst (λ (s : Side). Way fa fb near s) (sym (takes_as far n x.block w.far_good f refl))
      (far_takes_as n refl (took_good far x.block w.far_good f))

  -- a block with a newer count brings a message where the receive words are empty
  pub far_enters : (n : ℕ) → n ≤ N → (N ≡ n → far.end.receive.rxval ≡ false) → suc n ≤ x.loads
      → suc n ≤ length (takes (record { marked = false; block = x.block }) far).log.entered
  far_enters n m v l = go (enters x.block far.end) refl
    where
      after : (b : Bool) → enters x.block far.end ≡ b
          → length (takes (record { marked = false; block = x.block }) far).log.entered
          ≡ length (also b (message_of x.block) far.log.entered)
      after b e =
          ap (λ (s : Side). length s.log.entered)
          (takes_as far b x.block w.far_good (carried_last fa x w.chain).fine e)

      go : (b : Bool) → enters x.block far.end ≡ b
          → suc n ≤ length (takes (record { marked = false; block = x.block }) far).log.entered
      go true e = omega (arith, after true e, longer far.log.entered (message_of x.block), m)
      go false e = old (eqb N n) refl
        where
          r : (N ≤ x.loads) × (x.loads ≤ L) × (L ≤ suc N)
          r = loads_next fa x w.chain

          -- it would have entered
          new : N ≡ n → enters x.block far.end ≡ true
          new q =
              and-true (differ x.block.msgt far.end.sent.phyt) (not far.end.receive.rxval)
              (ap not (apart (beq x.block.msgt far.end.sent.phyt) refl)) (ap not (v q))
            where
              apart : (b : Bool) → beq x.block.msgt far.end.sent.phyt ≡ b → b ≡ false
              apart true k =
                  let s = same_num x.block.msgt far.end.sent.phyt k in
                  let c = (carried_last fa x w.chain).msgt in
                  absurd (omega (arith, s, c, w.sent_phyt, q, l, r.1, r.2))
              apart false k = refl

          old : (b : Bool) → eqb N n ≡ b
              → suc n ≤ length (takes (record { marked = false; block = x.block }) far).log.entered
          old true k = absurd (true≢false (sym (new (eqb-true N n k)) ∙ e))
          old false k = omega (arith, after false e, eqb-false N n k, m)
