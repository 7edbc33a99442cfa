-- What the premises and tests come to: the statements of specs/Means.antt.
--   idle_is, said_is, just_one, just_true, told_most, nth_accepted
--   above, same_waits   what is true of a message is no more than what is just so; one of two answers
--   told_of             a run in which just so much is so as its row says tells no more
-- Assumes nothing.
use Prim.{tt}
use Prim.Native.Nat.{ℕ, suc, ◌+◌, ◌-◌, ◌≤◌}
use mathlib.Core.Bool.{Bool, true, false, cond, beq, false≢true}
use mathlib.Core.List.{List, ◌∷◌, ◌++◌, append_assoc}
use mathlib.Core.Logic.{◌↔◌}
use mathlib.Core.Path.{◌≡◌, refl, sym, ap, subst, ◌∙◌}
use native.Mathlib.Omega.{arith}
use lib.ListN.{length, length-append}
use Rattle.joined.specs.Joined.{a_to_b, near, far}
use Rattle.protocol.specs.Steps.{num}
use Rattle.fibrelink.specs.Link.{Message, Side, World, reset_world, run}
use Rattle.fibrelink.specs.Demand.{Idle, word_zero, in_flight, pending_in, register_holds}
use Rattle.fibrelink.specs.Status.{Known, not_known, entered, taken, Row, row, table, True, Told, Reaches, Just}
use Rattle.fibrelink.specs.Means.{IdleIs, SaidIs, JustOne, JustTrue, NthAccepted, rank, AtMost, ToldMost}
use Rattle.fibrelink.proofs.Flight.{Stamp}
use Rattle.fibrelink.proofs.Chain.{heard_entered, entered_loaded}
use Rattle.fibrelink.proofs.Way.{Way}
use Rattle.fibrelink.proofs.Shown.{Zero, word_zero_lem}
use Rattle.fibrelink.proofs.Kept.{reset_kept, run_kept}
use Rattle.fibrelink.proofs.Demanded.{accepted_count, logs_true, entered_is, table_two}
use Rattle.fibrelink.proofs.Computed.{no_more}

-- Bools

num_one : (x y : Bool) → num x ≡ num y → x ≡ y
num_one true true h = refl
num_one true false h = absurd (omega (arith, h))
num_one false true h = absurd (omega (arith, h))
num_one false false h = refl

beq_of : (x y : Bool) → x ≡ y → beq x y ≡ true
beq_of true true h = refl
beq_of true false h = absurd (false≢true (sym h))
beq_of false true h = absurd (false≢true h)
beq_of false false h = refl

of_beq : (x y : Bool) → beq x y ≡ true → x ≡ y
of_beq true true h = refl
of_beq true false h = absurd (false≢true h)
of_beq false true h = absurd (false≢true h)
of_beq false false h = refl

-- Idle

module _ {fa fb : List Stamp} {near far : Side} (w : Way fa fb near far) where
  z : Zero near.end (word_zero near)
  z = word_zero_lem near.end w.near_good

  counted : Idle near far → near.log.ack_count ≡ length near.host.accepted
  counted i =
      let t = ap num (sym z.txreq ∙ i.no_request) in
      let p = ap num (sym z.phyt ∙ (i.received ∙ z.msgt)) in
      let c = w.chain in
      omega (arith, t, p, w.phyt, w.msgt, c.few, heard_entered c, entered_loaded c, accepted_count w)

  idle : near.log.ack_count ≡ length near.host.accepted → far.end.receive.rxval ≡ false → Idle near far
  idle a e = record {
    no_request =
        z.txreq
        ∙ num_one near.end.transmit.txreq false
        (omega (arith, a, heard_entered w.chain, entered_loaded w.chain, accepted_count w));
    received =
        z.phyt
        ∙ (num_one near.end.transmit.phyt near.end.sent.msgt
        (omega (arith, a, w.phyt, w.msgt, heard_entered w.chain, entered_loaded w.chain, accepted_count w))
        ∙ sym z.msgt);
    empty = e;
  }

  idle_so : Idle near far ↔ ((near.log.ack_count ≡ length near.host.accepted) × (far.end.receive.rxval ≡ false))
  idle_so = (λ i. (counted i, i.empty), λ h. idle h.0 h.1)

pub idle_is : IdleIs
idle_is d D E es w e =
    subst
    (λ (x : World). Idle (near d x) (far d x)
    ↔ (((near d x).log.ack_count ≡ length (near d x).host.accepted) × ((far d x).end.receive.rxval ≡ false)))
    (sym e) (idle_so (run_kept d D E es reset_world (reset_kept d D E)).way)

-- Table 2

abbrev told : Known → Bool
told not_known = false
told entered = false
told taken = true

first_row : (t p m : Bool) → t ≡ false → p ≡ true → m ≡ true → table t p m ≡ row false taken taken
first_row false true true x y k = refl
first_row true p m x y k = absurd (false≢true (sym x))
first_row false false m x y k = absurd (false≢true y)
first_row false true false x y k = absurd (false≢true k)

only_row : (t p m : Bool) → table t p m ≡ row false taken taken → (t ≡ false) × ((p ≡ true) × (m ≡ true))
only_row false true true h = (refl, (refl, refl))
only_row false true false h = absurd (false≢true (ap (λ (r : Row). told r.sending) h))
only_row false false true h = absurd (false≢true (ap (λ (r : Row). told r.sending) h))
only_row false false false h = absurd (false≢true (ap (λ (r : Row). told r.sending) h))
only_row true true true h = absurd (false≢true (sym (ap (λ (r : Row). r.waits) h)))
only_row true true false h = absurd (false≢true (sym (ap (λ (r : Row). r.waits) h)))
only_row true false true h = absurd (false≢true (sym (ap (λ (r : Row). r.waits) h)))
only_row true false false h = absurd (false≢true (sym (ap (λ (r : Row). r.waits) h)))

pub said_is : SaidIs
said_is v = (
  λ s. first_row _ _ _ s.no_request (beq_of _ _ s.received) (beq_of _ _ s.read),
  λ h. (let o = only_row _ _ _ h in
      record { no_request = o.0; received = of_beq _ _ o.1.0; read = of_beq _ _ o.1.1 }),
)

-- Just so

pub just_one : JustOne
just_one d D E es r w e = go
  where
    few : length (far d w).host.taken + length (register_holds (far d w)) ≡ length (far d w).log.entered
    few =
        sym (length-append (far d w).host.taken (register_holds (far d w)))
        ∙ ap (λ (l : List Message). length l) (sym (entered_is d D E es r w e))

    go : (j k : Known) (i : ℕ) → Just j i (far d w) → Just k i (far d w) → j ≡ k
    go not_known not_known i x y = refl
    go not_known entered i x y = absurd (omega (arith, x, y.1))
    go not_known taken i x y = absurd (omega (arith, x, y, few))
    go entered not_known i x y = absurd (omega (arith, y, x.1))
    go entered entered i x y = refl
    go entered taken i x y = absurd (omega (arith, x.0, y))
    go taken not_known i x y = absurd (omega (arith, x, y, few))
    go taken entered i x y = absurd (omega (arith, x, y.0))
    go taken taken i x y = refl

pub just_true : JustTrue
just_true not_known i far h = tt
just_true entered i far h = h.1
just_true taken i far h = h

-- Told

above : (j k : Known) (i : ℕ) (far : Side) → length far.host.taken ≤ length far.log.entered → True k i far
    → Just j i far → rank k ≤ rank j
above j not_known i far h x y = omega arith
above not_known entered i far h x y = absurd (omega (arith, x, y))
above entered entered i far h x y = omega arith
above taken entered i far h x y = omega arith
above not_known taken i far h x y = absurd (omega (arith, h, x, y))
above entered taken i far h x y = absurd (omega (arith, x, y.0))
above taken taken i far h x y = omega arith

same_waits : (x y : Bool) (l n : ℕ) → l ≡ cond x (suc n) n → l ≡ cond y (suc n) n → x ≡ y
same_waits true true l n p q = refl
same_waits true false l n p q = absurd (omega (arith, p, q))
same_waits false true l n p q = absurd (omega (arith, p, q))
same_waits false false l n p q = refl

told_of : (t p m : Bool) → Reaches (table t p m) (λ near far. Just (table t p m).sending near.log.load_count far
    × Just (table t p m).before (near.log.load_count - 1) far)
    → Reaches (table t p m) (λ near far. (r : Row) → Told r near far → AtMost r (table t p m))
told_of t p m k = record {
  D = k.D;
  E = k.E;
  events = k.events;
  by_rule = k.by_rule;
  second = k.second;
  row_is = k.row_is;
  shows = λ r x. record {
    waits =
        same_waits r.waits (table t p m).waits (length w.a.host.accepted) w.a.log.load_count x.waiting
        own.waiting;
    sending = above (table t p m).sending r.sending w.a.log.load_count w.b few x.sending k.shows.0;
    before = above (table t p m).before r.before (w.a.log.load_count - 1) w.b few x.before k.shows.1;
  };
}
  where
    w : World
    w = run k.D k.E k.events reset_world

    -- what the row itself says
    own : Told (table t p m) w.a w.b
    own =
        subst (λ (s : Row). Told s w.a w.b) k.row_is
        (table_two a_to_b k.D k.E k.events k.by_rule w refl)

    few : length w.b.host.taken ≤ length w.b.log.entered
    few =
        let a = ap (λ (l : List Message). length l) (entered_is a_to_b k.D k.E k.events k.by_rule w refl) in
        let b = length-append w.b.host.taken (register_holds w.b) in
        omega (arith, a, b)

pub told_most : ToldMost
told_most t p m = told_of t p m (no_more t p m)

-- Entered

pub nth_accepted : NthAccepted
nth_accepted d D E es w e n m k = (
  k.0,
  k.1 ++ rest,
  (logs_true d D E es w e).accepted
      ∙ (ap (λ (l : List Message). l ++ rest) k.2 ∙ append_assoc k.0 (m ∷ k.1) rest),
  k.3,
)
  where
    rest : List Message
    rest = in_flight (near d w) (far d w) ++ pending_in (near d w)
