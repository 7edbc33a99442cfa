-- What 3.2308 shows of acknowledgements, after every run.
--   Shows          Received and the received toggle by the log
--   sends_shows, taking_shows, hosted_shows, run_shows   each step keeps it
--   control_reads  what 3.2308's value holds
--   shown          what a host reads there
--   seen_by_hosts  the statement of specs/Acknowledged.antt
-- Assumes nothing.
use Prim.Native.Nat.{ℕ, suc, ◌+◌, ◌-◌, ◌*◌, ◌/◌, ◌%◌, ◌≤◌}
use mathlib.Core.Bool.{Bool, true, false, cond, beq, false≢true}
use mathlib.Core.List.{List, [], ◌∷◌}
use mathlib.Core.Path.{◌≡◌, refl, sym, ap, ◌∙◌, subst}
use native.Mathlib.Nat.{le_refl}
use native.Mathlib.Omega.{arith}
use lib.Dec.{eqb, ltb}
use borrow.Author.Tests.{eqb-true, eqb-false, lt-ltb, le-ltb}
use Rattle.crc.specs.Bits.{odd}
use Rattle.end.specs.declared.End.{End}
use Rattle.end.specs.declared.Read.{Read}
use Rattle.end.specs.declared.Outbox.{Outbox}
use Rattle.end.specs.Good.{bad}
use Rattle.end.specs.Sending.{acked, frame_start}
use Rattle.end.specs.Registers.{read_of}
use Rattle.end.proofs.RegisterLaws.{read_done}
use Rattle.endlaws.proofs.Goods.{good}
use Rattle.endlaws.proofs.Left.{take_leaves, read_leaves, write_leaves, health_leaves}
use Rattle.laws.proofs.Bools.{and_both}
use Rattle.protocol.specs.Steps.{num}
use Rattle.protocol.proofs.Keeps.{num_le}
use Rattle.link.specs.Link.{Side, World, reset_world, Direction, a_to_b, b_to_a, near, Access, read, write, health}
use Rattle.link.specs.Link.{present, hosted, sends, taking, Event, slot, at_a, at_b, step, run, run_by}
use Rattle.link.specs.Demand.{control_value, bit13, bit12}
use Rattle.link.specs.Acknowledged.{Shown, SeenByHosts}
use Rattle.weights.proofs.Weighed.{bit_num, odd_is}
use Rattle.link.proofs.Line.{Cell}
use Rattle.link.proofs.Line.Sent.{sent_as, sends_as}
use Rattle.link.proofs.Invariant.{Inv, exchanged}
use Rattle.link.proofs.Kept.{Kept, reset_kept, step_kept, run_kept}

-- by the transmit registers o, the acknowledgements seen and those that acted
pub record ShowsBy (o : Outbox) (k n : ℕ) : Type 0 where
  pub received : o.received ≡ ltb k n
  pub confirmed : num o.confirmed ≡ (n - 1) % 2
  pub past : k ≤ n

abbrev pub Shows : Side → Type 0
Shows s = ShowsBy s.end.outbox s.log.seen_count s.log.ack_count

-- an acknowledgement acts on the message that is sent with the sending toggle
same_num : (x y : Bool) → beq x y ≡ true → num x ≡ num y
same_num true true e = refl
same_num true false e = absurd (false≢true e)
same_num false true e = absurd (false≢true e)
same_num false false e = refl

module _ (s : Side) (fine : bad s.end ≡ false) (toggle : num s.end.sender.toggle ≡ s.log.ack_count % 2)
    (h : Shows s) where
  made_shows : (a : Bool) → acked s.end ≡ a → Shows (sent_as true s)
  unfolding acked frame_start
  made_shows true e = rw e (record {
    received = sym (lt-ltb s.log.seen_count (s.log.ack_count + 1) (omega (arith, h.past)));
    confirmed =
        same_num s.end.heard.togack s.end.sender.toggle (and_both s.end.heard.ack _ e).1
        ∙ toggle
        ∙ ap (λ (n : ℕ). n % 2) (back s.log.ack_count);
    past = omega (arith, h.past);
  })
    where
      back : (n : ℕ) → n ≡ n + 1 - 1
      back n = omega arith
  made_shows false e = rw e (record { received = h.received; confirmed = h.confirmed; past = h.past })

  pub sends_shows : Shows (sends s)
  sends_shows = go (eqb s.end.sender.position 0) refl
    where
      go : (b : Bool) → eqb s.end.sender.position 0 ≡ b → Shows (sends s)
      go true e = subst (λ (x : Side). Shows x) (sym (sends_as s true fine e)) (made_shows (acked s.end) refl)
      go false e =
          subst (λ (x : Side). Shows x) (sym (sends_as s false fine e))
          (record { received = h.received; confirmed = h.confirmed; past = h.past })

taking_shows : (l : List ℕ) (s : Side) → Shows s → Shows (taking l s)
unfolding taking
taking_shows [] s h = h
taking_shows (y ∷ l) s h =
    subst (λ (o : Outbox). ShowsBy o s.log.seen_count s.log.ack_count) (sym (take_leaves s.end y).outbox) h

hosted_shows : (c : Access) (s : Side) → bad s.end ≡ false → Shows s → Shows (hosted c s)
hosted_shows (read r) s fine h = go (eqb r 2308) refl
  where
    n : ℕ
    n = s.log.ack_count

    go : (t : Bool) → eqb r 2308 ≡ t → ShowsBy (read_of s.end r).end.outbox (cond t n s.log.seen_count) n
    go true q =
        subst (λ (r : ℕ). ShowsBy (read_of s.end r).end.outbox n n) (sym (eqb-true r 2308 q)) (record {
          received =
              ap (λ (g : Read). g.end.outbox.received) (read_done s.end 2308 fine refl)
              ∙ sym (le-ltb n n (le_refl n));
          confirmed = ap num (read_leaves s.end 2308).confirmed ∙ h.confirmed;
          past = le_refl n;
        })
    go false q = record {
      received = (read_leaves s.end r).received (eqb-false r 2308 q) ∙ h.received;
      confirmed = ap num (read_leaves s.end r).confirmed ∙ h.confirmed;
      past = h.past;
    }
hosted_shows (write r v l) s fine h = record {
  received = (write_leaves s.end r v).received ∙ h.received;
  confirmed = ap num (write_leaves s.end r v).confirmed ∙ h.confirmed;
  past = h.past;
}
hosted_shows (health k) s fine h =
    subst (λ (o : Outbox). ShowsBy o s.log.seen_count s.log.ack_count) (sym (health_leaves s.end k).outbox) h
hosted_shows present s fine h = h

pub record BothShow (w : World) : Type 0 where
  pub a : Shows w.a
  pub b : Shows w.b

pub step_shows : (D E : ℕ) (e : Event) (w : World) → Kept D E w → BothShow w → BothShow (step D E e w)
step_shows D E (slot ha hb) w k h = record {
  a =
      taking_shows _ (sends w.a)
      (sends_shows w.a k.inv.fit_a.good k.inv.ab.holding.sending.toggle h.a);
  b =
      taking_shows _ (sends w.b)
      (sends_shows w.b k.inv.fit_b.good k.inv.ba.holding.sending.toggle h.b);
}
step_shows D E (at_a c) w k h = record { a = hosted_shows c w.a k.inv.fit_a.good h.a; b = h.b }
step_shows D E (at_b c) w k h = record { a = h.a; b = hosted_shows c w.b k.inv.fit_b.good h.b }

pub run_shows : (D E : ℕ) (es : List Event) (w : World) → Kept D E w → BothShow w → BothShow (run D E es w)
unfolding run_by
run_shows D E [] w k h = h
run_shows D E (e ∷ es) w k h = run_shows D E es (step D E e w) (step_kept D E e w k) (step_shows D E e w k h)

pub reset_shows : BothShow reset_world
reset_shows = record {
  a = record { received = refl; confirmed = refl; past = le_refl 0 };
  b = record { received = refl; confirmed = refl; past = le_refl 0 };
}

-- What a host reads

control_reads : (p t r c m g q l : ℕ) → p ≤ 1 → t ≤ 1 → r ≤ 1 → c ≤ 1 → m ≤ 15 → g ≤ 1 → q ≤ 1 → l ≤ 3
    → (v : ℕ) → v ≡ 32768 * p + 16384 * t + 8192 * r + 4096 * c + 256 * m + 8 * g + 4 * q + l
    → (v / 16384 % 2 ≡ t) × (v / 8192 % 2 ≡ r) × (v / 4096 % 2 ≡ c)
control_reads p t r c m g q l hp ht hr hc hm hg hq hl v e = (omega arith, omega arith, omega arith)

-- a bool is known by its number
odd_num : (b : Bool) (n : ℕ) → num b ≡ n % 2 → b ≡ odd n
odd_num b n e = sym (odd_is b n (sym e))

module _ {a b : Side} {ca cb : List Cell} {D E pa pb : ℕ} (i : Inv a b ca cb D E pa pb) (h : Shows a) where
  abbrev e : End
  e = a.end

  value_is : control_value a
      ≡ 32768 * num e.outbox.pending + 16384 * num e.outbox.toggle + 8192 * num e.outbox.received
      + 4096 * num e.outbox.confirmed + 256 * e.outbox.number + 8 * num e.heard.got
      + 4 * num e.outbox.ping + e.sender.loaded
  value_is =
      ap (λ (g : Read). g.value) (read_done e 2308 i.fit_a.good refl)
      ∙ rw (
        bit_num e.outbox.pending 32768,
        bit_num e.outbox.toggle 16384,
        bit_num e.outbox.received 8192,
        bit_num e.outbox.confirmed 4096,
        bit_num e.heard.got 8,
        bit_num e.outbox.ping 4,
      )

  reads : (control_value a / 16384 % 2 ≡ num e.outbox.toggle)
      × (control_value a / 8192 % 2 ≡ num e.outbox.received)
      × (control_value a / 4096 % 2 ≡ num e.outbox.confirmed)
  reads =
      control_reads (num e.outbox.pending) (num e.outbox.toggle) (num e.outbox.received)
      (num e.outbox.confirmed) e.outbox.number (num e.heard.got) (num e.outbox.ping) e.sender.loaded
      (num_le e.outbox.pending) (num_le e.outbox.toggle) (num_le e.outbox.received)
      (num_le e.outbox.confirmed) (good e i.fit_a.good).number (num_le e.heard.got)
      (num_le e.outbox.ping)
      (good e i.fit_a.good).loaded (control_value a) value_is

  pub received_is : bit13 (control_value a) ≡ ltb a.log.seen_count a.log.ack_count
  received_is = odd_is e.outbox.received (control_value a / 8192) reads.1 ∙ h.received

  confirmed_is : bit12 (control_value a) ≡ e.outbox.confirmed
  confirmed_is = odd_is e.outbox.confirmed (control_value a / 4096) reads.2

  shown : Shown a
  unfolding odd
  shown = record {
    received = received_is;
    before =
        λ z. confirmed_is ∙ odd_num e.outbox.confirmed 0 (h.confirmed ∙ ap (λ (n : ℕ). (n - 1) % 2) z);
    last =
        λ n z. confirmed_is ∙ odd_num e.outbox.confirmed n (h.confirmed ∙ ap (λ (n : ℕ). (n - 1) % 2) z ∙ less n);
    next =
        odd_is e.outbox.toggle (control_value a / 16384) reads.0
        ∙ odd_num e.outbox.toggle a.log.load_count i.ab.holding.sending.register;
    sending = odd_num e.sender.toggle a.log.ack_count i.ab.holding.sending.toggle;
  }
    where
      less : (n : ℕ) → (suc n - 1) % 2 ≡ n % 2
      less n = omega arith

pub near_shows : (d : Direction) (w : World) → BothShow w → Shows (near d w)
near_shows a_to_b w h = h.a
near_shows b_to_a w h = h.b

pub seen_by_hosts : SeenByHosts
seen_by_hosts d D E es w is = subst (λ (w : World). Shown (near d w)) (sym is) (go d)
  where
    k : Kept D E (run D E es reset_world)
    k = run_kept D E es reset_world (reset_kept D E)

    h : BothShow (run D E es reset_world)
    h = run_shows D E es reset_world (reset_kept D E) reset_shows

    go : (d : Direction) → Shown (near d (run D E es reset_world))
    go a_to_b = shown k.inv h.a
    go b_to_a = shown (exchanged k.inv) h.b
