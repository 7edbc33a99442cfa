-- What each call does where it is answered 0: see specs/Does.antt.
--   send_does, take_does, read_does, write_does
--   control_back, word_back    what is written reads back
-- Assumes nothing.
use Prim.Native.Nat.{ℕ, ◌+◌, ◌-◌, ◌*◌, ◌/◌, ◌%◌, ◌≤◌, ◌<◌}
use mathlib.Core.Bool.{Bool, true, false, ◌&&◌, true≢false}
use mathlib.Core.List.{List}
use mathlib.Core.Path.{◌≡◌, refl, sym, ap, ◌∙◌}
use native.Mathlib.Omega.{arith}
use lib.Dec.{eqb}
use lib.ListN.{length, get_or}
use lib.Seq.{get_or-set_same, get_or-set_other}
use borrow.Author.Tests.{le-leb, lt-leb, eq-eqb, ne_eqb, eqb-true, eqb-false}
use Rattle.laws.proofs.Bools.{cond_true, cond_false}
use Rattle.laws.proofs.Decide.{Decides, decides_iff, decides_no, decides_and, decides_not, eq_row, set_row, same_row}
use Rattle.answer.specs.Number.{number_of}
use Rattle.crc.specs.Bits.{odd}
use Rattle.weights.specs.Weights.{bit}
use Rattle.fibre.specs.declared.Block.{Block}
use Rattle.fibre.specs.declared.End.{End}
use Rattle.fibre.specs.declared.Next.{Next}
use Rattle.fibre.specs.declared.Read.{Read}
use Rattle.fibre.specs.declared.Sent.{Sent}
use Rattle.fibre.specs.Sending.{loads, loaded, send_of}
use Rattle.fibre.specs.Taking.{heard, enters, stored, take_of}
use Rattle.fibre.specs.Words.{value_of, emptied, read_of, with_control, with_word, write_of}
use Rattle.fibre.specs.Calls.{Call}
use Rattle.fibre.specs.Shape.{Shaped}
use Rattle.fibre.proofs.Laws.{Good, good}
use Rattle.fibrelaws.specs.Does.{digit, Bits, Sends, Hears, Ignores, Takes, Reads, Writes, Back}
use Rattle.fibrelaws.proofs.Answers.{read_0, write_0}
use Rattle.fibrelaws.proofs.Done.{send_case, take_case, read_case, write_case}
use Rattle.fibrelaws.proofs.Reached.{after_good}
use Rattle.fibrelaws.proofs.Tested.{met, unmet}

-- a word of one list is that of an equal one
word : {l m : List ℕ} → l ≡ m → (i : ℕ) → get_or l i 0 ≡ get_or m i 0
word h i = ap (λ (x : List ℕ). get_or x i 0) h

-- Send

loads_row : (e : End) → Decides (loads e) ((e.transmit.txreq ≡ true) × (e.transmit.phyt ≡ e.sent.msgt))
loads_row e = decides_and _ _ (set_row e.transmit.txreq) (same_row e.transmit.phyt e.sent.msgt)

sends : (e : End) → Sends e (loaded (loads e) e).sent (loaded (loads e) e)
sends e = record {
  block = refl;
  leaves = search;
  request = λ t p.
      let l = (decides_iff (loads_row e)).1 (t, p) in
      record {
        msgt = cond_true _ _ l;
        control = cond_true _ _ l;
        words = word (cond_true _ _ l);
        txreq = cond_true _ _ l;
      };
  no_request = λ t. stays (λ p. true≢false (sym p.0 ∙ t));
  not_received = λ n. stays (λ p. n p.1);
}
  where
    stays : ¬ ((e.transmit.txreq ≡ true) × (e.transmit.phyt ≡ e.sent.msgt)) → loaded (loads e) e ≡ e
    stays n = ap (λ (l : Bool). loaded l e) (decides_no (loads_row e) n)

pub send_does : (e : End) → number_of (send_of e).answer ≡ 0 → Sends e (send_of e).block (send_of e).end
send_does e =
    send_case e (λ (r : Sent). number_of r.answer ≡ 0 → Sends e r.block r.end)
    (λ h. absurd (omega arith)) (λ _ _. sends e)

-- Take

module _ (b : Block) (e : End) where
  enters_row : Decides (enters b e) (¬ (b.msgt ≡ e.sent.phyt) × ¬ (e.receive.rxval ≡ true))
  enters_row =
      decides_and _ _ (decides_not _ (same_row b.msgt e.sent.phyt)) (decides_not _ (set_row e.receive.rxval))

  ignores : ¬ (¬ (b.msgt ≡ e.sent.phyt) × ¬ (e.receive.rxval ≡ true))
      → Ignores e (stored (enters b e) b (heard b e))
  ignores n =
      let l = decides_no enters_row n in
      record {
        sent = ap (λ (t : Bool). (stored t b (heard b e)).sent) l;
        receive = ap (λ (t : Bool). (stored t b (heard b e)).receive) l;
      }

  hears : Hears b e (stored (enters b e) b (heard b e))
  hears = record {
    phyt = refl;
    mert = refl;
    leaves = search;
    new = λ n r.
        let l = (decides_iff enters_row).1 (n, λ t. true≢false (sym t ∙ r)) in
        record {
          rxval = cond_true _ _ l;
          toggle = cond_true _ _ l;
          control = cond_true _ _ l;
          words = word (cond_true _ _ l);
          sent_phyt = cond_true _ _ l;
        };
    known = λ k. ignores (λ p. p.0 k);
    full = λ k. ignores (λ p. p.1 k);
  }

pub take_does : (e : End) (m : Bool) (b : Block) → number_of (take_of e m b).answer ≡ 0
    → Takes m b e (take_of e m b).end
take_does e m b =
    take_case e m b (λ (r : Next). number_of r.answer ≡ 0 → Takes m b e r.end)
    (λ h. absurd (omega arith))
    (λ t _. record { marked = λ _. refl; good = λ f. absurd (true≢false (sym t ∙ f)) })
    (λ _ _ f _. record { marked = λ t. absurd (true≢false (sym t ∙ f)); good = λ _. hears b e })

-- Read

one : (b : Bool) → digit b ≤ 1
one true = omega arith
one false = omega arith

weight : (b : Bool) (w : ℕ) → bit b w ≡ digit b * w
weight true w = omega arith
weight false w = omega arith

-- four digits above the twelve bits of n
module _ (x y z u n v : ℕ) (hx : x ≤ 1) (hy : y ≤ 1) (hz : z ≤ 1) (hu : u ≤ 1) (hn : n ≤ 4095)
    (h : v ≡ x * 32768 + y * 16384 + z * 8192 + u * 4096 + n) where
  digits : (v / 32768 % 2 ≡ x) × (v / 16384 % 2 ≡ y) × (v / 8192 % 2 ≡ z) × (v / 4096 % 2 ≡ u) × (v % 4096 ≡ n)
      × (v < 65536)
  digits = (omega arith, omega arith, omega arith, omega arith, omega arith, omega arith)

word_bits : (a b c d : Bool) (n v : ℕ) → n ≤ 4095
    → v ≡ bit a 32768 + bit b 16384 + bit c 8192 + bit d 4096 + n
    → Bits v a b c d n
word_bits a b c d n v k h =
    let t =
    digits (digit a) (digit b) (digit c) (digit d) n v (one a) (one b) (one c) (one d) k
    (h ∙ rw (weight a 32768, weight b 16384, weight c 8192, weight d 4096)) in
    record {
      bit_15 = t.0;
      bit_14 = t.1;
      bit_13 = t.2;
      bit_12 = t.3;
      low = t.4;
      sixteen = t.5;
    }

two_bits : (a b n : ℕ) → a + b + n ≡ a + 0 + 0 + b + n
two_bits a b n = omega arith

module _ (w : ℕ) (e : End) (g : Good e) where
  last_row : Decides (eqb w 17 && e.receive.rxval) ((w ≡ 17) × (e.receive.rxval ≡ true))
  last_row = decides_and _ _ (eq_row w 17) (set_row e.receive.rxval)

  stays : ¬ ((w ≡ 17) × (e.receive.rxval ≡ true)) → emptied (eqb w 17) e ≡ e
  stays n = rw (decides_no last_row n)

  reads : Reads w e (value_of e w) (emptied (eqb w 17) e)
  reads = record {
    zero = λ z. word_bits _ _ _ _ _ _ g.transmit (cond_true _ _ (eq-eqb w 0 z));
    one_to_eight = λ i h q.
        cond_false _ _ (ne_eqb w 0 (λ z. omega arith))
        ∙ (cond_true _ _ (le-leb w 8 (omega arith))
        ∙ ap (λ (j : ℕ). get_or e.transmit.words j 0) (omega arith));
    nine = λ z.
        word_bits _ _ _ _ _ _ g.receive
        (cond_false _ _ (ne_eqb w 0 (λ k. omega arith))
        ∙ (cond_false _ _ (lt-leb w 8 (omega arith)) ∙ (cond_true _ _ (eq-eqb w 9 z) ∙ two_bits _ _ _)));
    ten_and_on = λ i h q.
        cond_false _ _ (ne_eqb w 0 (λ z. omega arith))
        ∙ (cond_false _ _ (lt-leb w 8 (omega arith))
        ∙ (cond_false _ _ (ne_eqb w 9 (λ z. omega arith))
        ∙ ap (λ (j : ℕ). get_or e.receive.words j 0) (omega arith)));
    leaves = search;
    last = λ z r.
        let l = (decides_iff last_row).1 (z, r) in
        record { rxval = cond_true _ _ l; sent_mert = cond_true _ _ l };
    not_last = λ n. stays (λ p. n p.0);
    empty = λ r. stays (λ p. true≢false (sym p.1 ∙ r));
  }

pub read_does : (e : End) (w : ℕ) → number_of (read_of e w).answer ≡ 0
    → Reads w e (read_of e w).value (read_of e w).end
read_does e w =
    read_case e w (λ (r : Read). number_of r.answer ≡ 0 → Reads w e r.value r.end)
    (λ a k h. absurd (omega arith)) (λ h _ _. reads w e (good e h))

-- Write

digit_odd : (n : ℕ) → digit (odd n) ≡ n % 2
unfolding odd
digit_odd n = go (eqb (n % 2) 1) refl
  where
    go : (t : Bool) → eqb (n % 2) 1 ≡ t → digit t ≡ n % 2
    go true h = sym (eqb-true (n % 2) 1 h)
    go false h = zero_left (eqb-false (n % 2) 1 h)
      where
        zero_left : ¬ (n % 2 ≡ 1) → 0 ≡ n % 2
        zero_left k = omega arith

controls : (e : End) (w v : ℕ) → w ≡ 0 → Writes w v e (with_control e v)
controls e w v z = record {
  leaves = search;
  zero = λ _. record { txreq = digit_odd (v / 32768); control = refl; words = refl };
  one_to_eight = λ i _ q. absurd (omega arith);
}

stores : (e : End) (w v : ℕ) → length e.transmit.words ≡ 8 → 1 ≤ w → w ≤ 8 → Writes w v e (with_word e (w - 1) v)
stores e w v n a b = record {
  leaves = search;
  zero = λ z. absurd (omega arith);
  one_to_eight = λ i h q.
      let l = e.transmit.words in
      let at : w - 1 ≡ i = omega arith in
      record {
        word = rw at (get_or-set_same l i v 0 (omega arith));
        others = λ j k. rw at (get_or-set_other l i j v 0 k);
        txreq = refl;
        control = refl;
      };
}

pub write_does : (e : End) (w v : ℕ) → Shaped e → number_of (write_of e w v).answer ≡ 0
    → Writes w v e (write_of e w v).end
write_does e w v s =
    write_case e w v (λ (r : Next). number_of r.answer ≡ 0 → Writes w v e r.end)
    (λ a k h. absurd (omega arith))
    (λ _ z _. controls e w v z)
    (λ _ a b _. stores e w v s.transmit.0 a b)

-- Written and read

module _ (e : End) (w v : ℕ) (b : v < 65536) (s : Shaped e) (h : number_of (write_of e w v).answer ≡ 0) where
  -- the word that was written can be read
  back : Reads w (write_of e w v).end (read_of (write_of e w v).end w).value (read_of (write_of e w v).end w).end
  back =
      let u = (write_0 e w v).0 h in
      let f = (write_of e w v).end in
      read_does f w ((read_0 f w).1 ((met f).fails (after_good (Call.write w v b) e (unmet e u.0)), u.1.0))

pub control_back : (e : End) (v : ℕ) → v < 65536 → Shaped e → number_of (write_of e 0 v).answer ≡ 0
    → Back v e (read_of (write_of e 0 v).end 0).value
control_back e v b s h =
    let t = write_does e 0 v s h in
    let c = t.zero refl in
    let r = (back e 0 v b s h).zero refl in
    record {
      txreq = r.bit_15 ∙ c.txreq;
      phyt = r.bit_14 ∙ ap digit t.leaves.phyt;
      mert = r.bit_13 ∙ ap digit t.leaves.mert;
      msgt = r.bit_12 ∙ ap (λ (x : Block). digit x.msgt) t.leaves.sent;
      control = r.low ∙ c.control;
    }

pub word_back : (e : End) (i v : ℕ) → i < 8 → v < 65536 → Shaped e → number_of (write_of e (1 + i) v).answer ≡ 0
    → (read_of (write_of e (1 + i) v).end (1 + i)).value ≡ v
word_back e i v l b s h =
    (back e (1 + i) v b s h).one_to_eight i l refl ∙ ((write_does e (1 + i) v s h).one_to_eight i l refl).word
