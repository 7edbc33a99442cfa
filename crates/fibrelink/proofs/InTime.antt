-- A message accepted into an idle direction enters and is acknowledged in time, whatever the hosts do.
--   Progress n k   k slots after message n was accepted: how far it is
--   slot_going, near_going, far_going   each event keeps it, a good slot with one slot more
--   run_going      so it is after every continuation in which nothing that arrives is bad
--   more_accepted  what was accepted stays, in its place
--   delivered      the statement of specs/Demand.antt
-- Assumes nothing.
use Prim.{tt}
use Prim.Native.Nat.{ℕ, zero, suc, ◌+◌, ◌-◌, ◌≤◌, ◌<◌}
use mathlib.Core.Bool.{Bool, true, false, not, cond, ◌&&◌, beq, true≢false, false≢true}
use mathlib.Core.List.{List, [], ◌∷◌, ◌++◌, map, append_assoc, append-nil}
use mathlib.Core.Path.{◌≡◌, refl, sym, ap, subst, ◌∙◌}
use native.Mathlib.Omega.{arith}
use lib.Dec.{eqb, leb}
use lib.ListN.{length, get_or, take, drop, length-append, length-map}
use lib.Seq.{split_at, length-take-le, take-append_seam, get_or-take, get_or_at}
use borrow.Author.Tests.{leb-true, leb-false}
use Rattle.fibre.specs.declared.Block.{Block}
use Rattle.fibre.specs.declared.End.{End}
use Rattle.fibre.specs.declared.Next.{Next}
use Rattle.fibre.specs.Good.{bad}
use Rattle.fibre.specs.Sending.{loads}
use Rattle.fibre.specs.Words.{outside, receives, with_control, write_of}
use Rattle.joined.specs.Joined.{Direction, a_to_b, b_to_a, near, far, due, slot, at_a, at_b, run_by, every, slots, also}
use Rattle.joined.specs.Joined.{at_near, within}
use Rattle.joined.specs.Joined.{bit15}
use Rattle.answer.specs.declared.Answer.TheVariants.{Done}
use Rattle.laws.proofs.Bools.{and_both, and-true, either, cond_true, cond_false}
use Rattle.protocol.specs.Steps.{num}
use Rattle.fibrelink.specs.Link.{Message, message_in, message_written, Host, Side, World, reset_world, sends, Access}
use Rattle.fibrelink.specs.Link.{read, write, hosted, accepts_now, Arrival, Harm, sound, spoilt, harmed, arriving}
use Rattle.fibrelink.specs.Link.{takes, taking, takes_from, Event, step, run}
use Rattle.fibrelink.specs.Demand.{enough, enough_back, away, none_bad, good_step, good, Idle, Entered, Acknowledged}
use Rattle.fibrelink.specs.Demand.{Delivered}
use Rattle.fibrelink.specs.Demand.{word_zero}
use Rattle.fibrelink.proofs.Flight.{Stamp, All}
use Rattle.fibrelink.proofs.Chain.{heard_entered, entered_loaded}
use Rattle.fibrelink.proofs.Steps.{sends_as}
use Rattle.fibrelink.proofs.Way.{Way}
use Rattle.fibrelink.proofs.Shown.{Zero, word_zero_lem}
use Rattle.fibrelink.proofs.Demanded.{accepted_count}
use Rattle.fibrelink.proofs.Kept.Taking.{near_hears, far_enters}
use Rattle.fibrelink.proofs.Kept.Slot.{Inv, blocks, slot_kept, near_kept, far_kept, split, arrives, taking_sent}
use Rattle.fibrelink.proofs.Kept.Slot.{hosted_sent}
use Rattle.fibrelink.proofs.Kept.Hosting.{read_keeps, write_keeps}
use Rattle.fibrelink.proofs.Kept.Slot.{outgoing, returning, both_sent, outgoing_are, returning_are}
use Rattle.fibrelink.proofs.Kept.{Kept, home, reset_kept, run_kept}

-- Lists

all_take : (P : Stamp → Type 0) (k j : ℕ) (l : List Stamp) → All P (take k l) → All P (take k (take j l))
all_take P zero j l a = tt
all_take P (suc k) zero l a = tt
all_take P (suc k) (suc j) [] a = tt
all_take P (suc k) (suc j) (x ∷ l) a = (a.0, all_take P k j l a.1)

all_arriving : (P : Stamp → Type 0) (k d : ℕ) (l : List Stamp) → d ≤ k → All P (take (suc k) l) → All P (due d l)
all_arriving P k zero [] h a = tt
all_arriving P k zero (x ∷ l) h a = (a.0, tt)
all_arriving P k (suc d) [] h a = tt
all_arriving P zero (suc d) (x ∷ l) h a = absurd (omega (arith, h))
all_arriving P (suc k) (suc d) (x ∷ l) h a = all_arriving P k d l (omega (arith, h)) a.1

some_due : {A : Type 0} (d : ℕ) (l : List A) → suc d ≤ length l → length (due d l) ≡ 1
some_due zero [] h = absurd (omega (arith, h))
some_due zero (x ∷ l) h = refl
some_due (suc d) [] h = absurd (omega (arith, h))
some_due (suc d) (x ∷ l) h = some_due d l (omega (arith, h))

-- What a log loses: nothing

count_grows : (b : Bool) (n : ℕ) → n ≤ cond b (suc n) n
count_grows true n = omega arith
count_grows false n = omega arith

entered_grows : (b : Bool) (m : Message) (l : List Message) → length l ≤ length (also b m l)
entered_grows true m l = let a = length-append l (m ∷ []) in omega (arith, a)
entered_grows false m l = omega arith

sends_loads : (s : Side) → s.log.load_count ≤ (sends s).log.load_count
sends_loads s =
    count_grows (s.end.transmit.txreq && not (sends s).end.transmit.txreq) s.log.load_count

taking_loads : (l : List Arrival) (s : Side) → (taking l s).log.load_count ≡ s.log.load_count
unfolding taking
taking_loads [] s = refl
taking_loads (y ∷ l) s = refl

taking_enters : (l : List Arrival) (s : Side) → length s.log.entered ≤ length (taking l s).log.entered
unfolding taking
taking_enters [] s = omega arith
taking_enters (y ∷ l) s =
    entered_grows (not s.end.receive.rxval && (takes y s).end.receive.rxval) (message_in (takes y s).end)
    s.log.entered

-- RXVAL rises only where a message enters
taking_empty : (l : List Arrival) (s : Side) → length (taking l s).log.entered ≡ length s.log.entered
    → s.end.receive.rxval ≡ false → (taking l s).end.receive.rxval ≡ false
unfolding taking
taking_empty [] s e v = v
taking_empty (y ∷ l) s e v = go (takes y s).end.receive.rxval refl
  where
    go : (b : Bool) → (takes y s).end.receive.rxval ≡ b → b ≡ false
    go false k = refl
    go true k =
        absurd (longer (sym (ap (λ (b : Bool). length (also b (message_in (takes y s).end) s.log.entered))
        (and-true (not s.end.receive.rxval) (takes y s).end.receive.rxval (ap not v) k)) ∙ e))
      where
        longer : length (s.log.entered ++ (message_in (takes y s).end ∷ [])) ≡ length s.log.entered → ⊥
        longer h =
            let a = length-append s.log.entered (message_in (takes y s).end ∷ []) in
            omega (arith, a, h)

-- Progress

pub record Progress (n k d f : ℕ) (near far : Side) (fa fb : List Stamp) : Type 0 where
  pub from : n ≤ length far.log.entered
  pub empty : length far.log.entered ≡ n → far.end.receive.rxval ≡ false
  pub waiting : k ≡ 0 → loads near.end ≡ true
  pub least : n ≤ near.log.load_count
  pub loaded : 1 ≤ k → suc n ≤ near.log.load_count
  pub long : k ≤ length near.sent
  pub long_back : k ≤ length far.sent
  pub fresh : All (λ x. suc n ≤ x.loads) (take k fa)
  pub entered : suc d ≤ k → suc n ≤ length far.log.entered
  pub telling : All (λ y. suc n ≤ y.entered) (take (k - suc d) fb)
  pub heard : suc (suc (d + f)) ≤ k → suc n ≤ near.log.ack_count

-- A block that is fresh, and sound, brings the message; one that tells of it is heard

module _ {fa fb : List Stamp} {near far : Side} (w : Way fa fb near far) (n : ℕ) where
  enters_then : (p q : List Stamp) (h : Harm) → fa ≡ p ++ q → length q ≡ 1 → All (λ x. suc n ≤ x.loads) q
      → none_bad (map (harmed h) (blocks q)) ≡ true → n ≤ length far.log.entered
      → (length far.log.entered ≡ n → far.end.receive.rxval ≡ false)
      → suc n ≤ length (taking (map (harmed h) (blocks q)) far).log.entered
  unfolding taking none_bad
  enters_then p [] h e o a g m v = absurd (omega (arith, o))
  enters_then p (x ∷ []) sound e o a g m v =
      far_enters p x (subst (λ (l : List Stamp). Way l fb near far) e w) n m v a.0
  enters_then p (x ∷ []) (spoilt c) e o a g m v = absurd (false≢true g)
  enters_then p (x ∷ y ∷ q) h e o a g m v = absurd (omega (arith, o))

  hears_then : (p q : List Stamp) (h : Harm) → fb ≡ p ++ q → length q ≡ 1 → All (λ y. suc n ≤ y.entered) q
      → none_bad (map (harmed h) (blocks q)) ≡ true
      → suc n ≤ (taking (map (harmed h) (blocks q)) near).log.ack_count
  unfolding taking none_bad
  hears_then p [] h e o a g = absurd (omega (arith, o))
  hears_then p (y ∷ []) sound e o a g =
      let r = near_hears p y (subst (λ (l : List Stamp). Way fa l near far) e w) in
      omega (arith, r, a.0)
  hears_then p (y ∷ []) (spoilt c) e o a g = absurd (false≢true g)
  hears_then p (x ∷ y ∷ q) h e o a g = absurd (omega (arith, o))

-- Each event

abbrev pub Going : {d f : ℕ} {near far : Side} → ℕ → ℕ → Inv d f near far → Type 0
Going {d} {f} {near} {far} n k i = Progress n k d f near far i.fa i.fb

module _ (n k d f : ℕ) (near far : Side) (hn hf : Harm) (i : Inv d f near far)
    (gn : none_bad (arriving f hn (sends far).sent) ≡ true) (gf : none_bad (arriving d hf (sends near).sent) ≡ true)
    (p : Going n k i) where
  -- the first slot loads the message
  loaded_now : suc n ≤ (sends near).log.load_count
  loaded_now = go k refl
    where
      go : (j : ℕ) → k ≡ j → suc n ≤ (sends near).log.load_count
      go zero e =
          let a = ap (λ (s : Side). s.log.load_count) (sends_as near true i.way.near_good (p.waiting e)) in
          omega (arith, a, p.least)
      go (suc j) e = omega (arith, p.loaded (omega (arith, e)), sends_loads near)

  fresh_now : All (λ x. suc n ≤ x.loads) (take (suc k) (outgoing i))
  fresh_now = (loaded_now, p.fresh)

  empty_now : length far.log.entered ≡ n → (sends far).end.receive.rxval ≡ false
  empty_now e =
      ap (λ (s : Side). s.end.receive.rxval) (sends_as far (loads far.end) i.way.far_good refl) ∙ p.empty e

  -- it arrives with the block that was sent d slots ago
  entered_now : d ≤ k → suc n ≤ length (takes_from d hf (sends near) (sends far)).log.entered
  entered_now h =
      subst (λ (b : List Block). suc n ≤ length (taking (map (harmed hf) b) (sends far)).log.entered) come
      (enters_then (both_sent i) n (take d (outgoing i)) (due d (outgoing i)) hf
      (split d (outgoing i) (sends near).sent (outgoing_are i))
      one
      (all_arriving (λ x. suc n ≤ x.loads) k d (outgoing i) h fresh_now)
      (subst (λ (b : List Block). none_bad (map (harmed hf) b) ≡ true) (sym come) gf)
      p.from empty_now)
    where
      come : blocks (due d (outgoing i)) ≡ due d (sends near).sent
      come = arrives d (outgoing i) (sends near).sent (outgoing_are i)

      one : length (due d (outgoing i)) ≡ 1
      one =
          let a = length-map (due d (outgoing i)) (λ (x : Stamp). x.block) in
          let b = ap (λ (l : List Block). length l) come in
          let c = some_due d (sends near).sent (omega (arith, h, p.long)) in
          omega (arith, a, b, c)

  -- after that the far side tells of it
  telling_now : suc d ≤ k → All (λ y. suc n ≤ y.entered) (take (suc (k - suc d)) (returning i))
  telling_now h = (p.entered h, p.telling)

  telling_then : All (λ y. suc n ≤ y.entered) (take (suc k - suc d) (returning i))
  telling_then = go (leb (suc d) k) refl
    where
      go : (b : Bool) → leb (suc d) k ≡ b → All (λ y. suc n ≤ y.entered) (take (suc k - suc d) (returning i))
      go true e =
          let h = leb-true (suc d) k e in
          let q : suc (k - suc d) ≡ suc k - suc d = omega (arith, h) in
          subst (λ (j : ℕ). All (λ y. suc n ≤ y.entered) (take j (returning i))) q (telling_now h)
      go false e =
          let q : 0 ≡ suc k - suc d = omega (arith, leb-false (suc d) k e) in
          subst (λ (j : ℕ). All (λ y. suc n ≤ y.entered) (take j (returning i))) q tt

  -- and it is heard with the block that was sent f slots ago
  heard_now : suc (d + f) ≤ k → suc n ≤ (takes_from f hn (sends far) (sends near)).log.ack_count
  heard_now h =
      subst (λ (b : List Block). suc n ≤ (taking (map (harmed hn) b) (sends near)).log.ack_count) come
      (hears_then (both_sent i) n (take f (returning i)) (due f (returning i)) hn
      (split f (returning i) (sends far).sent (returning_are i))
      one
      (all_arriving (λ y. suc n ≤ y.entered) (k - suc d) f (returning i) (omega (arith, h))
      (telling_now (omega (arith, h))))
      (subst (λ (b : List Block). none_bad (map (harmed hn) b) ≡ true) (sym come) gn))
    where
      come : blocks (due f (returning i)) ≡ due f (sends far).sent
      come = arrives f (returning i) (sends far).sent (returning_are i)

      one : length (due f (returning i)) ≡ 1
      one =
          let a = length-map (due f (returning i)) (λ (x : Stamp). x.block) in
          let b = ap (λ (l : List Block). length l) come in
          let c = some_due f (sends far).sent (omega (arith, h, p.long_back)) in
          omega (arith, a, b, c)

  slot_going : Going n (suc k) (slot_kept d f near far hn hf i)
  unfolding slot_kept
  slot_going = record {
    from = omega (arith, p.from, more);
    empty = λ e. taking_empty comes_f (sends far) (omega (arith, e, p.from, more))
        (empty_now (omega (arith, e, p.from, more)));
    waiting = λ e. absurd (omega (arith, e));
    least = omega (arith, loaded_now, taking_loads comes_n (sends near));
    loaded = λ _. omega (arith, loaded_now, taking_loads comes_n (sends near));
    long =
        subst (λ (l : List Block). suc k ≤ length l) (sym (taking_sent comes_n (sends near))) (omega (arith, p.long));
    long_back =
        subst (λ (l : List Block). suc k ≤ length l) (sym (taking_sent comes_f (sends far)))
        (omega (arith, p.long_back));
    fresh = all_take (λ x. suc n ≤ x.loads) (suc k) d (outgoing i) fresh_now;
    entered = λ h. entered_now (omega (arith, h));
    telling = all_take (λ y. suc n ≤ y.entered) (suc k - suc d) f (returning i) telling_then;
    heard = λ h. heard_now (omega (arith, h));
  }
    where
      comes_n : List Arrival
      comes_n = arriving f hn (sends far).sent

      comes_f : List Arrival
      comes_f = arriving d hf (sends near).sent

      more : length far.log.entered ≤ length (taking comes_f (sends far)).log.entered
      more = taking_enters comes_f (sends far)

-- A host's call leaves the log

hosted_loads : (c : Access) (s : Side) → (hosted c s).log.load_count ≡ s.log.load_count
hosted_loads (read r) s = refl
hosted_loads (write r v b) s = refl

hosted_acks : (c : Access) (s : Side) → (hosted c s).log.ack_count ≡ s.log.ack_count
hosted_acks (read r) s = refl
hosted_acks (write r v b) s = refl

hosted_entered : (c : Access) (s : Side) → (hosted c s).log.entered ≡ s.log.entered
hosted_entered (read r) s = refl
hosted_entered (write r v b) s = refl

-- and makes nothing appear in the receive words
stays_empty : (c : Access) (s : Side) → bad s.end ≡ false → s.end.receive.rxval ≡ false
    → (hosted c s).end.receive.rxval ≡ false
stays_empty (read r) s g v =
    read_keeps (λ (x : End). x.receive.rxval ≡ false) s.end r g
    (λ l. ap (λ (b : Bool). cond (l && b) false b) v ∙ none l)
  where
    none : (l : Bool) → cond (l && false) false false ≡ false
    none true = refl
    none false = refl
stays_empty (write r v b) s g h = write_keeps (λ (x : End). x.receive.rxval ≡ false) s.end r v g (λ _. h)

-- a write while TXREQ is 1 changes nothing
write_waits : (e : End) (w v : ℕ) → e.transmit.txreq ≡ true → (write_of e w v).end ≡ e
unfolding write_of
write_waits e w v t =
    either Q (bad e) _ _ (λ _. refl)
    (λ _. either Q (outside w) _ _ (λ _. refl)
    (λ _. either Q (receives w) _ _ (λ _. refl)
    (λ _. either Q (eqb w 0) _ _
    (λ _. either Q e.transmit.txreq _ _ (λ _. refl) (λ k. absurd (true≢false (sym t ∙ k))))
    (λ _. either Q e.transmit.txreq _ _ (λ _. refl) (λ k. absurd (true≢false (sym t ∙ k)))))))
  where
    Q : Next → Type 0
    Q r = r.end ≡ e

-- a call of the near host: a request that waits cannot be withdrawn, nor overwritten
waits_on : (c : Access) (s : Side) → bad s.end ≡ false → loads s.end ≡ true → loads (hosted c s).end ≡ true
waits_on (read r) s g e =
    read_keeps (λ (x : End). loads x ≡ true) s.end r g (λ l. e)
waits_on (write r v b) s g e =
    subst (λ (x : End). loads x ≡ true) (sym (write_waits s.end r v (and_both s.end.transmit.txreq _ e).0)) e

module _ (n k d f : ℕ) (near far : Side) (c : Access) (i : Inv d f near far) (p : Going n k i) where
  near_going : Going n k (near_kept d f near far c i)
  unfolding near_kept
  near_going = record {
    from = p.from;
    empty = p.empty;
    waiting = λ e. waits_on c near i.way.near_good (p.waiting e);
    least = subst (λ (j : ℕ). n ≤ j) (sym (hosted_loads c near)) p.least;
    loaded = λ h. subst (λ (j : ℕ). suc n ≤ j) (sym (hosted_loads c near)) (p.loaded h);
    long = subst (λ (l : List Block). k ≤ length l) (sym (hosted_sent c near)) p.long;
    long_back = p.long_back;
    fresh = p.fresh;
    entered = p.entered;
    telling = p.telling;
    heard = λ h. subst (λ (j : ℕ). suc n ≤ j) (sym (hosted_acks c near)) (p.heard h);
  }

  far_going : Going n k (far_kept d f near far c i)
  unfolding far_kept
  far_going = record {
    from = subst (λ (l : List Message). n ≤ length l) (sym (hosted_entered c far)) p.from;
    empty = λ e. stays_empty c far i.way.far_good
        (p.empty (ap (λ (l : List Message). length l) (sym (hosted_entered c far)) ∙ e));
    waiting = p.waiting;
    least = p.least;
    loaded = p.loaded;
    long = p.long;
    long_back = subst (λ (l : List Block). k ≤ length l) (sym (hosted_sent c far)) p.long_back;
    fresh = p.fresh;
    entered = λ h. subst (λ (l : List Message). suc n ≤ length l) (sym (hosted_entered c far)) (p.entered h);
    telling = p.telling;
    heard = p.heard;
  }

-- After a run

abbrev After : ℕ → ℕ → ℕ → ℕ → Direction → List Event → World → Type 0
After n m D E d es w = (j : Kept d D E (run D E es w)) × Going n m j

later : (n k D E : ℕ) (d : Direction) (es : List Event) (w : World) → After n (suc k + slots es) D E d es w
    → After n (k + suc (slots es)) D E d es w
later n k D E d es w a = subst (λ (m : ℕ). After n m D E d es w) one a
  where
    one : suc k + slots es ≡ k + suc (slots es)
    one = omega arith

pub run_going : (n k D E : ℕ) (d : Direction) (fs : List Event) (w : World) (i : Kept d D E w) → good D E fs w ≡ true
    → Going n k i → After n (k + slots fs) D E d fs w
unfolding run_by every slots
run_going n k D E d [] w i g p = (i, subst (λ (m : ℕ). Going n m i) (sym plain) p)
  where
    plain : k + 0 ≡ k
    plain = omega arith
run_going n k D E a_to_b (slot ha hb ∷ es) w i g p =
    let both = and_both (good_step D E (slot ha hb) (sends w.a).sent (sends w.b).sent) _ g in
    let marks = and_both (none_bad (arriving E ha (sends w.b).sent)) _ both.0 in
    later n k D E a_to_b es (step D E (slot ha hb) w) (run_going n (suc k) D E a_to_b es (step D E (slot ha hb) w)
    (slot_kept D E w.a w.b ha hb i) both.1
    (slot_going n k D E w.a w.b ha hb i marks.0 marks.1 p))
run_going n k D E a_to_b (at_a c ∷ es) w i g p =
    run_going n k D E a_to_b es (step D E (at_a c) w) (near_kept D E w.a w.b c i) g
    (near_going n k D E w.a w.b c i p)
run_going n k D E a_to_b (at_b c ∷ es) w i g p =
    run_going n k D E a_to_b es (step D E (at_b c) w) (far_kept D E w.a w.b c i) g
    (far_going n k D E w.a w.b c i p)
run_going n k D E b_to_a (slot ha hb ∷ es) w i g p =
    let both = and_both (good_step D E (slot ha hb) (sends w.a).sent (sends w.b).sent) _ g in
    let marks = and_both (none_bad (arriving E ha (sends w.b).sent)) _ both.0 in
    later n k D E b_to_a es (step D E (slot ha hb) w) (run_going n (suc k) D E b_to_a es (step D E (slot ha hb) w)
    (slot_kept E D w.b w.a hb ha i) both.1
    (slot_going n k E D w.b w.a hb ha i marks.1 marks.0 p))
run_going n k D E b_to_a (at_a c ∷ es) w i g p =
    run_going n k D E b_to_a es (step D E (at_a c) w) (far_kept E D w.b w.a c i) g
    (far_going n k E D w.b w.a c i p)
run_going n k D E b_to_a (at_b c ∷ es) w i g p =
    run_going n k D E b_to_a es (step D E (at_b c) w) (near_kept E D w.b w.a c i) g
    (near_going n k E D w.b w.a c i p)

-- What was accepted stays

called_accepts : (c : Access) (s : Side)
    → (more : List Message) × ((hosted c s).host.accepted ≡ s.host.accepted ++ more)
called_accepts (read r) s =
    either (λ (h : Host). (more : List Message) × (h.accepted ≡ s.host.accepted ++ more)) (within 9 17 r) _ _
    (λ _. ([], sym (append-nil s.host.accepted))) (λ _. ([], sym (append-nil s.host.accepted)))
called_accepts (write r v b) s =
    either (λ (l : List Message). (more : List Message) × (l ≡ s.host.accepted ++ more)) (accepts_now r v s.end) _ _
    (λ _. (message_written v s.host ∷ [], refl)) (λ _. ([], sym (append-nil s.host.accepted)))

taking_host : (l : List Arrival) (s : Side) → (taking l s).host ≡ s.host
unfolding taking
taking_host [] s = refl
taking_host (y ∷ l) s = refl

abbrev More : Side → Side → Type 0
More s t = (more : List Message) × (t.host.accepted ≡ s.host.accepted ++ more)

more_none : (s t : Side) → t.host ≡ s.host → More s t
more_none s t e = ([], ap (λ (h : Host). h.accepted) e ∙ sym (append-nil s.host.accepted))

more_then : (s t u : Side) → More s t → More t u → More s u
more_then s t u a b = (
  a.0 ++ b.0,
  b.1
      ∙ (ap (λ (l : List Message). l ++ b.0) a.1 ∙ append_assoc s.host.accepted a.0 b.0),
)

step_more : (d : Direction) (D E : ℕ) (e : Event) (w : World) → More (near d w) (near d (step D E e w))
step_more a_to_b D E (slot ha hb) w =
    more_none w.a (takes_from E ha (sends w.b) (sends w.a))
    (taking_host (arriving E ha (sends w.b).sent) (sends w.a))
step_more a_to_b D E (at_a c) w = called_accepts c w.a
step_more a_to_b D E (at_b c) w = more_none w.a w.a refl
step_more b_to_a D E (slot ha hb) w =
    more_none w.b (takes_from D hb (sends w.a) (sends w.b))
    (taking_host (arriving D hb (sends w.a).sent) (sends w.b))
step_more b_to_a D E (at_a c) w = more_none w.b w.b refl
step_more b_to_a D E (at_b c) w = called_accepts c w.b

more_accepted : (d : Direction) (D E : ℕ) (es : List Event) (w : World) → More (near d w) (near d (run D E es w))
unfolding run_by
more_accepted d D E [] w = more_none (near d w) (near d w) refl
more_accepted d D E (e ∷ es) w =
    more_then (near d w) (near d (step D E e w)) (near d (run D E es (step D E e w))) (step_more d D E e w)
    (more_accepted d D E es (step D E e w))

-- of what entered, which is the first of what was accepted, the place of a message
placed : (entered rest older newer : List Message) (m : Message) (n : ℕ) → entered ++ rest ≡ older ++ m ∷ newer
    → length older ≡ n → suc n ≤ length entered
    → (p q : List Message) × (entered ≡ p ++ m ∷ q) × (length p ≡ n)
placed entered rest older newer m n e l h = (
  take n entered,
  drop (suc n) entered,
  split_at entered n m (omega (arith, h)) ∙ ap (λ (x : Message). take n entered ++ x ∷ drop (suc n) entered) there,
  length-take-le n entered (omega (arith, h)),
)
  where
    there : get_or entered n m ≡ m
    there =
        sym (ap (λ (x : List Message). get_or x n m) (take-append_seam entered rest))
        ∙ (get_or-take (length entered) (entered ++ rest) n m (omega (arith, h))
        ∙ (ap (λ (x : List Message). get_or x n m) e ∙ get_or_at older m newer m n l))

-- Accepted into an idle direction

module _ {d f : ℕ} {near far : Side} (i : Inv d f near far) (idle : Idle near far) (v : ℕ) (h : v < 65536)
    (q : accepts_now 0 v near.end ≡ true) where
  z : Zero near.end (word_zero near)
  z = word_zero_lem near.end i.way.near_good

  unrequested : near.end.transmit.txreq ≡ false
  unrequested = sym z.txreq ∙ idle.no_request

  same : near.end.transmit.phyt ≡ near.end.sent.msgt
  same = sym z.phyt ∙ (idle.received ∙ z.msgt)

  -- the write is done
  written_is : write_of near.end 0 v ≡ record { answer = Done; end = with_control near.end v }
  unfolding write_of
  written_is = cond_false _ _ i.way.near_good ∙ cond_false _ _ unrequested

  counts : (near.log.ack_count ≡ near.log.load_count) × (length far.log.entered ≡ near.log.load_count)
      × (length near.host.accepted ≡ near.log.load_count)
  counts =
      let s = ap num same in
      let c = i.way.chain in
      let a = accepted_count i.way in
      let t = ap num unrequested in (
        omega (arith, s, i.way.phyt, i.way.msgt, heard_entered c, entered_loaded c, c.few),
        omega (arith, s, i.way.phyt, i.way.msgt, heard_entered c, entered_loaded c, c.few),
        omega (arith, a, t),
      )

  loads_then : loads (hosted (write 0 v h) near).end ≡ true
  loads_then =
      ap (λ (n : Next). loads n.end) written_is
      ∙ and-true (bit15 v) (beq near.end.transmit.phyt near.end.sent.msgt)
      (and_both (bit15 v) _ q).0 (equal near.end.transmit.phyt near.end.sent.msgt same)
    where
      equal : (x y : Bool) → x ≡ y → beq x y ≡ true
      equal true true e = refl
      equal true false e = absurd (false≢true (sym e))
      equal false true e = absurd (false≢true e)
      equal false false e = refl

  begins : Going (length near.host.accepted) 0 (near_kept d f near far (write 0 v h) i)
  unfolding near_kept
  begins = record {
    from = omega (arith, counts.1, counts.2);
    empty = λ _. idle.empty;
    waiting = λ _. loads_then;
    least = omega (arith, counts.2);
    loaded = λ e. absurd (omega (arith, e));
    long = omega arith;
    long_back = omega arith;
    fresh = tt;
    entered = λ e. absurd (omega (arith, e));
    telling = subst (λ (j : ℕ). All (λ y. suc (length near.host.accepted) ≤ y.entered) (take j i.fb)) none tt;
    heard = λ e. absurd (omega (arith, e));
  }
    where
      none : 0 ≡ 0 - suc d
      none = omega arith

  accepted_then :
      (hosted (write 0 v h) near).host.accepted ≡ near.host.accepted ++ (message_written v near.host ∷ [])
  accepted_then = cond_true _ _ q

-- The statement

abbrev Begun : Direction → ℕ → ℕ → ℕ → World → World → Message → Type 0
Begun d D E n w x m =
    ((j : Kept d D E x) × Going n 0 j) × ((near d x).host.accepted ≡ (near d w).host.accepted ++ (m ∷ []))

begun : (d : Direction) (D E : ℕ) (w : World) → Kept d D E w → Idle (near d w) (far d w) → (v : ℕ) (h : v < 65536)
    → accepts_now 0 v (near d w).end ≡ true
    → Begun d D E (length (near d w).host.accepted) w (step D E (at_near d (write 0 v h)) w)
    (message_written v (near d w).host)
begun a_to_b D E w i idle v h q =
    ((near_kept D E w.a w.b (write 0 v h) i, begins i idle v h q), accepted_then i idle v h q)
begun b_to_a D E w i idle v h q =
    ((near_kept E D w.b w.a (write 0 v h) i, begins i idle v h q), accepted_then i idle v h q)

round : (d : Direction) (D E : ℕ) → away d D E + home d D E ≡ D + E
round a_to_b D E = refl
round b_to_a D E = omega arith

acknowledged : (n k d f : ℕ) (near far : Side) (i : Inv d f near far) → Going n k i → suc (suc (d + f)) ≤ k
    → Acknowledged n near
acknowledged n k d f near far i p h = record {
  changed = omega (arith, p.heard h);
  shown = λ e. z.phyt ∙ (same_toggle near.end.transmit.phyt near.end.sent.msgt (level e) ∙ sym z.msgt);
}
  where
    z : Zero near.end (word_zero near)
    z = word_zero_lem near.end i.way.near_good

    level : near.log.load_count ≡ suc n → num near.end.transmit.phyt ≡ num near.end.sent.msgt
    level e =
        let c = i.way.chain in
        omega (arith, e, p.heard h, heard_entered c, entered_loaded c, i.way.phyt, i.way.msgt)

    same_toggle : (x y : Bool) → num x ≡ num y → x ≡ y
    same_toggle true true e = refl
    same_toggle true false e = absurd (omega (arith, e))
    same_toggle false true e = absurd (omega (arith, e))
    same_toggle false false e = refl

pub delivered : Delivered
delivered d D E es w is idle v h q x x-is fs clean y y-is =
    subst (λ (u : World). (enough (away d D E) ≤ slots fs → Entered n m (far d u))
    × (enough_back (D + E) ≤ slots fs → Acknowledged n (near d u)))
    (sym y-is) (entered, heard)
  where
    n : ℕ
    n = length (near d w).host.accepted

    m : Message
    m = message_written v (near d w).host

    i : Kept d D E w
    i = subst (λ (u : World). Kept d D E u) (sym is) (run_kept d D E es reset_world (reset_kept d D E))

    b : Begun d D E n w x m
    b = subst (λ (u : World). Begun d D E n w u m) (sym x-is) (begun d D E w i idle v h q)

    r : After n (0 + slots fs) D E d fs x
    r = run_going n 0 D E d fs x b.0.0 clean b.0.1

    more : More (near d x) (near d (run D E fs x))
    more = more_accepted d D E fs x

    entered : enough (away d D E) ≤ slots fs → Entered n m (far d (run D E fs x))
    entered e =
        placed (far d (run D E fs x)).log.entered _ (near d w).host.accepted more.0 m n
        (sym r.0.way.accepted
        ∙ (more.1
        ∙ (ap (λ (l : List Message). l ++ more.0) b.1
        ∙ append_assoc (near d w).host.accepted (m ∷ []) more.0)))
        refl (r.1.entered (omega (arith, e)))

    heard : enough_back (D + E) ≤ slots fs → Acknowledged n (near d (run D E fs x))
    heard e =
        acknowledged n (0 + slots fs) (away d D E) (home d D E) (near d (run D E fs x)) (far d (run D E fs x)) r.0
        r.1 (omega (arith, e, round d D E))
