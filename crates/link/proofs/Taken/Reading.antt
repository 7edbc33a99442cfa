-- A host reads by the rule: what is read out of the receive register is the next message.
--   status_reads, pair_apart, take_pair   what 3.2313 and the registers of bytes hold
--   TakeOk, no_take_ok   a take that is half done has read a part of what is in the register; none has begun
--   Took, grown_took     see Taken.antt
--   gathered_by, host_by  the host after a receive_side read, by the tests of the register number and the value read
--   read_took   Took is kept
-- Assumes nothing.
use Prim.Native.Nat.{ℕ, zero, suc, ◌+◌, ◌-◌, ◌*◌, ◌/◌, ◌%◌, ◌≤◌, ◌<◌}
use mathlib.Core.Bool.{Bool, true, false, not, cond, ◌||◌, false≢true}
use mathlib.Core.List.{List, [], ◌∷◌, ◌++◌, append_assoc}
use mathlib.Core.Path.{◌≡◌, refl, sym, ap, ◌∙◌, subst}
use mathlib.Core.Logic.{◌≢◌}
use native.Mathlib.Numerals.{add-one}
use native.Mathlib.Omega.{arith}
use lib.Dec.{eqb, ltb}
use lib.ListN.{length, get_or, take}
use lib.Seq.{take-suc, take_all}
use borrow.Author.Tests.{eq-eqb, ne_eqb, eqb-true, eqb-false, le-leb, lt-leb, ltb-true}
use Rattle.answer.specs.declared.Answer.TheVariants.{NoRegister}
use Rattle.receiver.specs.declared.Inbox.{Inbox}
use Rattle.end.specs.declared.Read.{Read}
use Rattle.laws.specs.Above.{above}
use Rattle.end.specs.Registers.{outside, pair, status, value_of, read_of}
use Rattle.laws.proofs.Bools.{or_cases}
use Rattle.laws.proofs.AboveLaws.{above_get_d}
use Rattle.endlaws.proofs.Goods.{good}
use Rattle.end.proofs.RegisterLaws.{read_done}
use Rattle.protocol.specs.Steps.{num}
use Rattle.protocol.proofs.Keeps.{num_le}
use Rattle.link.specs.Link.{Message, Host, Side, also, read, bit15, receive_side, halves, ruled_call, did_read}
use Rattle.link.specs.Link.{hosted}
use Rattle.weights.proofs.Weighed.{bit_num, odd_is}
use Rattle.link.proofs.Line.{Cell}
use Rattle.link.proofs.Invariant.Logs.{length_more, part_more, part_grows}
use Rattle.link.proofs.Invariant.OneWay.{no_message, message_at, Filling}
use Rattle.link.proofs.Invariant.{Inv}
use Rattle.link.proofs.Kept.Reading.{in_by}

-- 3.2313's value holds full and the number
status_reads : (f t n h : ℕ) → f ≤ 1 → t ≤ 1 → n ≤ 15 → h ≤ 3
    → ((32768 * f + 16384 * t + 256 * n + h) / 32768 % 2 ≡ f) × ((32768 * f + 16384 * t + 256 * n + h) / 256 % 16 ≡ n)
status_reads f t n h hf ht hn hh = (omega arith, omega arith)

-- a pair of bytes read apart, and behind the bytes before it
pair_apart : (x y : ℕ) → x ≤ 255 → y ≤ 255 → ((x + 256 * y) % 256 ≡ x) × ((x + 256 * y) / 256 ≡ y)
pair_apart x y h k = (omega arith, omega arith)

take_pair : (l : List ℕ) (i : ℕ) → above 255 l ≡ false → 2 * i + 1 < length l
    → take (2 * i) l ++ halves (pair l i) ≡ take (2 * suc i) l
take_pair l i h k =
    let p = pair_apart _ _ (above_get_d 255 l (2 * i) h) (above_get_d 255 l (2 * i + 1) h) in
    ap (λ (x : ℕ). take (2 * i) l ++ (x ∷ pair l i / 256 ∷ [])) p.0
    ∙ ap (λ (x : ℕ). take (2 * i) l ++ (get_or l (2 * i) 0 ∷ x ∷ []))
    (p.1 ∙ ap (λ (n : ℕ). get_or l n 0) (add-one (2 * i)))
    ∙ sym (append_assoc (take (2 * i) l) (get_or l (2 * i) 0 ∷ []) (get_or l (suc (2 * i)) 0 ∷ []))
    ∙ ap (λ (m : List ℕ). m ++ (get_or l (suc (2 * i)) 0 ∷ [])) (sym (take-suc l (2 * i) 0 (omega arith)))
    ∙ sym (take-suc l (suc (2 * i)) 0 (omega arith))
    ∙ ap (λ (n : ℕ). take n l) two
  where
    two : suc (suc (2 * i)) ≡ 2 * suc i
    two = omega arith

-- n registers were read, which gave p; f says that the register is full, and m stands in it
pub record TakeOk (n : ℕ) (p : Message) (f : Bool) (m : Message) : Type 0 where
  pub within : n ≤ 4
  pub full : 0 < n → f ≡ true
  pub number : 0 < n → p.number ≡ m.number
  pub bytes : 0 < n → p.bytes ≡ take (2 * (n - 1)) m.bytes

-- a host that is not in a take
pub no_take_ok : (n : ℕ) (p : Message) (f : Bool) (m : Message) → n ≡ 0 → TakeOk n p f m
no_take_ok n p f m z = record {
  within = omega arith;
  full = λ p. absurd (omega arith);
  number = λ p. absurd (omega arith);
  bytes = λ p. absurd (omega arith);
}

pub record Took (i : Inbox) (h : Host) (acc ent : List Message) : Type 0 where
  pub reading : TakeOk h.stage h.so_far i.full (message_at i)
  pub taken_is : h.taken ≡ take (length h.taken) acc
  pub count : length ent ≡ length h.taken + num i.full

pub grown_took : {i : Inbox} {h : Host} {acc ent : List Message} (m : Message) → length ent ≤ length acc
    → Took i h acc ent → Took i h (acc ++ (m ∷ [])) ent
grown_took {h = h} {acc = acc} m o t = record {
  reading = t.reading;
  taken_is = part_grows acc h.taken m (omega (arith, t.count)) t.taken_is;
  count = t.count;
}

-- a register number that is not there is not of the receive side
side_outside : (r : ℕ) → outside r ≡ true → receive_side r ≡ false
side_outside r h = or_cases (ltb r 2308) (ltb 2317 r) low high h
  where
    low : ltb r 2308 ≡ true → receive_side r ≡ false
    low t =
        let p : r < 2308 = ltb-true r 2308 t in
        rw (lt-leb 2313 r (omega arith))

    high : ltb 2317 r ≡ true → receive_side r ≡ false
    high t =
        let p : 2317 < r = ltb-true 2317 r t in
        rw (le-leb 2313 r (omega arith), lt-leb r 2317 (omega arith))

-- a's host takes b's messages
module _ {a b : Side} {ca cb : List Cell} {D E pa pb : ℕ} (i : Inv a b ca cb D E pa pb)
    (t : Took a.end.inbox a.host b.host.accepted a.log.entered) where
  abbrev box : Inbox
  box = a.end.inbox

  abbrev fill : Filling a.end.heard a.end.inbox b.host.accepted a.log.entered i.ba.ha
  fill = i.ba.filling

  -- the message in the register is the next one to be taken
  next_is : box.full ≡ true → get_or b.host.accepted (length a.host.taken) no_message ≡ message_at box
  next_is q =
      ap (λ (n : ℕ). get_or b.host.accepted n no_message)
      (same (length a.log.entered) (length a.host.taken) fill.gone (num box.full) t.count
      fill.receiving.taken)
      ∙ fill.register q
    where
      same : (x y z f : ℕ) → x ≡ y + f → x ≡ z + f → y ≡ z
      same x y z f e g = omega arith

  -- the host after a read of 3.2313 where v, of 3.2317 where u; w is the value
  abbrev gathered_by : Bool → ℕ → Message
  gathered_by v w = record {
    number = cond v (w / 256 % 16) a.host.so_far.number;
    bytes = cond v [] (a.host.so_far.bytes ++ halves w);
  }

  abbrev host_by : Bool → Bool → ℕ → Host
  host_by v u w = record {
    written = a.host.written;
    stage = cond v (cond (bit15 w) 1 0) (cond u 0 (a.host.stage + 1));
    so_far = gathered_by v w;
    accepted = a.host.accepted;
    taken = also u (gathered_by v w) a.host.taken;
  }

  abbrev Has : Bool → Host → Type 0
  Has u h = Took (in_by box u) h b.host.accepted a.log.entered

  -- nothing is read out of the register, and the host knows what it read
  by_host : (v : Bool) (w : ℕ) → TakeOk (host_by v false w).stage (gathered_by v w) box.full (message_at box)
      → Has false (host_by v false w)
  by_host v w h = record { reading = h; taken_is = t.taken_is; count = t.count }

  -- 3.2313: the take begins where the register is full
  status_took : Has false (host_by true false (status a.end))
  status_took = by_host true w (begins box.full full_is refl)
    where
      w : ℕ
      w = status a.end

      value_is : w ≡ 32768 * num box.full + 16384 * num box.toggle + 256 * box.number + a.end.heard.health
      value_is = rw (bit_num box.full 32768, bit_num box.toggle 16384)

      reads : (w / 32768 % 2 ≡ num box.full) × (w / 256 % 16 ≡ box.number)
      reads =
          rw value_is
          (status_reads (num box.full) (num box.toggle) box.number a.end.heard.health
          (num_le box.full) (num_le box.toggle) (good a.end i.fit_a.good).number_in
          (good a.end i.fit_a.good).partner)

      full_is : bit15 w ≡ box.full
      full_is = odd_is box.full (w / 32768) reads.0

      begins : (f : Bool) → bit15 w ≡ f → box.full ≡ f
          → TakeOk (host_by true false w).stage (gathered_by true w) box.full (message_at box)
      begins true p q = rw p (record {
        within = omega arith;
        full = λ h. q;
        number = λ h. reads.1;
        bytes = λ h. refl;
      })
      begins false p q = no_take_ok _ _ _ _ (rw p)

  module _ (n : ℕ) (at : a.host.stage ≡ suc n) where
    some : 0 < a.host.stage
    some = omega arith

    full : box.full ≡ true
    full = t.reading.full some

    -- the bytes read so far, with those of this register
    bytes_more : n ≤ 3 → a.host.so_far.bytes ++ halves (pair box.bytes n) ≡ take (2 * suc n) box.bytes
    bytes_more h =
        ap (λ (l : List ℕ). l ++ halves (pair box.bytes n))
        (t.reading.bytes some ∙ ap (λ (k : ℕ). take k box.bytes) so_far_lem)
        ∙ take_pair box.bytes n i.fit_a.shaped.bytes_in (omega (arith, i.fit_a.shaped.eight_in))
      where
        so_far_lem : 2 * (a.host.stage - 1) ≡ 2 * n
        so_far_lem = omega arith

    -- 3.2314 to 3.2316
    middle_took : n ≤ 2 → Has false (host_by false false (pair box.bytes n))
    middle_took h = by_host false (pair box.bytes n) (record {
      within = omega arith;
      full = λ z. full;
      number = λ z. t.reading.number some;
      bytes = λ z. bytes_more (omega arith) ∙ ap (λ (k : ℕ). take k box.bytes) now;
    })
      where
        now : 2 * suc n ≡ 2 * (a.host.stage + 1 - 1)
        now = omega arith

    -- 3.2317: the message is taken, and the register is empty
    last_took : n ≡ 3 → Has true (host_by false true (pair box.bytes n))
    last_took h = record {
      reading = no_take_ok _ _ _ _ refl;
      taken_is =
          part_more no_message b.host.accepted a.host.taken m t.taken_is below
          (next_is full ∙ sym message_is_lem);
      count =
          one_more (length a.log.entered) (length a.host.taken) (length (a.host.taken ++ (m ∷ [])))
          (num box.full)
          (length_more a.host.taken m) t.count (ap num full);
    }
      where
        m : Message
        m = gathered_by false (pair box.bytes n)

        all : a.host.so_far.bytes ++ halves (pair box.bytes n) ≡ box.bytes
        all =
            bytes_more (omega arith) ∙ take_all (2 * suc n) box.bytes (omega (arith, i.fit_a.shaped.eight_in))

        message_is_lem : m ≡ message_at box
        message_is_lem = λ j. record { number = t.reading.number some j; bytes = all j }

        below : length a.host.taken < length b.host.accepted
        below =
            let f : num box.full ≡ 1 = ap num full in
            omega (arith, t.count, i.ba.order, i.ba.holding.sending.accepted)

        one_more : (x y z f : ℕ) → z ≡ suc y → x ≡ y + f → f ≡ 1 → x ≡ z + 0
        one_more x y z f e g h = omega arith

  -- after a read that gave g
  abbrev Reads : ℕ → Read → Type 0
  Reads r g = Took g.end.inbox (did_read r g.value a.host) b.host.accepted a.log.entered

  module _ (r : ℕ) (inside : outside r ≡ false) where
    -- by the tests of the register number, and the value read
    by : (s v u : Bool) (w : ℕ) → receive_side r ≡ s → eqb r 2313 ≡ v → eqb r 2317 ≡ u → value_of a.end r ≡ w
        → Has u (cond s (host_by v u w) a.host)
        → Reads r (read_of a.end r)
    by s v u w ps pv pu pw h =
        subst (λ (g : Read). Reads r g) (sym (read_done a.end r i.fit_a.good inside))
        (moved ps pv pu pw h)
      where
        moved : {s₂ v₂ u₂ : Bool} {w₂ : ℕ} → s₂ ≡ s → v₂ ≡ v → u₂ ≡ u → w₂ ≡ w
            → Has u (cond s (host_by v u w) a.host)
            → Has u₂ (cond s₂ (host_by v₂ u₂ w₂) a.host)
        moved es ev eu ew h = rw (es, ev, eu, ew) h

    other : receive_side r ≡ false → Reads r (read_of a.end r)
    other h = by false (eqb r 2313) false (value_of a.end r) h refl no_last refl t
      where
        no_last : eqb r 2317 ≡ false
        no_last = ne_eqb r 2317 (λ e. false≢true (sym h ∙ ap receive_side e))

    pair_value : (n : ℕ) → r ≡ 2314 + n → value_of a.end r ≡ pair box.bytes n
    pair_value n e =
        rw (ne_eqb r 2308 (λ z. omega arith), lt-leb r 2312 (omega arith), ne_eqb r 2313 (λ z. omega arith), place)
      where
        place : r - 2314 ≡ n
        place = omega arith

    -- 3.2313, at any stage
    first : receive_side r ≡ true → r ≡ 2313 → Reads r (read_of a.end r)
    first h e =
        by true true false _ h (eq-eqb r 2313 e) (ne_eqb r 2317 (λ z. omega arith))
        (ap (λ (n : ℕ). value_of a.end n) e) status_took

    -- 3.2314 to 3.2317
    word : (n : ℕ) → receive_side r ≡ true → r ≡ 2314 + n → a.host.stage ≡ suc n → suc n ≤ 4
        → (l : Bool) → eqb n 3 ≡ l → Reads r (read_of a.end r)
    word n h e q m true k =
        let three : n ≡ 3 = eqb-true n 3 k in
        by true false true _ h (ne_eqb r 2313 (λ z. omega arith)) (eq-eqb r 2317 (omega arith)) (pair_value n e)
        (last_took n q three)
    word n h e q m false k =
        let less : n ≢ 3 = eqb-false n 3 k in
        by true false false _ h (ne_eqb r 2313 (λ z. omega arith)) (ne_eqb r 2317 (λ z. omega arith)) (pair_value n e)
        (middle_took n q (omega arith))

    mine : receive_side r ≡ true → r ≡ 2313 + a.host.stage → Reads r (read_of a.end r)
    mine h e = go a.host.stage refl t.reading.within
      where
        go : (n : ℕ) → a.host.stage ≡ n → n ≤ 4 → Reads r (read_of a.end r)
        go zero q m = first h (omega arith)
        go (suc n) q m = word n h (omega arith) q m (eqb n 3) refl

  pub read_took : (r : ℕ) → ruled_call (read r) a.host ≡ true
      → Took (hosted (read r) a).end.inbox (hosted (read r) a).host b.host.accepted a.log.entered
  unfolding read_of
  read_took r rule = go (outside r) (receive_side r) refl refl
    where
      go : (x y : Bool) → outside r ≡ x → receive_side r ≡ y → Reads r (read_of a.end r)
      go true y p q =
          let is : read_of a.end r ≡ record { answer = NoRegister; value = 0; end = a.end } =
          rw (i.fit_a.good, p) in
          subst (λ (g : Read). Reads r g) (sym is) (rw (side_outside r p) t)
      go false false p q = other r p q
      go false true p q =
          or_cases (eqb r 2313) (eqb r (2313 + a.host.stage))
          (λ e. first r p q (eqb-true r 2313 e))
          (λ e. mine r p q (eqb-true r (2313 + a.host.stage) e))
          (ap (λ (y : Bool). not y || (eqb r 2313 || eqb r (2313 + a.host.stage))) (sym q) ∙ rule)
