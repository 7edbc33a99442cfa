-- What specs/Does.antt says of a call leaves no choice: of ends of eight words of sixteen bits, what it says is said of
-- nothing but what the call gives.
--   send_determined, take_determined, read_determined, write_determined
-- Assumes nothing.
use Prim.Native.Nat.{ℕ, ◌+◌, ◌-◌, ◌*◌, ◌/◌, ◌%◌, ◌≤◌, ◌<◌}
use mathlib.Core.Bool.{Bool, true, false, beq}
use mathlib.Core.List.{List}
use mathlib.Core.Path.{◌≡◌, refl, sym, ap, ◌∙◌}
use native.Mathlib.Omega.{arith}
use lib.Dec.{eqb, leb}
use lib.ListN.{get_or}
use lib.Seq.{ext_get_or}
use borrow.Author.Tests.{eqb-true, eqb-false, leb-true, leb-false}
use Rattle.laws.proofs.Decide.{same_row}
use Rattle.answer.specs.Number.{number_of}
use Rattle.fibre.specs.declared.Block.{Block}
use Rattle.fibre.specs.declared.End.{End}
use Rattle.fibre.specs.declared.Receive.{Receive}
use Rattle.fibre.specs.declared.Transmit.{Transmit}
use Rattle.fibre.specs.Calls.{Call}
use Rattle.fibre.specs.Sending.{send_of}
use Rattle.fibre.specs.Shape.{Eight, Shaped}
use Rattle.fibre.specs.Taking.{take_of}
use Rattle.fibre.specs.Words.{read_of, write_of}
use Rattle.fibrelaws.specs.Does.{digit, Bits, Sends, Hears, Ignores, Takes, Reads, WriteLeaves, Writes}
use Rattle.fibrelaws.proofs.Answers.{read_0, write_0}
use Rattle.fibrelaws.proofs.Does.{send_does, take_does, read_does, write_does}
use Rattle.fibrelaws.proofs.Reached.{after_shaped}
use Rattle.fibrelaws.proofs.Tested.{below}

-- both are what a third one is
both : {A : Type 0} {x y z : A} → x ≡ z → y ≡ z → x ≡ y
both p q = p ∙ sym q

words : {l m : List ℕ} → Eight l → Eight m → ((i : ℕ) → get_or l i 0 ≡ get_or m i 0) → l ≡ m
words {l} {m} a b h = ext_get_or 0 l m (both a.0 b.0) (λ i _. h i)

-- parts are one by their fields

transmits : {x y : Transmit} → x.txreq ≡ y.txreq → x.phyt ≡ y.phyt → x.mert ≡ y.mert → x.control ≡ y.control
    → x.words ≡ y.words
    → x ≡ y
transmits a b c d e = λ i. record { txreq = a i; phyt = b i; mert = c i; control = d i; words = e i }

blocks : {x y : Block} → x.msgt ≡ y.msgt → x.phyt ≡ y.phyt → x.mert ≡ y.mert → x.control ≡ y.control
    → x.words ≡ y.words
    → x ≡ y
blocks a b c d e = λ i. record { msgt = a i; phyt = b i; mert = c i; control = d i; words = e i }

receives : {x y : Receive} → x.rxval ≡ y.rxval → x.toggle ≡ y.toggle → x.control ≡ y.control
    → x.words ≡ y.words
    → x ≡ y
receives a b c d = λ i. record { rxval = a i; toggle = b i; control = c i; words = d i }

ends : {x y : End} → x.transmit ≡ y.transmit → x.sent ≡ y.sent → x.receive ≡ y.receive → x ≡ y
ends a b c = λ i. record { transmit = a i; sent = b i; receive = c i }

digit_one : (a b : Bool) → digit a ≡ digit b → a ≡ b
digit_one true true h = refl
digit_one true false h = absurd (omega arith)
digit_one false true h = absurd (omega arith)
digit_one false false h = refl

-- two lists that have one word i, and one word in any other place
except : (l m : List ℕ) (i : ℕ) → get_or l i 0 ≡ get_or m i 0 → ((j : ℕ) → ¬ (j ≡ i) → get_or l j 0 ≡ get_or m j 0)
    → (j : ℕ) → get_or l j 0 ≡ get_or m j 0
except l m i p q j = go (eqb j i) refl
  where
    go : (t : Bool) → eqb j i ≡ t → get_or l j 0 ≡ get_or m j 0
    go true h = rw (eqb-true j i h) p
    go false h = q j (eqb-false j i h)

-- sixteen bits make one number
joined : (v p q r o x y z u n : ℕ) → p ≡ x → q ≡ p * 2 + y → r ≡ q * 2 + z → o ≡ r * 2 + u → v ≡ o * 4096 + n
    → v ≡ x * 32768 + y * 16384 + z * 8192 + u * 4096 + n
joined v p q r o x y z u n a b c d e = omega arith

sum : (v : ℕ) → v < 65536
    → v ≡ v / 32768 % 2 * 32768 + v / 16384 % 2 * 16384 + v / 8192 % 2 * 8192 + v / 4096 % 2 * 4096 + v % 4096
sum v h =
    joined v (v / 32768) (v / 16384) (v / 8192) (v / 4096) (v / 32768 % 2) (v / 16384 % 2) (v / 8192 % 2)
    (v / 4096 % 2) (v % 4096)
    (omega arith) (omega arith) (omega arith) (omega arith) (omega arith)

number_one : {v w : ℕ} {a b c d : Bool} {n : ℕ} → Bits v a b c d n → Bits w a b c d n → v ≡ w
number_one {v} {w} p q =
    sum v p.sixteen
    ∙ rw (
      both p.bit_15 q.bit_15,
      both p.bit_14 q.bit_14,
      both p.bit_13 q.bit_13,
      both p.bit_12 q.bit_12,
      both p.low q.low,
    ) (sym (sum w q.sixteen))

-- the words 0 to 17: 0, 1 to 8, 9, and 10 to 17
value_one : (w : ℕ) (e : End) {u v : ℕ} {f g : End} → w ≤ 17 → Reads w e u f → Reads w e v g → u ≡ v
value_one w e {u} {v} n x y = go (eqb w 0) (leb w 8) (eqb w 9) refl refl refl
  where
    go : (a b c : Bool) → eqb w 0 ≡ a → leb w 8 ≡ b → eqb w 9 ≡ c → u ≡ v
    go true b c h j k = number_one (x.zero (eqb-true w 0 h)) (y.zero (eqb-true w 0 h))
    go false true c h j k =
        let z = eqb-false w 0 h in
        let t = leb-true w 8 j in
        let r : w ≡ 1 + (w - 1) = omega arith in
        both (x.one_to_eight (w - 1) (omega arith) r) (y.one_to_eight (w - 1) (omega arith) r)
    go false false true h j k = number_one (x.nine (eqb-true w 9 k)) (y.nine (eqb-true w 9 k))
    go false false false h j k =
        let z = eqb-false w 9 k in
        let t = leb-false w 8 j in
        let r : w ≡ 10 + (w - 10) = omega arith in
        both (x.ten_and_on (w - 10) (omega arith) r) (y.ten_and_on (w - 10) (omega arith) r)

-- Two ends after one call

module _ (e f g : End) (s : Shaped f) (t : Shaped g) where
  sends_one : {b c : Block} → Sends e b f → Sends e c g → f ≡ g
  sends_one x y = go e.transmit.txreq (beq e.transmit.phyt e.sent.msgt) refl refl
    where
      go : (q p : Bool) → e.transmit.txreq ≡ q → beq e.transmit.phyt e.sent.msgt ≡ p → f ≡ g
      go false p h j = both (x.no_request h) (y.no_request h)
      go true false h j =
          let n = (same_row e.transmit.phyt e.sent.msgt).fails j in
          both (x.not_received n) (y.not_received n)
      go true true h j =
          let p = (same_row e.transmit.phyt e.sent.msgt).holds j in
          let a = x.request h p in
          let b = y.request h p in
          let k = x.leaves in
          let l = y.leaves in
          ends
          (transmits (both a.txreq b.txreq) (both k.phyt l.phyt) (both k.mert l.mert)
          (both k.control l.control) (both k.words l.words))
          (blocks (both a.msgt b.msgt) (both k.sent_phyt l.sent_phyt) (both k.sent_mert l.sent_mert)
          (both a.control b.control) (words s.sent t.sent (λ i. both (a.words i) (b.words i))))
          (both k.receive l.receive)

  hears_one : {b : Block} → Hears b e f → Hears b e g → f ≡ g
  hears_one {b} x y = go (beq b.msgt e.sent.phyt) e.receive.rxval refl refl
    where
      front : f.transmit ≡ g.transmit
      front =
          let k = x.leaves in
          let l = y.leaves in
          transmits (both k.txreq l.txreq) (both x.phyt y.phyt) (both x.mert y.mert)
          (both k.control l.control) (both k.words l.words)

      same : Ignores e f → Ignores e g → f ≡ g
      same a b = ends front (both a.sent b.sent) (both a.receive b.receive)

      go : (p r : Bool) → beq b.msgt e.sent.phyt ≡ p → e.receive.rxval ≡ r → f ≡ g
      go true r h j =
          let p = (same_row b.msgt e.sent.phyt).holds h in
          same (x.known p) (y.known p)
      go false true h j = same (x.full j) (y.full j)
      go false false h j =
          let n = (same_row b.msgt e.sent.phyt).fails h in
          let u = x.new n j in
          let v = y.new n j in
          let k = x.leaves in
          let l = y.leaves in
          ends front
          (blocks (both k.sent_msgt l.sent_msgt) (both u.sent_phyt v.sent_phyt)
          (both k.sent_mert l.sent_mert) (both k.sent_control l.sent_control)
          (both k.sent_words l.sent_words))
          (receives (both u.rxval v.rxval) (both u.toggle v.toggle) (both u.control v.control)
          (words s.receive t.receive (λ i. both (u.words i) (v.words i))))

  takes_one : (m : Bool) {b : Block} → Takes m b e f → Takes m b e g → f ≡ g
  takes_one true x y = both (x.marked refl) (y.marked refl)
  takes_one false x y = hears_one (x.good refl) (y.good refl)

  reads_one : (w : ℕ) {u v : ℕ} → Reads w e u f → Reads w e v g → f ≡ g
  reads_one w x y = go (eqb w 17) e.receive.rxval refl refl
    where
      go : (p r : Bool) → eqb w 17 ≡ p → e.receive.rxval ≡ r → f ≡ g
      go false r h j = both (x.not_last (eqb-false w 17 h)) (y.not_last (eqb-false w 17 h))
      go true false h j = both (x.empty j) (y.empty j)
      go true true h j =
          let a = x.last (eqb-true w 17 h) j in
          let b = y.last (eqb-true w 17 h) j in
          let k = x.leaves in
          let l = y.leaves in
          ends (both k.transmit l.transmit)
          (blocks (both k.sent_msgt l.sent_msgt) (both k.sent_phyt l.sent_phyt)
          (both a.sent_mert b.sent_mert) (both k.sent_control l.sent_control)
          (both k.sent_words l.sent_words))
          (receives (both a.rxval b.rxval) (both k.toggle l.toggle) (both k.control l.control)
          (both k.words l.words))

  writes_one : (w : ℕ) {v : ℕ} → w ≤ 8 → Writes w v e f → Writes w v e g → f ≡ g
  writes_one w {v} n x y = ends (go (eqb w 0) refl) (both k.sent l.sent) (both k.receive l.receive)
    where
      k : WriteLeaves e f
      k = x.leaves

      l : WriteLeaves e g
      l = y.leaves

      go : (p : Bool) → eqb w 0 ≡ p → f.transmit ≡ g.transmit
      go true h =
          let a = x.zero (eqb-true w 0 h) in
          let b = y.zero (eqb-true w 0 h) in
          transmits (digit_one f.transmit.txreq g.transmit.txreq (both a.txreq b.txreq))
          (both k.phyt l.phyt) (both k.mert l.mert) (both a.control b.control)
          (both a.words b.words)
      go false h =
          let i : ℕ = w - 1 in
          let z = eqb-false w 0 h in
          let a = x.one_to_eight i (omega arith) (omega arith) in
          let b = y.one_to_eight i (omega arith) (omega arith) in
          transmits (both a.txreq b.txreq) (both k.phyt l.phyt) (both k.mert l.mert)
          (both a.control b.control)
          (words s.transmit t.transmit
          (except f.transmit.words g.transmit.words i (both a.word b.word)
          (λ j q. both (a.others j q) (b.others j q))))

-- The end that the call gives, and another

pub send_determined : (e : End) (b : Block) (f : End) → Shaped e → Shaped f
    → number_of (send_of e).answer ≡ 0
    → Sends e b f
    → (b ≡ (send_of e).block) × (f ≡ (send_of e).end)
send_determined e b f s t h x =
    let y = send_does e h in
    let p = sends_one e f (send_of e).end t (after_shaped Call.send e tt s) x y in
    (x.block ∙ (ap (λ (z : End). z.sent) p ∙ sym y.block), p)

pub take_determined : (e : End) (m : Bool) (b : Block) (f : End) → Shaped e → Eight b.words → Shaped f
    → number_of (take_of e m b).answer ≡ 0
    → Takes m b e f
    → f ≡ (take_of e m b).end
take_determined e m b f s n t h x =
    takes_one e f (take_of e m b).end t (after_shaped (Call.take m b) e n s) m x (take_does e m b h)

pub read_determined : (e : End) (w v : ℕ) (f : End) → Shaped e → Shaped f
    → number_of (read_of e w).answer ≡ 0
    → Reads w e v f
    → (v ≡ (read_of e w).value) × (f ≡ (read_of e w).end)
read_determined e w v f s t h x =
    let y = read_does e w h in (
      value_one w e (let n = ((read_0 e w).0 h).1 in omega arith) x y,
      reads_one e f (read_of e w).end t (after_shaped (Call.read w) e tt s) w x y,
    )

pub write_determined : (e : End) (w v : ℕ) (f : End) → v < 65536 → Shaped e → Shaped f
    → number_of (write_of e w v).answer ≡ 0
    → Writes w v e f
    → f ≡ (write_of e w v).end
write_determined e w v f b s t h x =
    let u = (write_0 e w v).0 h in
    writes_one e f (write_of e w v).end t (after_shaped (Call.write w v b) e tt s) w
    (below w u.1.0 u.1.1.0) x (write_does e w v s h)
