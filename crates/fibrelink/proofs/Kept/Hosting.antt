-- A host's call keeps what every run keeps.
--   either-read      a host that read is one of two
--   read_keeps       an end that was read is the end, or emptied
--   near_reads, far_reads, near-writes, far_writes   by the host of either side; near_called, far_called: any call
-- Assumes nothing.
use Prim.Native.Nat.{ℕ, ◌+◌, ◌-◌, ◌%◌, ◌<◌}
use mathlib.Core.Bool.{Bool, true, false, cond, ◌&&◌, false≢true}
use mathlib.Core.List.{List, [], ◌∷◌, ◌++◌, append_assoc, append-nil}
use mathlib.Core.Path.{◌≡◌, refl, sym, ap, ap₂, subst, ◌∙◌}
use native.Mathlib.Omega.{arith}
use lib.Dec.{eqb, leb, ltb}
use lib.ListN.{length, set}
use borrow.Author.Tests.{le-leb, leb-false, eqb-true, eqb-false}
use Rattle.answer.specs.Number.{number_of}
use Rattle.answer.specs.declared.Answer.{Answer}
use Rattle.answer.specs.declared.Answer.TheVariants.{NoRegister, ReadOnly, Blocked}
use Rattle.fibre.specs.declared.End.{End}
use Rattle.fibre.specs.declared.Next.{Next}
use Rattle.fibre.specs.declared.Read.{Read}
use Rattle.fibre.specs.declared.Transmit.{Transmit}
use Rattle.fibre.specs.Good.{bad}
use Rattle.fibre.specs.Words.{outside, receives, emptied, read_of, with_control, with_word, write_of}
use Rattle.fibre.specs.Calls.{Call}
use Rattle.fibrelaws.proofs.Reached.{after_good}
use Rattle.joined.specs.Joined.{also, within, bit15, advance_of, wrote_of}
use Rattle.laws.proofs.Bools.{either, cond_false, and-true}
use Rattle.protocol.specs.Steps.{num}
use Rattle.fibrelink.specs.Link.{Message, message_out, message_of, Host, Side, Access, read, write, gathered}
use Rattle.fibrelink.specs.Link.{accepts}
use Rattle.fibrelink.specs.Link.{stores, message_written, with_host, hosted}
use Rattle.fibrelink.proofs.Flight.{Stamp}
use Rattle.fibrelink.proofs.Chain.{leave}
use Rattle.fibrelink.proofs.Way.{Way}

-- Reading

-- an end that was read is the end itself, which is emptied by no read of word 17, or emptied
pub read_keeps : (P : End → Type 0) (e : End) (w : ℕ) → bad e ≡ false → ((l : Bool) → P (emptied l e))
    → P (read_of e w).end
unfolding read_of
read_keeps P e w g f =
    subst (λ (r : Read). P r.end) (sym (cond_false _ _ g))
    (either (λ (r : Read). P r.end) (outside w) _ _ (λ _. f false) (λ _. f (eqb w 17)))

module _ {fa fb : List Stamp} {near far : Side} (w : Way fa fb near far) where
  near_read_as : (e : End) (h : Host) → bad e ≡ false → e.transmit ≡ near.end.transmit
      → e.sent.msgt ≡ near.end.sent.msgt → message_of e.sent ≡ message_of near.end.sent
      → h.accepted ≡ near.host.accepted → h.written ≡ near.host.written → Way fa fb (with_host near e h) far
  near_read_as e h g t m o a r = record {
    near_good = g;
    far_good = w.far_good;
    gone = w.gone;
    read = w.read;
    chain = rw o w.chain;
    msgt = rw m w.msgt;
    phyt = rw t w.phyt;
    mert = rw t w.mert;
    sent_phyt = w.sent_phyt;
    sent_mert = w.sent_mert;
    toggle = w.toggle;
    full = w.full;
    accepted = rw (a, o, t) w.accepted;
    written = rw (r, t) w.written;
  }

  near_reads : (r v : ℕ) → Way fa fb (with_host near (read_of near.end r).end
      (cond (within 9 17 r) (advance_of 9 17 gathered r v near.host) near.host)) far
  near_reads r v =
      read_keeps (λ (e : End). bad e ≡ false → Way fa fb (with_host near e host) far) near.end r w.near_good
      (λ l g. either (λ (h : Host). Way fa fb (with_host near (emptied l near.end) h) far) (within 9 17 r) _ _
      (λ _. near_read_as (emptied l near.end) (advance_of 9 17 gathered r v near.host) g refl refl refl refl refl)
      (λ _. near_read_as (emptied l near.end) near.host g refl refl refl refl refl))
      (after_good (Call.read r) near.end w.near_good)
    where
      host : Host
      host = cond (within 9 17 r) (advance_of 9 17 gathered r v near.host) near.host

  -- word 17 with RXVAL set: the message is gone
  far_read_as : (l v : Bool) (h : Host) → far.end.receive.rxval ≡ v → bad (emptied l far.end) ≡ false
      → Way fa fb near (with_host far (emptied l far.end) h)
  far_read_as true true h e g = record {
    near_good = w.near_good;
    far_good = g;
    gone = length far.log.entered;
    read = w.read;
    chain =
        leave w.chain
        (omega (arith, subst (λ (b : Bool). length far.log.entered ≡ w.gone + num b) e w.full));
    msgt = w.msgt;
    phyt = w.phyt;
    mert = w.mert;
    sent_phyt = w.sent_phyt;
    sent_mert = rw e (w.toggle e);
    toggle = λ k. absurd (false≢true (dropped k));
    full = rw e (omega arith);
    accepted = w.accepted;
    written = w.written;
  }
    where
      dropped : cond (true && far.end.receive.rxval) false far.end.receive.rxval ≡ true → false ≡ true
      dropped k = sym (ap (λ (b : Bool). cond (true && b) false b) e) ∙ k
  far_read_as true false h e g = same
    where
      kept : cond (true && far.end.receive.rxval) false far.end.receive.rxval ≡ far.end.receive.rxval
      kept = ap (λ (b : Bool). cond (true && b) false b) e ∙ sym e

      same : Way fa fb near (with_host far (emptied true far.end) h)
      same = record {
        near_good = w.near_good;
        far_good = g;
        gone = w.gone;
        read = w.read;
        chain = w.chain;
        msgt = w.msgt;
        phyt = w.phyt;
        mert = w.mert;
        sent_phyt = w.sent_phyt;
        sent_mert = rw e w.sent_mert;
        toggle = λ k. w.toggle (sym kept ∙ k);
        full = rw kept w.full;
        accepted = w.accepted;
        written = w.written;
      }
  far_read_as false v h e g = record {
    near_good = w.near_good;
    far_good = g;
    gone = w.gone;
    read = w.read;
    chain = w.chain;
    msgt = w.msgt;
    phyt = w.phyt;
    mert = w.mert;
    sent_phyt = w.sent_phyt;
    sent_mert = w.sent_mert;
    toggle = w.toggle;
    full = w.full;
    accepted = w.accepted;
    written = w.written;
  }

  far_reads : (r : ℕ) (h : Host) → Way fa fb near (with_host far (read_of far.end r).end h)
  far_reads r h =
      read_keeps (λ (e : End). bad e ≡ false → Way fa fb near (with_host far e h)) far.end r w.far_good
      (λ l g. far_read_as l far.end.receive.rxval h refl g) (after_good (Call.read r) far.end w.far_good)

-- Writing

-- an end that was written to has other transmit words, or none
pub write_keeps : (P : End → Type 0) (e : End) (w v : ℕ) → bad e ≡ false
    → ((t : Transmit) → P (record { transmit = t; sent = e.sent; receive = e.receive })) → P (write_of e w v).end
unfolding write_of
write_keeps P e w v g f =
    subst (λ (r : Next). P r.end) (sym (cond_false _ _ g))
    (either Q (outside w) _ _ (λ _. f e.transmit)
    (λ _. either Q (receives w) _ _ (λ _. f e.transmit)
    (λ _. either Q (eqb w 0) _ _
    (λ _. either Q e.transmit.txreq _ _ (λ _. f e.transmit) (λ _. f (with_control e v).transmit))
    (λ _. either Q e.transmit.txreq _ _ (λ _. f e.transmit) (λ _. f (with_word e (w - 1) v).transmit)))))
  where
    Q : Next → Type 0
    Q r = P r.end

module _ {fa fb : List Stamp} {near far : Side} (w : Way fa fb near far) where
  far_writes : (r v : ℕ) → v < 65536 → (h : Host) → Way fa fb near (with_host far (write_of far.end r v).end h)
  far_writes r v b h =
      write_keeps (λ (e : End). bad e ≡ false → Way fa fb near (with_host far e h)) far.end r v w.far_good
      (λ t g. record {
        near_good = w.near_good;
        far_good = g;
        gone = w.gone;
        read = w.read;
        chain = w.chain;
        msgt = w.msgt;
        phyt = w.phyt;
        mert = w.mert;
        sent_phyt = w.sent_phyt;
        sent_mert = w.sent_mert;
        toggle = w.toggle;
        full = w.full;
        accepted = w.accepted;
        written = w.written;
      })
      (after_good (Call.write r v b) far.end w.far_good)

  -- what the near host has by what it was answered
  abbrev host_by : ℕ → ℕ → Next → Host
  host_by r v n =
      wrote_of (accepts r v (eqb (number_of n.answer) 0)) (stores r (eqb (number_of n.answer) 0))
      (message_written v near.host) (r - 1) v near.host

  abbrev Fits : ℕ → ℕ → Next → Type 0
  Fits r v n = bad n.end ≡ false → Way fa fb (with_host near n.end (host_by r v n)) far

  never : (a b : Bool) → (a && (b && false)) ≡ false
  never true true = refl
  never true false = refl
  never false b = refl

  ever : (b : Bool) → (b && true) ≡ b
  ever true = refl
  ever false = refl

  nor : (a : Bool) → (a && false) ≡ false
  nor true = refl
  nor false = refl

  -- refused: nothing was accepted or stored
  refused : (r v : ℕ) (a : Answer) → eqb (number_of a) 0 ≡ false → Fits r v (record { answer = a; end = near.end })
  refused r v a e g = subst (λ (h : Host). Way fa fb (with_host near near.end h) far) (sym nothing) w
    where
      nothing : host_by r v (record { answer = a; end = near.end }) ≡ near.host
      nothing =
          ap (λ (d : Bool). wrote_of (accepts r v d) (stores r d) (message_written v near.host) (r - 1) v
          near.host) e
          ∙ ap₂ (λ (p q : Bool). wrote_of p q (message_written v near.host) (r - 1) v near.host)
          (never (eqb r 0) (bit15 v)) (nor (within 1 8 r))

  -- done
  abbrev wrote_as : Bool → Bool → ℕ → ℕ → Host
  wrote_as p q i v = wrote_of p q (message_written v near.host) i v near.host

  at_zero : (r v : ℕ) → eqb r 0 ≡ true
      → wrote_as (accepts r v true) (stores r true) (r - 1) v ≡ wrote_as (bit15 v) false 0 v
  at_zero r v z =
      ap (λ (n : ℕ). wrote_as (accepts n v true) (stores n true) (n - 1) v) (eqb-true r 0 z)
      ∙ ap (λ (p : Bool). wrote_as p false 0 v) (ever (bit15 v))

  at_word : (r v : ℕ) → receives r ≡ false → eqb r 0 ≡ false
      → wrote_as (accepts r v true) (stores r true) (r - 1) v ≡ wrote_as false true (r - 1) v
  at_word r v c z =
      ap₂ (λ (p q : Bool). wrote_as (p && (bit15 v && true)) (q && true) (r - 1) v) z
      (and-true (leb 1 r) (leb r 8) (le-leb 1 r (omega (arith, eqb-false r 0 z)))
      (le-leb r 8 (omega (arith, leb-false 9 r c))))

  -- word 0
  abbrev before : List Message
  before = also (ltb (length far.log.entered) near.log.load_count) (message_of near.end.sent) []

  requests : (v : ℕ) (b : Bool) → bit15 v ≡ b → near.end.transmit.txreq ≡ false
      → also b (message_written v near.host) near.host.accepted
      ≡ far.log.entered ++ (before ++ also b (message_out (with_control near.end v)) [])
  requests v true e t =
      ap (λ (l : List Message). l ++ (message_written v near.host ∷ [])) w.accepted
      ∙ (ap (λ (b : Bool). (far.log.entered ++ (before ++ also b (message_out near.end) []))
      ++ (message_written v near.host ∷ [])) t
      ∙ (ap (λ (l : List Message). (far.log.entered ++ l) ++ (message_written v near.host ∷ [])) (append-nil before)
      ∙ (append_assoc far.log.entered before (message_written v near.host ∷ [])
      ∙ ap (λ (l : List ℕ). far.log.entered ++ (before ++ (record { control = v % 4096; words = l } ∷ [])))
      w.written)))
  requests v false e t =
      w.accepted ∙ ap (λ (b : Bool). far.log.entered ++ (before ++ also b (message_out near.end) [])) t

  controlled : (v : ℕ) → near.end.transmit.txreq ≡ false → bad (with_control near.end v) ≡ false
      → Way fa fb (with_host near (with_control near.end v) (wrote_as (bit15 v) false 0 v)) far
  controlled v t g = record {
    near_good = g;
    far_good = w.far_good;
    gone = w.gone;
    read = w.read;
    chain = w.chain;
    msgt = w.msgt;
    phyt = w.phyt;
    mert = w.mert;
    sent_phyt = w.sent_phyt;
    sent_mert = w.sent_mert;
    toggle = w.toggle;
    full = w.full;
    accepted = requests v (bit15 v) refl t;
    written = w.written;
  }

  -- words 1 to 8
  worded : (i v : ℕ) → near.end.transmit.txreq ≡ false → bad (with_word near.end i v) ≡ false
      → Way fa fb (with_host near (with_word near.end i v) (wrote_as false true i v)) far
  worded i v t g = record {
    near_good = g;
    far_good = w.far_good;
    gone = w.gone;
    read = w.read;
    chain = w.chain;
    msgt = w.msgt;
    phyt = w.phyt;
    mert = w.mert;
    sent_phyt = w.sent_phyt;
    sent_mert = w.sent_mert;
    toggle = w.toggle;
    full = w.full;
    accepted =
        w.accepted
        ∙ (ap (λ (b : Bool). far.log.entered ++ (before ++ also b (message_out near.end) [])) t
        ∙ sym (ap (λ (b : Bool). far.log.entered
        ++ (before ++ also b (message_out (with_word near.end i v)) [])) t));
    written = ap (λ (l : List ℕ). set l i v) w.written;
  }

  near_writes_as : (r v : ℕ) → Fits r v (write_of near.end r v)
  unfolding write_of
  near_writes_as r v =
      subst (Fits r v) (sym (cond_false _ _ w.near_good))
      (either (Fits r v) (outside r) _ _ (λ _. refused r v NoRegister refl)
      (λ _. either (Fits r v) (receives r) _ _ (λ _. refused r v ReadOnly refl)
      (λ c. either (Fits r v) (eqb r 0) _ _
      (λ z. either (Fits r v) near.end.transmit.txreq _ _ (λ _. refused r v Blocked refl)
      (λ t g. subst (λ (h : Host). Way fa fb (with_host near (with_control near.end v) h) far) (sym (at_zero r v z))
      (controlled v t g)))
      (λ z. either (Fits r v) near.end.transmit.txreq _ _ (λ _. refused r v Blocked refl)
      (λ t g. subst (λ (h : Host). Way fa fb (with_host near (with_word near.end (r - 1) v) h) far)
      (sym (at_word r v c z)) (worded (r - 1) v t g))))))

  pub near_called : (c : Access) → Way fa fb (hosted c near) far
  near_called (read r) = near_reads w r (read_of near.end r).value
  near_called (write r v b) = near_writes_as r v (after_good (Call.write r v b) near.end w.near_good)

  pub far_called : (c : Access) → Way fa fb near (hosted c far)
  far_called (read r) = far_reads w r (hosted (read r) far).host
  far_called (write r v b) = far_writes r v b (hosted (write r v b) far).host
