-- A host writes, or sets the health: the invariant is kept.
--   side_is, message_place   a register that can be written, and is not 3.2308, is one of the message bytes
--   write_kept    any write: refused, to the bytes, to 3.2308 with a message accepted or not
--   health_kept   the health to send
-- Assumes nothing.
use Prim.Native.Nat.{ℕ, suc, ◌+◌, ◌-◌, ◌/◌, ◌%◌, ◌≤◌, ◌<◌}
use mathlib.Core.Bool.{Bool, true, false, not, cond, ◌&&◌, ◌||◌, false≢true, true≢false, and-true, and-false}
use mathlib.Core.List.{List, [], ◌∷◌, ◌++◌}
use mathlib.Core.Path.{◌≡◌, refl, sym, ap, ◌∙◌, subst}
use native.Mathlib.Nat.{add-zero}
use native.Mathlib.Numerals.{add-one}
use native.Mathlib.Omega.{arith}
use lib.Dec.{eqb, ltb}
use lib.ListN.{length, get_or, get_or-append}
use lib.Seq.{get_or-append_seam}
use borrow.Author.Tests.{eqb-true, eqb-false, ltb-false, leb-false, le-leb, lt-leb}
use Rattle.answer.specs.Number.{number_of}
use Rattle.answer.specs.declared.Answer.{Answer}
use Rattle.answer.specs.declared.Answer.TheVariants.{Done, NoRegister, ReadOnly, ReadOnlyBits, Blocked}
use Rattle.end.specs.declared.End.{End}
use Rattle.end.specs.declared.Outbox.{Outbox}
use Rattle.end.specs.declared.Next.{Next}
use Rattle.end.specs.Good.{bad}
use Rattle.end.specs.Registers.{outside, read_only, read_only_bits, blocked, write_control, write_bytes, pick_outbox}
use Rattle.end.specs.Registers.{written, write_of, with_health, health_of}
use Rattle.end.proofs.RegisterLaws.{write_outside, write_only, write_bits, write_blocked, write_done}
use Rattle.end.specs.Calls.{Call}
use Rattle.end.specs.Shape.{Shaped}
use Rattle.laws.proofs.Bools.{cond_true, cond_false, or_no}
use Rattle.endlaws.proofs.Shapes.{after_shaped}
use Rattle.endlaws.proofs.Goods.{after_good}
use Rattle.protocol.specs.Steps.{num}
use Rattle.protocol.proofs.Keeps.{Sending, sent_below}
use Rattle.link.specs.Link.{Message, Host, Side, write, health, bit15, message_side, stores, answered0, accepts_now}
use Rattle.link.specs.Link.{message_written, wrote, with_host, hosted}
use Rattle.link.specs.Demand.{message_out}
use Rattle.link.proofs.Line.{Cell}
use Rattle.link.proofs.Invariant.Views.{out_of}
use Rattle.link.proofs.Invariant.Logs.{length_more}
use Rattle.link.proofs.Invariant.OneWay.{no_message, Holding}
use Rattle.link.proofs.Invariant.Written.{stored_set}
use Rattle.link.proofs.Invariant.{Inv}
use Rattle.link.proofs.Kept.Hosting.{end_as, hosted_as, grown_carries, grown_filling}

module _ (r : ℕ) (inside : outside r ≡ false) (writable : read_only r ≡ false) where
  from : 2308 ≤ r
  from = ltb-false r 2308 (or_no (ltb r 2308) (ltb 2317 r) inside).0

  upto : r < 2313
  upto = leb-false 2313 r writable

  pub side_is : message_side r ≡ not (eqb r 2308)
  side_is = go (eqb r 2308) refl
    where
      go : (t : Bool) → eqb r 2308 ≡ t → message_side r ≡ not t
      go true t = rw (lt-leb 2309 r (omega (arith, eqb-true r 2308 t)))
      go false t =
          let n = eqb-false r 2308 t in
          rw (le-leb 2309 r (omega (arith, from)), le-leb r 2312 (omega (arith, upto)))

  pub message_place : (r ≡ 2308 → ⊥) → r - 2309 < 4
  message_place n = omega (arith, from, upto)

module _ {a b : Side} {ca cb : List Cell} {D E pa pb : ℕ} (i : Inv a b ca cb D E pa pb) (r v : ℕ)
    (sixteen : v < 65536) where
  abbrev Keeps : Side → Type 0
  Keeps s = Inv s b ca cb D E pa pb

  -- refused: nothing is accepted, the end is as it was
  refused : (x : Answer) → eqb (number_of x) 0 ≡ false → write_of a.end r v ≡ record { answer = x; end = a.end }
      → Keeps (hosted (write r v sixteen) a)
  refused x n q = subst (λ (s : Side). Keeps s) (sym is) i
    where
      accepts_not : accepts_now r v a.end ≡ false
      accepts_not = rw (q, n, and-false, and-false)

      stores_not : stores r (answered0 r v a.end) ≡ false
      stores_not = rw (q, n, and-false)

      is : hosted (write r v sixteen) a ≡ a
      is = λ j. with_host a (q j).end (wrote (accepts_not j) (stores_not j) r v a.host)

  -- the transmit registers after a write that is done, where t says that it was to 3.2308
  abbrev out_by : Bool → Outbox
  out_by t = pick_outbox t (write_control a.end.outbox v) (write_bytes a.end.outbox (r - 2309) v)

  abbrev end_by : Bool → End
  end_by t = end_as a.end a.end.sender.health (out_by t) a.end.inbox

  -- the host after it, where k says that bit 15 is set
  abbrev host_by : Bool → Bool → Host
  host_by t k = wrote (t && k) (not t) r v a.host

  -- the pending bit after a write to 3.2308
  abbrev pend : Bool
  pend = cond a.end.outbox.pending true (bit15 v)

  pend_is : (p k : Bool) → a.end.outbox.pending ≡ p → bit15 v ≡ k → pend ≡ cond p true k
  pend_is p k f g = rw (f, g)

  abbrev old : Sending (length a.host.accepted) a.log.load_count a.log.ack_count (out_of a.end)
  old = i.ab.holding.sending

  sending_same : pend ≡ a.end.outbox.pending
      → Sending (length a.host.accepted) a.log.load_count a.log.ack_count (out_of (end_by true))
  sending_same z = record {
    accepted = old.accepted ∙ ap (λ (x : Bool). a.log.load_count + num x) (sym z);
    loaded = old.loaded;
    toggle = old.toggle;
    register = old.register;
  }

  module _ (fine : (t : Bool) → eqb r 2308 ≡ t → bad (end_by t) ≡ false)
      (shaped : (t : Bool) → eqb r 2308 ≡ t → Shaped (end_by t)) where
    bytes_kept : (k : Bool) → eqb r 2308 ≡ false → r - 2309 < 4 → a.end.outbox.pending ≡ false
        → Keeps (with_host a (end_by false) (host_by false k))
    bytes_kept k q place p =
        hosted_as i a.end.sender.health (out_by false) a.end.inbox (host_by false k) a.log.seen_count
        (fine false q)
        (shaped false q) (stored_set i.fit_a.stored (r - 2309) v place) (record {
          sending = i.ab.holding.sending;
          valid = i.ab.holding.valid;
          pending = λ z. absurd (false≢true (sym p ∙ z));
          sent = i.ab.holding.sent;
        }) i.ba.filling i.ab.filling i.ab.onward.frames

    -- 3.2308, nothing new is pending
    kept : eqb r 2308 ≡ true → Holding (end_by true) a.host.accepted a.log.load_count a.log.ack_count
        → Keeps (with_host a (end_by true) (host_by true false))
    kept q h =
        hosted_as i a.end.sender.health (out_by true) a.end.inbox (host_by true false) a.log.seen_count
        (fine true q)
        (shaped true q) i.fit_a.stored h i.ba.filling i.ab.filling i.ab.onward.frames

    -- one pending: only PingTx changes
    ping_kept : eqb r 2308 ≡ true → a.end.outbox.pending ≡ true → Keeps (with_host a (end_by true) (host_by true false))
    ping_kept q p = kept q (record {
      sending = sending_same (cond_true true _ p ∙ sym p);
      valid = i.ab.holding.valid;
      pending =
          λ z. i.ab.holding.pending p
          ∙ ap (λ (n : ℕ). record { number = n; bytes = a.end.outbox.bytes })
          (sym (cond_true a.end.outbox.number (v / 256 % 16) p));
      sent = i.ab.holding.sent;
    })

    -- nothing pending and bit 15 not set
    unset_kept : eqb r 2308 ≡ true → a.end.outbox.pending ≡ false → bit15 v ≡ false
        → Keeps (with_host a (end_by true) (host_by true false))
    unset_kept q p k = kept q (record {
      sending = sending_same (pend_is false false p k ∙ sym p);
      valid = i.ab.holding.valid;
      pending = λ z. absurd (false≢true (sym (pend_is false false p k) ∙ z));
      sent = i.ab.holding.sent;
    })

    -- nothing pending and bit 15 set: a message is accepted
    accept_kept : eqb r 2308 ≡ true → a.end.outbox.pending ≡ false → bit15 v ≡ true
        → Keeps (with_host a (end_by true) (host_by true true))
    accept_kept q p k =
        hosted_as i a.end.sender.health (out_by true) a.end.inbox (host_by true true) a.log.seen_count
        (fine true q) (shaped true q) i.fit_a.stored hold i.ba.filling
        (grown_filling a.host.accepted m (omega (arith, i.ab.order, old.accepted)) i.ab.filling)
        (λ j. grown_carries a.host.accepted m (i.ab.onward.frames j))
      where
        m : Message
        m = message_written v a.host

        -- what the host wrote stands in the registers
        written_is : m ≡ message_out (end_by true)
        written_is = λ j. record {
          number = sym (cond_false a.end.outbox.number (v / 256 % 16) p) j;
          bytes = i.fit_a.stored.are j;
        }

        all : length a.host.accepted ≡ a.log.load_count
        all = old.accepted ∙ ap (λ (x : Bool). a.log.load_count + num x) p ∙ add-zero a.log.load_count

        hold : Holding (end_by true) (a.host.accepted ++ (m ∷ [])) a.log.load_count a.log.ack_count
        hold = record {
          sending = record {
            accepted =
                length_more a.host.accepted m
                ∙ ap suc all
                ∙ sym (add-one a.log.load_count)
                ∙ ap (λ (x : Bool). a.log.load_count + num x) (sym (pend_is false true p k));
            loaded = old.loaded;
            toggle = old.toggle;
            register = old.register;
          };
          valid = i.ab.holding.valid;
          pending =
              λ z. ap (λ (n : ℕ). get_or (a.host.accepted ++ (m ∷ [])) n no_message) (sym all)
              ∙ get_or-append_seam a.host.accepted m [] no_message
              ∙ written_is;
          sent =
              λ z. get_or-append a.host.accepted (m ∷ []) no_message a.log.ack_count (sent_below old z)
              ∙ i.ab.holding.sent z;
        }

    by_tests : (t k p : Bool) → eqb r 2308 ≡ t → bit15 v ≡ k → a.end.outbox.pending ≡ p
        → (p && (not t || k)) ≡ false → (t ≡ false → r - 2309 < 4) → Keeps (with_host a (end_by t) (host_by t k))
    by_tests true true true qt qk qp n place = absurd (true≢false n)
    by_tests true true false qt qk qp n place = accept_kept qt qp qk
    by_tests true false true qt qk qp n place = ping_kept qt qp
    by_tests true false false qt qk qp n place = unset_kept qt qp qk
    by_tests false k true qt qk qp n place = absurd (true≢false n)
    by_tests false k false qt qk qp n place = bytes_kept k qt (place refl) qp

  done : outside r ≡ false → read_only r ≡ false → blocked a.end r v ≡ false
      → write_of a.end r v ≡ record { answer = Done; end = written a.end r v }
      → Keeps (hosted (write r v sixteen) a)
  done inside writable n q =
      subst (λ (x : Next). Keeps (of x)) (sym q)
      (subst (λ (h : Host). Keeps (with_host a (end_by (eqb r 2308)) h)) (sym host_is)
      (by_tests fine shaped (eqb r 2308) (bit15 v) a.end.outbox.pending refl refl refl n
      (λ t. message_place r inside writable (eqb-false r 2308 t))))
    where
      of : Next → Side
      of x =
          with_host a x.end
          (wrote (eqb r 2308 && (bit15 v && eqb (number_of x.answer) 0))
          (message_side r && eqb (number_of x.answer) 0) r v a.host)

      host_is : wrote (eqb r 2308 && (bit15 v && true)) (message_side r && true) r v a.host
          ≡ host_by (eqb r 2308) (bit15 v)
      host_is =
          λ j. wrote (eqb r 2308 && and-true (bit15 v) j) ((and-true (message_side r) ∙ side_is r inside writable) j) r v
          a.host

      fine : (t : Bool) → eqb r 2308 ≡ t → bad (end_by t) ≡ false
      fine t f =
          subst (λ (t : Bool). bad (end_by t) ≡ false) f
          (subst (λ (x : Next). bad x.end ≡ false) q (after_good (Call.write r v sixteen) a.end i.fit_a.good))

      shaped : (t : Bool) → eqb r 2308 ≡ t → Shaped (end_by t)
      shaped t f =
          subst (λ (t : Bool). Shaped (end_by t)) f
          (subst (λ (x : Next). Shaped x.end) q (after_shaped (Call.write r v sixteen) a.end i.fit_a.shaped))

  pub write_kept : Inv (hosted (write r v sixteen) a) b ca cb D E pa pb
  write_kept = go (outside r) (read_only r) (read_only_bits r v) (blocked a.end r v) refl refl refl refl
    where
      good : bad a.end ≡ false
      good = i.fit_a.good

      go : (x y w z : Bool) → outside r ≡ x → read_only r ≡ y → read_only_bits r v ≡ w → blocked a.end r v ≡ z
          → Keeps (hosted (write r v sixteen) a)
      go true y w z f g m h = refused NoRegister refl (write_outside a.end r v good f)
      go false true w z f g m h = refused ReadOnly refl (write_only a.end r v good f g)
      go false false true z f g m h = refused ReadOnlyBits refl (write_bits a.end r v good f g m)
      go false false false true f g m h = refused Blocked refl (write_blocked a.end r v good f g m h)
      go false false false false f g m h = done f g h (write_done a.end r v good f g m h)

pub health_kept : {a b : Side} {ca cb : List Cell} {D E pa pb : ℕ} → Inv a b ca cb D E pa pb → (h : ℕ)
    → Inv (hosted (health h) a) b ca cb D E pa pb
unfolding health_of
health_kept {a} {b} {ca} {cb} {D} {E} {pa} {pb} i h = go (ltb 3 h) refl
  where
    of : End → Side
    of x = with_host a x a.host

    go : (t : Bool) → ltb 3 h ≡ t → Inv (hosted (health h) a) b ca cb D E pa pb
    go true f =
        let q : (health_of a.end h).end ≡ a.end = rw (i.fit_a.good, f) in
        subst (λ (x : End). Inv (of x) b ca cb D E pa pb) (sym q) i
    go false f =
        let q : (health_of a.end h).end ≡ with_health a.end h = rw (i.fit_a.good, f) in
        subst (λ (x : End). Inv (of x) b ca cb D E pa pb) (sym q)
        (hosted_as i h a.end.outbox a.end.inbox a.host a.log.seen_count
        (subst (λ (x : End). bad x ≡ false) q (after_good (Call.health h) a.end i.fit_a.good))
        (subst (λ (x : End). Shaped x) q (after_shaped (Call.health h) a.end i.fit_a.shaped))
        i.fit_a.stored i.ab.holding i.ba.filling i.ab.filling i.ab.onward.frames)
