-- Sending keeps what every run keeps.
--   stamped, telling   the block that a side sends, with its counts: as the near side, as the far one
--   loads_all          a request is taken where all that was loaded has entered and is heard received
--   near_sends, far_sends   a side sends
--   sent_head          what it sends is the block of the end that it leaves
-- Assumes nothing.
use Prim.Native.Nat.{ℕ, suc}
use mathlib.Core.Bool.{Bool, true, false}
use mathlib.Core.List.{List, ◌∷◌, ◌++◌}
use mathlib.Core.Path.{◌≡◌, refl, sym, ap, ap₂, subst, ◌∙◌}
use native.Mathlib.Omega.{arith}
use lib.ListN.{length}
use borrow.Author.Tests.{lt-ltb, le-ltb}
use Rattle.fibre.specs.Good.{bad}
use Rattle.fibre.specs.Sending.{loads, loaded}
use Rattle.fibre.specs.Calls.{Call}
use Rattle.fibrelaws.proofs.Reached.{after_good}
use Rattle.laws.proofs.Bools.{and_both}
use Rattle.fibrelink.specs.Link.{message_out, message_of, Side, sends}
use Rattle.fibrelink.proofs.Flight.{Stamp}
use Rattle.fibrelink.proofs.Chain.{Chain, heard_entered, entered_loaded, hold, load, tell}
use Rattle.fibrelink.proofs.Steps.{sent_as, sends_as}
use Rattle.fibrelink.proofs.Way.{places, Way, same_num, flipped, control_fine}

-- the end that a side has after it has sent
sent_good : (s : Side) → bad s.end ≡ false → bad (sent_as (loads s.end) s).end ≡ false
sent_good s g =
    subst (λ (x : Side). bad x.end ≡ false) (sends_as s (loads s.end) g refl) (after_good Call.send s.end g)

pub sent_head : (s : Side) → bad s.end ≡ false → (sends s).sent ≡ (sends s).end.sent ∷ s.sent
sent_head s g =
    subst (λ (x : Side). x.sent ≡ x.end.sent ∷ s.sent) (sym (sends_as s (loads s.end) g refl)) refl

-- The near side sends

abbrev pub stamped : Side → Stamp
stamped s = record { block = s.end.sent; loads = s.log.load_count; entered = 0; gone = 0 }

module _ {fa fb : List Stamp} {near far : Side} (w : Way fa fb near far) where
  abbrev L : ℕ
  L = near.log.load_count

  abbrev N : ℕ
  N = length far.log.entered

  -- a request is taken where the message before it was heard received: all have entered
  pub loads_all : loads near.end ≡ true → (near.log.ack_count ≡ L) × (N ≡ L)
  loads_all e =
      let t = (and_both near.end.transmit.txreq _ e).1 in
      let s = same_num near.end.transmit.phyt near.end.sent.msgt t in
      let a = heard_entered w.chain in
      let b = entered_loaded w.chain in
      (omega (arith, s, w.phyt, w.msgt, a, b, w.chain.few), omega (arith, s, w.phyt, w.msgt, a, b, w.chain.few))

  near_sends_as : (l : Bool) → loads near.end ≡ l → bad (sent_as l near).end ≡ false
      → Way (stamped (sent_as l near) ∷ fa) fb (sent_as l near) far
  near_sends_as true e g = record {
    near_good = g;
    far_good = w.far_good;
    gone = w.gone;
    read = w.read;
    chain = moved;
    msgt = flipped near.end.sent.msgt L w.msgt;
    phyt = w.phyt;
    mert = w.mert;
    sent_phyt = w.sent_phyt;
    sent_mert = w.sent_mert;
    toggle = w.toggle;
    full = w.full;
    accepted =
        w.accepted
        ∙ (ap₂ (λ (i t : Bool). far.log.entered ++ places i t (message_of near.end.sent) (message_out near.end))
        (le-ltb N L (omega (arith, all.1))) (and_both near.end.transmit.txreq _ e).0
        ∙ sym (ap (λ (i : Bool). far.log.entered ++ places i false (message_out near.end) (message_out near.end))
        (lt-ltb N (suc L) (omega (arith, all.1)))));
    written = w.written;
  }
    where
      all : (near.log.ack_count ≡ L) × (N ≡ L)
      all = loads_all e

      x : Stamp
      x = stamped (sent_as true near)

      moved : Chain (suc L) near.log.ack_count N w.gone w.read (message_out near.end) (x ∷ fa) fb
      moved =
          load w.chain (message_out near.end) x all.0 refl
          (record {
            msgt = flipped near.end.sent.msgt L w.msgt;
            last = λ _. refl;
            fine = control_fine (loaded true near.end) g;
          })
  near_sends_as false e g = record {
    near_good = g;
    far_good = w.far_good;
    gone = w.gone;
    read = w.read;
    chain =
        hold w.chain (stamped (sent_as false near)) refl
        (record { msgt = w.msgt; last = λ _. refl; fine = control_fine near.end w.near_good });
    msgt = w.msgt;
    phyt = w.phyt;
    mert = w.mert;
    sent_phyt = w.sent_phyt;
    sent_mert = w.sent_mert;
    toggle = w.toggle;
    full = w.full;
    accepted = w.accepted;
    written = w.written;
  }

  pub near_sends : Way (stamped (sends near) ∷ fa) fb (sends near) far
  near_sends =
      subst (λ (x : Side). Way (stamped x ∷ fa) fb x far) (sym (sends_as near (loads near.end) w.near_good refl))
      (near_sends_as (loads near.end) refl (sent_good near w.near_good))

-- The far side sends

abbrev pub telling : ℕ → Side → Stamp
telling g s = record { block = s.end.sent; loads = 0; entered = length s.log.entered; gone = g }

module _ {fa fb : List Stamp} {near far : Side} (w : Way fa fb near far) where
  far_sends_as : (l : Bool) → bad (sent_as l far).end ≡ false
      → Way fa (telling w.gone (sent_as l far) ∷ fb) near (sent_as l far)
  far_sends_as l g = record {
    near_good = w.near_good;
    far_good = g;
    gone = w.gone;
    read = w.read;
    chain =
        tell w.chain (telling w.gone (sent_as l far)) refl refl
        (record {
          phyt = w.sent_phyt;
          mert = w.sent_mert;
          most = w.chain.gone_most;
          least = w.chain.gone_least;
          fine = control_fine (loaded l far.end) g;
        });
    msgt = w.msgt;
    phyt = w.phyt;
    mert = w.mert;
    sent_phyt = w.sent_phyt;
    sent_mert = w.sent_mert;
    toggle = w.toggle;
    full = w.full;
    accepted = w.accepted;
    written = w.written;
  }

  pub far_sends : Way fa (telling w.gone (sends far) ∷ fb) near (sends far)
  far_sends =
      subst (λ (x : Side). Way fa (telling w.gone x ∷ fb) near x)
      (sym (sends_as far (loads far.end) w.far_good refl))
      (far_sends_as (loads far.end) (sent_good far w.far_good))
