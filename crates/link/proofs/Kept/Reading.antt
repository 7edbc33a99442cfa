-- A host reads, by the rule or not: the invariant is kept.
--   in_by, end_by  the receive register and the end after a read, by the tests of the register number
--   read_kept     the invariant after a read
-- Assumes nothing.
use Prim.Native.Nat.{ℕ, ◌+◌}
use mathlib.Core.Bool.{Bool, true, false, cond, false≢true}
use mathlib.Core.List.{List}
use mathlib.Core.Path.{◌≡◌, refl, sym, subst}
use lib.Dec.{eqb}
use lib.ListN.{length}
use Rattle.answer.specs.declared.Answer.TheVariants.{NoRegister}
use Rattle.end.specs.declared.End.{End}
use Rattle.receiver.specs.declared.Inbox.{Inbox}
use Rattle.end.specs.declared.Outbox.{Outbox}
use Rattle.end.specs.declared.Read.{Read}
use Rattle.end.specs.Good.{bad}
use Rattle.end.specs.Registers.{outside, value_of, read_of}
use Rattle.end.specs.Calls.{Call}
use Rattle.end.specs.Shape.{Shaped}
use Rattle.endlaws.proofs.Shapes.{after_shaped}
use Rattle.endlaws.proofs.Goods.{after_good}
use Rattle.end.proofs.RegisterLaws.{read_done}
use Rattle.protocol.proofs.Keeps.{Receiving, emptied_receiving}
use Rattle.link.specs.Link.{Message, Host, Side, read, receive_side, advance, did_read, read_log, hosted}
use Rattle.link.proofs.Line.{Cell}
use Rattle.link.proofs.Invariant.OneWay.{Filling}
use Rattle.link.proofs.Invariant.{Inv}
use Rattle.link.proofs.Kept.Hosting.{end_as, side_as, hosted_as}

-- the receive register after a read, where u says that it was of 3.2317
abbrev pub in_by : Inbox → Bool → Inbox
in_by i u = record {
  expected = i.expected;
  acknowledge = i.acknowledge;
  full = cond u false i.full;
  toggle = i.toggle;
  number = i.number;
  bytes = i.bytes;
}

-- the transmit registers, where x says that it was of 3.2308
abbrev out_by : Outbox → Bool → Outbox
out_by o x = record {
  pending = o.pending;
  toggle = o.toggle;
  received = cond x false o.received;
  confirmed = o.confirmed;
  number = o.number;
  ping = o.ping;
  bytes = o.bytes;
}

abbrev end_by : End → Bool → Bool → End
end_by e u x = end_as e e.sender.health (out_by e.outbox x) (in_by e.inbox u)

module _ {a b : Side} {ca cb : List Cell} {D E pa pb : ℕ} (i : Inv a b ca cb D E pa pb) where
  abbrev Keeps : Side → Type 0
  Keeps s = Inv s b ca cb D E pa pb

  abbrev box : Inbox
  box = a.end.inbox

  abbrev Filled : Inbox → Type 0
  Filled x = Filling a.end.heard x b.host.accepted a.log.entered i.ba.ha

  abbrev fill : Filled box
  fill = i.ba.filling

  -- one message less is in the register, or none was
  filled : (u : Bool) → Filled (in_by box u)
  filled false = fill
  filled true = go box.full refl
    where
      go : (f : Bool) → box.full ≡ f → Filled (in_by box true)
      go true q = record {
        gone = fill.gone + 1;
        receiving = emptied_receiving q fill.receiving;
        register = λ z. absurd (false≢true z);
        entered_is = fill.entered_is;
      }
      go false q = record {
        gone = fill.gone;
        receiving =
            subst (λ (f : Bool). Receiving (length a.log.entered) fill.gone i.ba.ha a.end.heard.valid
            a.end.heard.toggle
            (record { expected = box.expected; acknowledge = box.acknowledge; full = f; toggle = box.toggle })) q
            fill.receiving;
        register = λ z. absurd (false≢true z);
        entered_is = fill.entered_is;
      }

  -- a host that read something: what it wrote, and what was accepted, stays
  abbrev host_of : ℕ → Message → List Message → Host
  host_of n p tk = record {
    written = a.host.written;
    stage = n;
    so_far = p;
    accepted = a.host.accepted;
    taken = tk;
  }

  module _ (u x : Bool) (seen : ℕ) (fine : bad (end_by a.end u x) ≡ false)
      (shaped : Shaped (end_by a.end u x)) where
    by_host : (n : ℕ) (p : Message) (tk : List Message) → Keeps (side_as a (end_by a.end u x) (host_of n p tk) seen)
    by_host n p tk =
        hosted_as i a.end.sender.health (out_by a.end.outbox x) (in_by box u) (host_of n p tk) seen fine shaped
        i.fit_a.stored i.ab.holding (filled u) i.ab.filling i.ab.onward.frames

    -- s says that it was a receive_side read; w is the value
    by_tests : (r w : ℕ) (s : Bool)
        → Keeps (side_as a (end_by a.end u x) (cond s (advance r w a.host) a.host) seen)
    by_tests r w true = by_host _ _ _
    by_tests r w false = by_host _ _ _

  -- a side after a read that gave g
  abbrev of : ℕ → Read → Side
  of r g = record {
    end = g.end;
    sent = a.sent;
    host = did_read r g.value a.host;
    log = read_log r a.log;
  }

  pub read_kept : (r : ℕ) → Inv (hosted (read r) a) b ca cb D E pa pb
  unfolding read_of
  read_kept r = go (outside r) refl
    where
      seen : ℕ
      seen = (read_log r a.log).seen_count

      go : (x : Bool) → outside r ≡ x → Inv (hosted (read r) a) b ca cb D E pa pb
      go true h =
          let q : read_of a.end r ≡ record { answer = NoRegister; value = 0; end = a.end } =
          rw (i.fit_a.good, h) in
          subst (λ (g : Read). Keeps (of r g)) (sym q)
          (by_tests false false seen i.fit_a.good i.fit_a.shaped r 0 (receive_side r))
      go false h =
          let is = read_done a.end r i.fit_a.good h in
          subst (λ (g : Read). Keeps (of r g)) (sym is)
          (by_tests (eqb r 2317) (eqb r 2308) seen
          (subst (λ (g : Read). bad g.end ≡ false) is (after_good (Call.read r) a.end i.fit_a.good))
          (subst (λ (g : Read). Shaped g.end) is (after_shaped (Call.read r) a.end i.fit_a.shaped))
          r (value_of a.end r) (receive_side r))
