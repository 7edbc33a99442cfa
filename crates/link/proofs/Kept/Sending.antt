-- A side sends: the invariant is kept, with one cell more on its line, not yet arrived.
--   no_less           a count that goes up by one, or not, does not fall
--   same_sent         the frame goes on
--   new_sent          a frame is made
--   acknowledged_is   then all that the frame last heard acknowledges is acknowledged
--   new_loads         then a message that is accepted, and next, is loaded
--   sent_kept         both cases
-- Assumes nothing.
use Prim.Native.Nat.{ℕ, suc, ◌+◌, ◌≤◌, ◌<◌}
use mathlib.Core.Bool.{Bool, true, false, cond}
use mathlib.Core.List.{List, ◌∷◌}
use mathlib.Core.Path.{◌≡◌, refl, sym, ap, ◌∙◌, subst}
use native.Mathlib.Nat.{le_refl, le_trans, lt_irrefl, le-add_right}
use native.Mathlib.Omega.{arith}
use lib.Dec.{eqb}
use lib.ListN.{length, get_or}
use borrow.Author.Tests.{eqb-true, eqb-false}
use Rattle.frame.specs.Frame.{build}
use Rattle.end.specs.declared.End.{End}
use Rattle.end.specs.Good.{bad}
use Rattle.end.specs.Sending.{frame_start, acked, step_one, loads}
use Rattle.end.specs.Calls.{Call}
use Rattle.end.specs.Shape.{Shaped}
use Rattle.endlaws.proofs.Shapes.{after_shaped}
use Rattle.endlaws.proofs.Goods.{after_good}
use Rattle.protocol.specs.Steps.{num}
use Rattle.protocol.proofs.Keeps.{loads_must}
use Rattle.link.specs.Link.{Side, sends}
use Rattle.link.proofs.Line.{Cell, frame_at, rank, SenderOk, line_push}
use Rattle.link.proofs.Line.Sent.{sent_as, sends_as, ten_of, made, cell_sent, sender_push}
use Rattle.link.proofs.Invariant.OneWay.{onward_push, back_push, back_later}
use Rattle.link.proofs.Invariant.{Inv, exchanged, pa_loaded, loaded_next, heard_current}
use Rattle.link.proofs.Kept.Making.{Makes, acked_is, made_first, made_long, made_holding, made_rank, made_data}
use Rattle.link.proofs.Kept.Making.{made_ack}

pub no_less : (b : Bool) (n : ℕ) → n ≤ cond b (n + 1) n
no_less true n = omega arith
no_less false n = omega arith

module _ {a b : Side} {ca cb : List Cell} {D E pa pb : ℕ} (v : Inv a b ca cb D E pa pb) where
  module _ (t : eqb a.end.sender.position 0 ≡ false) where
    abbrev c : Cell
    c = cell_sent false a ca

    abbrev next_position : ℕ
    next_position = (sent_as false a).end.sender.position

    same_sender : SenderOk next_position a.end.sender.symbols (sent_as false a).sent (c ∷ ca)
    same_sender =
        subst (λ (x : ℕ). SenderOk next_position a.end.sender.symbols (x ∷ a.sent) (c ∷ ca))
        (sym (ap (λ (l : List ℕ). get_or l a.end.sender.position 0) holds))
        (sender_push v.fit_a.sender c a.end.sender.symbols holds)
      where
        holds : a.end.sender.symbols ≡ build (frame_at ca 0).ten
        holds = v.fit_a.sender.current (omega (arith, eqb-false))

    same_sent : bad (sent_as false a).end ≡ false → Shaped (sent_as false a).end
        → Inv (sent_as false a) b (cell_sent false a ca ∷ ca) cb (suc D) E pa pb
    same_sent good shaped = record {
      fit_a = record {
        good = good;
        shaped = shaped;
        sender = same_sender;
        line =
            line_push v.fit_a.line c v.fit_a.sender.position (v.fit_a.line.ten 0) (λ h. refl) (le_refl _)
            (le_refl _);
        sync = v.fit_a.sync;
        stored = v.fit_a.stored;
      };
      fit_b = v.fit_b;
      ab = record {
        ha = v.ab.ha;
        holding = v.ab.holding;
        filling = v.ab.filling;
        hearing = v.ab.hearing;
        order = v.ab.order;
        onward = onward_push v.ab.onward c _ _ v.ab.onward.newest (v.ab.onward.frames 0);
        back = v.ab.back;
      };
      ba = record {
        ha = v.ba.ha;
        holding = v.ba.holding;
        filling = v.ba.filling;
        hearing = v.ba.hearing;
        order = v.ba.order;
        onward = v.ba.onward;
        back = back_push v.ba.back c v.ba.back.newest (v.ba.back.frames 0);
      };
    }

  module _ (t : eqb a.end.sender.position 0 ≡ true) where
    abbrev n : Cell
    n = cell_sent true a ca

    abbrev acks : Bool
    acks = acked a.end

    abbrev loads_it : Bool
    loads_it = loads (step_one (acked a.end) a.end)

    makes : Makes a.end a.host.accepted a.log.load_count a.log.ack_count pa
    makes = record {
      fine = v.fit_a.good;
      shaped = v.fit_a.shaped;
      holding = v.ab.holding;
      hearing = v.ab.hearing;
      upto = pa_loaded v;
    }

    at_zero : a.end.sender.position ≡ 0
    at_zero = eqb-true _ _ t

    pub acknowledged_is : cond (acked a.end) (a.log.ack_count + 1) a.log.ack_count ≡ pa
    acknowledged_is = acked_is makes

    -- with a message accepted and not acknowledged, it is loaded by now
    pub new_loads : (k : ℕ) → k ≤ a.log.ack_count → k < length a.host.accepted → k < (sent_as true a).log.load_count
    new_loads k h m = count_with loads_it (loads_must k (made_first makes) (le_trans h v.ab.hearing.from) m)
      where
        count_with : (l : Bool) → k < a.log.load_count + num l → k < cond l (a.log.load_count + 1) a.log.load_count
        count_with true g = g
        count_with false g = omega arith

    new_rank : rank (made a) ≡ (sent_as true a).log.ack_count + (sent_as true a).log.load_count
    new_rank = made_rank makes (length a.log.entered)

    rank_grows : rank (frame_at ca 0) ≤ rank (made a)
    rank_grows =
        sums v.ab.onward.newest new_rank (no_less acks a.log.ack_count) (no_less loads_it a.log.load_count)
      where
        sums : {x y p q r s : ℕ} → x ≡ p + q → y ≡ r + s → p ≤ r → q ≤ s → x ≤ y
        sums e f g h = omega arith

    abbrev new_end : End
    new_end = (sent_as true a).end

    new_sender : SenderOk new_end.sender.position new_end.sender.symbols (sent_as true a).sent (n ∷ ca)
    unfolding frame_start
    new_sender =
        subst (λ (p : ℕ). SenderOk new_end.sender.position (build (ten_of a.end))
        (get_or (build (ten_of a.end)) p 0 ∷ a.sent) (n ∷ ca)) (sym at_zero)
        (sender_push v.fit_a.sender n (build (ten_of a.end)) refl)

    new_sent : bad (sent_as true a).end ≡ false → Shaped (sent_as true a).end
        → Inv (sent_as true a) b (cell_sent true a ca ∷ ca) cb (suc D) E pa pb
    unfolding frame_start
    new_sent good shaped = record {
      fit_a = record {
        good = good;
        shaped = shaped;
        sender = new_sender;
        line =
            line_push v.fit_a.line n (sym at_zero ∙ v.fit_a.sender.position)
            (made_long makes) (λ h. absurd (lt_irrefl 0 h)) rank_grows v.ba.back.newest;
        sync = v.fit_a.sync;
        stored = v.fit_a.stored;
      };
      fit_b = v.fit_b;
      ab = record {
        ha = v.ab.ha;
        holding = made_holding makes;
        filling = v.ab.filling;
        hearing = rw acknowledged_is (record {
          from = le_refl _;
          upto = le-add_right _ _;
          some = v.ab.hearing.some;
          toggle = v.ab.hearing.toggle;
        });
        order = le_trans v.ab.order (no_less loads_it a.log.load_count);
        onward =
            onward_push v.ab.onward n _ _ new_rank
            (made_data makes (length a.log.entered));
        back = back_later v.ab.back _ (no_less acks a.log.ack_count);
      };
      ba = record {
        ha = v.ba.ha;
        holding = v.ba.holding;
        filling = v.ba.filling;
        hearing = v.ba.hearing;
        order = v.ba.order;
        onward = v.ba.onward;
        back =
            back_push v.ba.back n (le_refl _)
            (made_ack makes b.log.ack_count b.log.load_count v.ba.filling.receiving
            (heard_current (exchanged v)) v.ba.order (loaded_next (exchanged v)) (made a).ack_count);
      };
    }

  pub sent_kept : (t : Bool) → eqb a.end.sender.position 0 ≡ t
      → Inv (sends a) b (cell_sent t a ca ∷ ca) cb (suc D) E pa pb
  sent_kept t e = subst (λ (s : Side). Inv s b (cell_sent t a ca ∷ ca) cb (suc D) E pa pb) (sym is) (go t e good shaped)
    where
      is : sends a ≡ sent_as t a
      is = sends_as a t v.fit_a.good e

      good : bad (sent_as t a).end ≡ false
      good = subst (λ (s : Side). bad s.end ≡ false) is (after_good Call.send a.end v.fit_a.good)

      shaped : Shaped (sent_as t a).end
      shaped = subst (λ (s : Side). Shaped s.end) is (after_shaped Call.send a.end v.fit_a.shaped)

      go : (t : Bool) → eqb a.end.sender.position 0 ≡ t → bad (sent_as t a).end ≡ false → Shaped (sent_as t a).end
          → Inv (sent_as t a) b (cell_sent t a ca ∷ ca) cb (suc D) E pa pb
      go true e = new_sent e
      go false e = same_sent e
