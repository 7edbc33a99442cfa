-- A side takes a symbol of the line: the invariant is kept, and one cell more has arrived.
--   taking_as s b    the side b after it has taken the symbol s
--   taking_as_lem    it is what the side becomes
--   taking_by, by_as  the same by what the tests gave: a frame was accepted, a message entered
--   taking_entered   a frame that carries message k leaves it entered
--   taking_kept      the invariant
-- Assumes nothing.
use Prim.Native.Nat.{ℕ, suc, ◌+◌, ◌*◌, ◌≤◌, ◌<◌}
use mathlib.Core.Bool.{Bool, true, false, cond, false≢true}
use mathlib.Core.List.{List, [], ◌∷◌}
use mathlib.Core.Path.{◌≡◌, refl, sym, ap, subst}
use native.Mathlib.Nat.{le_refl, le_trans, le_of_eq, le-add_right, add-zero}
use native.Mathlib.Omega.{arith}
use lib.ListN.{length, length-append}
use Rattle.frame.specs.Frame.{build}
use Rattle.end.specs.Good.{bad}
use Rattle.receiver.specs.Counting.{tallied}
use Rattle.receiver.specs.Presence.{left_after}
use Rattle.end.specs.Taking.{settled, taken}
use Rattle.receiver.specs.Receiving.{placed, said_by, accepts, reason_by, enters, entered, pick_heard, collected}
use Rattle.end.specs.Shape.{Shaped}
use Rattle.endlaws.proofs.Done.{take_good}
use Rattle.protocol.specs.Steps.{num}
use Rattle.protocol.proofs.Keeps.{num_le, enters_must}
use Rattle.link.specs.Link.{Side, message_in, enters_now, entering, taking}
use Rattle.link.proofs.Line.{Frame, Cell, cell_at, frame_at, rank}
use Rattle.link.proofs.Line.Collecting.{Joins}
use Rattle.link.proofs.Invariant.Views.{in_of}
use Rattle.link.proofs.Invariant.OneWay.{Carries, Acknowledges, message_at, Filling, Way, onward_older}
use Rattle.link.proofs.Invariant.OneWay.{back_older}
use Rattle.link.proofs.Invariant.{Inv, rank_current, acknowledged_entered, ha_entered, acked_entered}
use Rattle.link.proofs.Kept.Entering.{settled_filling, heard_filling}

abbrev pub taking_as : ℕ → Side → Side
taking_as s b = record {
  end = taken s b.end;
  sent = b.sent;
  host = b.host;
  log = entering (enters_now s b.end) (message_in (taken s b.end)) b.log;
}

pub taking_as_lem : (s : ℕ) (b : Side) → bad b.end ≡ false → s ≤ 1023 → taking (s ∷ []) b ≡ taking_as s b
unfolding taking
taking_as_lem s b fine h = rw (take_good b.end s fine h)

-- the side after it, where t says that a frame was accepted and n that its message entered
abbrev pub taking_by : Bool → Bool → ℕ → Side → Side
taking_by t n s b = record {
  end = record {
    sender = b.end.sender;
    outbox = b.end.outbox;
    collector = collected s b.end.collector;
    heard = pick_heard t (said_by (placed s b.end.collector)) b.end.heard;
    inbox = entered n (placed s b.end.collector) (settled b.end);
    counts = tallied (reason_by s b.end.collector) b.end.counts;
    presence = left_after (accepts s b.end.collector) b.end.presence;
  };
  sent = b.sent;
  host = b.host;
  log = entering n (message_at (entered n (placed s b.end.collector) (settled b.end))) b.log;
}

pub by_as : (s : ℕ) (b : Side) → taking_as s b ≡ taking_by (accepts s b.end.collector) (enters_now s b.end) s b
unfolding taken
by_as s b = refl

-- no more enter than were loaded
between : (n : Bool) {more ent ackd ld x r : ℕ} (k : Bool) → more ≡ ent + num n → 2 * more ≤ x + num k → x ≡ r
    → r ≤ ackd + ld → ent ≤ ld → ackd ≤ ent → more ≤ ld
between true k e h i u o g = let b : num k ≤ 1 = num_le k in omega arith
between false k e h i u o g = omega arith

module _ {a b : Side} {ca cb : List Cell} {D E pa pb : ℕ} (v : Inv a b ca cb (suc D) E pa pb) (s : ℕ)
    (joins : Joins s b.end.collector (cell_at ca D)) where
  abbrev l : List ℕ
  l = placed s b.end.collector

  abbrev f : Frame
  f = frame_at ca D

  settled_now : Filling b.end.heard (settled b.end) a.host.accepted b.log.entered v.ab.ha
  settled_now = settled_filling b.end (ha_entered v) v.ab.filling

  none_ab : Way a (taking_by false false s b) ca cb D E pa
  none_ab = record {
    ha = v.ab.ha;
    holding = v.ab.holding;
    filling = settled_now;
    hearing = v.ab.hearing;
    order = v.ab.order;
    onward = onward_older v.fit_a.line v.ab.onward;
    back = v.ab.back;
  }

  none_ba : Way (taking_by false false s b) a cb ca E D pb
  none_ba = record {
    ha = v.ba.ha;
    holding = v.ba.holding;
    filling = v.ba.filling;
    hearing = v.ba.hearing;
    order = v.ba.order;
    onward = v.ba.onward;
    back = back_older v.fit_a.line v.ba.back;
  }

  -- a frame is accepted: it is the one of the cell that arrives
  module _ (frame_is : l ≡ build f.ten) (n : Bool) (r : enters true (said_by l) (settled b.end) ≡ n) where
    carries : Carries a.host.accepted l f.ack_count
    carries =
        subst (λ (l : List ℕ). Carries a.host.accepted l f.ack_count) (sym frame_is) (v.ab.onward.frames D)

    acknowledging : Acknowledges b.log.ack_count l f.enter_count
    acknowledging =
        subst (λ (l : List ℕ). Acknowledges b.log.ack_count l f.enter_count) (sym frame_is)
        (v.ba.back.frames D)

    rank_is : 2 * f.ack_count + num (said_by l).valid ≡ rank f
    rank_is = ap (λ (l : List ℕ). 2 * f.ack_count + num (said_by l).valid) frame_is

    newer : 2 * v.ab.ha + num b.end.heard.valid ≤ 2 * f.ack_count + num (said_by l).valid
    newer = le_trans (onward_older v.fit_a.line v.ab.onward).heard (le_of_eq (sym rank_is))

    frame_filling : Filling (said_by l) (entered n l (settled b.end)) a.host.accepted
        (taking_by true n s b).log.entered f.ack_count
    frame_filling = heard_filling settled_now l f.ack_count carries (acked_entered v D) newer n r

    longer : length (taking_by true n s b).log.entered ≡ length b.log.entered + num n
    longer = go n
      where
        go : (n : Bool) → length (taking_by true n s b).log.entered ≡ length b.log.entered + num n
        go true = length-append b.log.entered _
        go false = sym (add-zero _)

    order : length (taking_by true n s b).log.entered ≤ a.log.load_count
    order =
        between n (entered n l (settled b.end)).acknowledge longer
        frame_filling.receiving.entered rank_is
        (rank_current v D) v.ab.order (acknowledged_entered v)

    frame_ab : Way a (taking_by true n s b) ca cb D E pa
    frame_ab = record {
      ha = f.ack_count;
      holding = v.ab.holding;
      filling = frame_filling;
      hearing = v.ab.hearing;
      order = order;
      onward = record { newest = v.ab.onward.newest; heard = le_of_eq rank_is; frames = v.ab.onward.frames };
      back = record {
        newest = le_trans v.ab.back.newest (le_trans (le-add_right _ (num n)) (le_of_eq (sym longer)));
        heard = v.ab.back.heard;
        frames = v.ab.back.frames;
      };
    }

    frame_ba : Way (taking_by true n s b) a cb ca E D f.enter_count
    frame_ba = record {
      ha = v.ba.ha;
      holding = v.ba.holding;
      filling = v.ba.filling;
      hearing = record {
        from = le_trans v.ba.hearing.from (back_older v.fit_a.line v.ba.back).heard;
        upto = acknowledging.upto;
        some = acknowledging.some;
        toggle = acknowledging.toggle;
      };
      order = v.ba.order;
      onward = v.ba.onward;
      back = record { newest = v.ba.back.newest; heard = le_refl _; frames = v.ba.back.frames };
    }

  pub taking_entered : (k : ℕ) → accepts s b.end.collector ≡ true
      → k + num b.end.inbox.full ≤ length b.log.entered
      → 2 * k + 1 ≤ rank (frame_at ca D)
      → k < length (taking_as s b).log.entered
  unfolding taken
  taking_entered k q h r =
      let frame_is : l ≡ build f.ten = joins.frame_is q in
      rw q
      (subst (λ (n : ℕ). k < n) (sym (longer frame_is (enters true (said_by l) (settled b.end)) refl))
      (enters_must f.ack_count (acked_entered v D) (said_by l).valid (said_by l).toggle (in_of (settled b.end))
      (carries frame_is _ refl).toggle (newer frame_is _ refl) settled_now.receiving k
      (left (length b.log.entered) settled_now.gone (num b.end.inbox.full)
      settled_now.receiving.taken h)
      (le_trans r (le_of_eq (sym (rank_is frame_is _ refl))))))
    where
      left : (e g f : ℕ) → e ≡ g + f → k + f ≤ e → k ≤ g
      left e g f x y = omega arith

  module _ (fine : bad (taken s b.end) ≡ false) (shaped : Shaped (taken s b.end)) where
    -- by what the two tests gave
    by_tests : (t n : Bool) → accepts s b.end.collector ≡ t → enters t (said_by l) (settled b.end) ≡ n
        → taking_as s b ≡ taking_by t n s b → Inv a (taking_by t n s b) ca cb D E pa (cond t f.enter_count pb)
    by_tests t n p q is = record {
      fit_a = v.fit_a;
      fit_b = record {
        good = subst (λ (x : Side). bad x.end ≡ false) is fine;
        shaped = subst (λ (x : Side). Shaped x.end) is shaped;
        sender = v.fit_b.sender;
        line = v.fit_b.line;
        sync = joins.sync;
        stored = v.fit_b.stored;
      };
      ab = (ways t n p q).0;
      ba = (ways t n p q).1;
    }
      where
        ways : (t n : Bool) → accepts s b.end.collector ≡ t → enters t (said_by l) (settled b.end) ≡ n
            → Way a (taking_by t n s b) ca cb D E pa × Way (taking_by t n s b) a cb ca E D (cond t f.enter_count pb)
        ways true n p q = (frame_ab (joins.frame_is p) n q, frame_ba (joins.frame_is p) n q)
        ways false true p q = absurd (false≢true q)
        ways false false p q = (none_ab, none_ba)

    pub taking_kept : Inv a (taking_as s b) ca cb D E pa
        (cond (accepts s b.end.collector) (frame_at ca D).enter_count pb)
    taking_kept =
        subst (λ (x : Side). Inv a x ca cb D E pa (cond (accepts s b.end.collector) (frame_at ca D).enter_count pb))
        (sym (by_as s b))
        (by_tests (accepts s b.end.collector) (enters_now s b.end) refl refl (by_as s b))
