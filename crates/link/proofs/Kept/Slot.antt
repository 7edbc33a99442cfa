-- A slot: both send, then both take what arrives. The invariant is kept, with one cell more on each line.
--   frame_arrives  what arrives makes a frame accepted
--   hears          how many had entered when the frame was made that is heard last, after what arrives
--   harm_joins     what arrives of a cell is a symbol, and joins the collection
--   arrive_kept, arrive_case   what arrives at one side, marked or not, or nothing
--   taking_host    taking leaves the host
--   cell_of         the cell that a side sends in a slot
--   both_sent, slot_kept   after both have sent; after the slot
-- Assumes nothing.
use Prim.Native.Nat.{ℕ, suc, ◌≤◌, ◌<◌}
use mathlib.Core.Bool.{Bool, true, false, cond}
use mathlib.Core.List.{List, [], ◌∷◌}
use mathlib.Core.Path.{◌≡◌, refl, sym, ap, ◌∙◌, subst}
use native.Mathlib.Omega.{arith}
use lib.Dec.{eqb, ltb}
use lib.ListN.{length, get_or-eq_default}
use borrow.Author.Tests.{ltb-true, ltb-false, le-leb}
use Rattle.frame.proofs.FrameLaws.{build_below}
use Rattle.receiver.specs.declared.Collector.{Collector}
use Rattle.end.specs.Good.{bad}
use Rattle.receiver.specs.Receiving.{placed, said_by, accepts, enters}
use Rattle.end.specs.Taking.{settled}
use Rattle.end.specs.Calls.{Call}
use Rattle.end.specs.Shape.{Shaped}
use Rattle.endlaws.proofs.Shapes.{after_shaped}
use Rattle.endlaws.proofs.Goods.{good, after_good}
use Rattle.link.specs.Link.{Side, sends, Harm, sound, mark, harmed, arriving, enters_now, taking}
use Rattle.link.proofs.Line.{Cell, silent_cell, cell_at, frame_at, symbol_in}
use Rattle.link.proofs.Line.Sent.{cell_sent}
use Rattle.link.proofs.Line.Arriving.{arriving_some, arriving_none}
use Rattle.link.proofs.Line.Collecting.{Joins, line_next, sound_joins, marked_joins}
use Rattle.link.proofs.Invariant.OneWay.{onward_older, back_older}
use Rattle.link.proofs.Invariant.{Fit, Inv, exchanged}
use Rattle.link.proofs.Kept.Sending.{sent_kept}
use Rattle.link.proofs.Kept.Taking.{taking_as, taking_as_lem, taking_by, by_as, taking_kept}

abbrev pub frame_arrives : List ℕ → Collector → Bool
frame_arrives [] c = false
frame_arrives (y ∷ l) c = accepts y c

abbrev pub hears : ℕ → List ℕ → Side → List Cell → ℕ → ℕ
hears D l b ca pb = cond (frame_arrives l b.end.collector) (frame_at ca D).enter_count pb

module _ {a b : Side} {ca cb : List Cell} {D E pa pb : ℕ} (v : Inv a b ca cb (suc D) E pa pb) where
  pub harm_joins : D < length ca → (h : Harm) → (harmed h (symbol_in (cell_at ca D)) ≤ 1023)
      × Joins (harmed h (symbol_in (cell_at ca D))) b.end.collector (cell_at ca D)
  harm_joins h sound = (
    omega (arith, build_below (frame_at ca D).ten (cell_at ca D).place),
    sound_joins b.end.collector (cell_at ca (suc D)) (cell_at ca D) v.fit_b.shaped.collecting
        (good b.end v.fit_b.good).count v.fit_b.sync (line_next v.fit_a.line D h),
  )
  harm_joins h (mark m p q) = (omega arith, marked_joins m b.end.collector (cell_at ca D) (le-leb 512 m p))

  -- where nothing arrives, nothing changes
  none_kept : length ca ≤ D → Inv a b ca cb D E pa pb
  none_kept h = record {
    fit_a = v.fit_a;
    fit_b = subst (λ (x : Cell). Fit b cb x) same v.fit_b;
    ab = record {
      ha = v.ab.ha;
      holding = v.ab.holding;
      filling = v.ab.filling;
      hearing = v.ab.hearing;
      order = v.ab.order;
      onward = onward_older v.fit_a.line v.ab.onward;
      back = v.ab.back;
    };
    ba = record {
      ha = v.ba.ha;
      holding = v.ba.holding;
      filling = v.ba.filling;
      hearing = v.ba.hearing;
      order = v.ba.order;
      onward = v.ba.onward;
      back = back_older v.fit_a.line v.ba.back;
    };
  }
    where
      same : cell_at ca (suc D) ≡ cell_at ca D
      same = get_or-eq_default ca silent_cell (omega arith) ∙ sym (get_or-eq_default ca silent_cell h)

  -- the side b after l has arrived
  abbrev HasArrived : List ℕ → Type 0
  HasArrived l = Inv a (taking l b) ca cb D E pa (hears D l b ca pb)

  some_kept : (s : ℕ) → s ≤ 1023 → Joins s b.end.collector (cell_at ca D) → HasArrived (s ∷ [])
  unfolding taking
  some_kept s h t =
      let e : taking (s ∷ []) b ≡ taking_as s b = taking_as_lem s b v.fit_b.good h in
      subst (λ (x : Side). Inv a x ca cb D E pa (hears D (s ∷ []) b ca pb)) (sym e)
      (taking_kept v s t
      (subst (λ (x : Side). bad x.end ≡ false) e (after_good (Call.take s) b.end v.fit_b.good))
      (subst (λ (x : Side). Shaped x.end) e (after_shaped (Call.take s) b.end v.fit_b.shaped)))

  arrive_kept : (h : Harm) → HasArrived (arriving D h a.sent)
  unfolding taking
  arrive_kept h = go (ltb D (length ca)) refl
    where
      go : (t : Bool) → ltb D (length ca) ≡ t → HasArrived (arriving D h a.sent)
      go true t =
          let p = ltb-true D (length ca) t in
          let k = harm_joins p h in
          subst (λ (l : List ℕ). HasArrived l) (sym (arriving_some v.fit_a.sender h D p))
          (some_kept _ k.0 k.1)
      go false t =
          let p = ltb-false D (length ca) t in
          subst (λ (l : List ℕ). HasArrived l) (sym (arriving_none v.fit_a.sender h D p)) (none_kept p)

  -- what is true of b, and of b after any symbol, is true of it after what arrives
  pub arrive_case : (P : Side → Type 0) → P b
      → ((s : ℕ) (t n : Bool) → enters t (said_by (placed s b.end.collector)) (settled b.end) ≡ n
      → P (taking_by t n s b))
      → (h : Harm) → P (taking (arriving D h a.sent) b)
  unfolding taking
  arrive_case P p f h = go (ltb D (length ca)) refl
    where
      y : ℕ
      y = harmed h (symbol_in (cell_at ca D))

      go : (t : Bool) → ltb D (length ca) ≡ t → P (taking (arriving D h a.sent) b)
      go true t =
          let q = ltb-true D (length ca) t in
          subst P
          (sym (ap (λ (l : List ℕ). taking l b) (arriving_some v.fit_a.sender h D q)
          ∙ taking_as_lem y b v.fit_b.good (harm_joins q h).0
          ∙ by_as y b))
          (f y (accepts y b.end.collector) (enters_now y b.end) refl)
      go false t =
          subst (λ (l : List ℕ). P (taking l b))
          (sym (arriving_none v.fit_a.sender h D (ltb-false D (length ca) t))) p

taking_sent : (l : List ℕ) (s : Side) → (taking l s).sent ≡ s.sent
unfolding taking
taking_sent [] s = refl
taking_sent (y ∷ l) s = refl

pub taking_host : (l : List ℕ) (s : Side) → (taking l s).host ≡ s.host
unfolding taking
taking_host [] s = refl
taking_host (y ∷ l) s = refl

abbrev pub cell_of : Side → List Cell → Cell
cell_of s cs = cell_sent (eqb s.end.sender.position 0) s cs

module _ {a b : Side} {ca cb : List Cell} {D E pa pb : ℕ} (v : Inv a b ca cb D E pa pb) where
  abbrev ca' : List Cell
  ca' = cell_of a ca ∷ ca

  abbrev cb' : List Cell
  cb' = cell_of b cb ∷ cb

  pub both_sent : Inv (sends a) (sends b) (cell_of a ca ∷ ca) (cell_of b cb ∷ cb) (suc D) (suc E) pa pb
  both_sent =
      exchanged (sent_kept (exchanged (sent_kept v (eqb a.end.sender.position 0) refl))
      (eqb b.end.sender.position 0) refl)

  abbrev to_a : Harm → List ℕ
  to_a h = arriving E h (sends b).sent

  abbrev to_b : Harm → List ℕ
  to_b h = arriving D h (sends a).sent

  pub slot_kept : (ha hb : Harm)
      → Inv (taking (to_a ha) (sends a)) (taking (to_b hb) (sends b)) ca' cb' D E (hears E (to_a ha) (sends a) cb' pa)
      (hears D (to_b hb) (sends b) ca' pb)
  slot_kept ha hb =
      subst (λ (l : List ℕ). Inv (taking (arriving E ha l) (sends a)) (taking (to_b hb) (sends b)) ca' cb' D E
      (hears E (arriving E ha l) (sends a) cb' pa) (hears D (to_b hb) (sends b) ca' pb))
      (taking_sent (to_b hb) (sends b))
      (exchanged (arrive_kept (exchanged (arrive_kept both_sent hb)) ha))
