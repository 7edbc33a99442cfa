-- Nothing that arrives is marked: a collection abreast of its line stays so, and a frame's last symbol makes it
-- accepted.
--   NoneMarked        what arrives is not marked; sound_arrives: it is not where the line is sound
--   arrival_abreast   the collection is abreast after one symbol more
--   arrival_entered   the frame's message has entered
--   arrival_heard     the frame is heard
-- Assumes nothing.
use Prim.Native.Nat.{ℕ, suc, ◌+◌, ◌*◌, ◌%◌, ◌≤◌, ◌<◌}
use mathlib.Core.Bool.{Bool, true, false, not, ◌&&◌, false≢true}
use mathlib.Core.List.{List, [], ◌∷◌}
use mathlib.Core.Path.{◌≡◌, refl, sym, ap, ◌∙◌, subst}
use native.Mathlib.Nat.{mod-eq_of_lt}
use native.Mathlib.Omega.{arith}
use lib.Dec.{ltb}
use lib.ListN.{length}
use borrow.Author.Tests.{le-leb, lt-leb, ltb-true, ltb-false}
use Rattle.frame.specs.Frame.{none_marked}
use Rattle.frame.proofs.FrameLaws.{build_below}
use Rattle.receiver.specs.Receiving.{accepts, count_with}
use Rattle.end.specs.Taking.{taken}
use Rattle.endlaws.proofs.Goods.{good}
use Rattle.protocol.specs.Steps.{num}
use Rattle.link.specs.Link.{Side, Harm, sound, mark, harmed, arriving, taking}
use Rattle.link.proofs.Line.{Cell, cell_at, frame_at, rank, symbol_in}
use Rattle.link.proofs.Line.Arriving.{arriving_some, arriving_none}
use Rattle.link.proofs.Line.Collecting.{NextCell, line_next, sound_counted, sound_accepts}
use Rattle.link.proofs.Invariant.{Inv}
use Rattle.link.proofs.Kept.Taking.{taking_as, taking_as_lem, taking_entered}
use Rattle.link.proofs.Kept.Slot.{harm_joins, frame_arrives}
use Rattle.link.proofs.PartTwo.Progress.{Abreast}

abbrev pub NoneMarked : ℕ → Harm → Side → Type 0
NoneMarked D h a = none_marked (arriving D h a.sent) ≡ true

-- a symbol that arrives and is not marked is sound
is_sound : (h : Harm) (y : ℕ) → none_marked (harmed h y ∷ []) ≡ true → h ≡ sound
unfolding none_marked
is_sound sound y q = refl
is_sound (mark v l m) y q = absurd (false≢true (ap (λ (b : Bool). not b && true) (sym (le-leb 512 v l)) ∙ q))

module _ {a b : Side} {ca cb : List Cell} {D E pa pb : ℕ} (v : Inv a b ca cb (suc D) E pa pb) where
  pub sound_arrives : NoneMarked D sound a
  unfolding none_marked
  sound_arrives = go (ltb D (length ca)) refl
    where
      go : (t : Bool) → ltb D (length ca) ≡ t → NoneMarked D sound a
      go true t =
          subst (λ (l : List ℕ). none_marked l ≡ true)
          (sym (arriving_some v.fit_a.sender sound D (ltb-true D (length ca) t)))
          (ap (λ (b : Bool). not b && true) (lt-leb 512 _ (build_below (frame_at ca D).ten (cell_at ca D).place)))
      go false t =
          subst (λ (l : List ℕ). none_marked l ≡ true)
          (sym (arriving_none v.fit_a.sender sound D (ltb-false D (length ca) t))) refl

taking_count : (s : ℕ) (x : Side) → (taking_as s x).end.collector.count ≡ count_with s x.end.collector
unfolding taken
taking_count s x = refl

module _ {a b : Side} {ca cb : List Cell} {D E pa pb : ℕ} (v : Inv a b ca cb (suc D) E pa pb) (n₀ : ℕ)
    (abreast : Abreast b.end.collector ca (suc D) (suc n₀) (length ca)) (h : Harm)
    (no_marks : NoneMarked D h a) where
  abbrev arrives : List ℕ
  arrives = arriving D h a.sent

  abbrev y : Cell
  y = cell_at ca D

  module _ (there : D < length ca) where
    comes : arrives ≡ symbol_in y ∷ []
    comes = some ∙ ap (λ (x : Harm). harmed x (symbol_in y) ∷ []) (is_sound h (symbol_in y) unmarked)
      where
        some : arrives ≡ harmed h (symbol_in y) ∷ []
        some = arriving_some v.fit_a.sender h D there

        unmarked : none_marked (harmed h (symbol_in y) ∷ []) ≡ true
        unmarked = subst (λ (l : List ℕ). none_marked l ≡ true) some no_marks

    arrives_as : taking arrives b ≡ taking_as (symbol_in y) b
    arrives_as =
        ap (λ (l : List ℕ). taking l b) comes
        ∙ taking_as_lem (symbol_in y) b v.fit_b.good (harm_joins v there sound).0

    next : NextCell (cell_at ca (suc D)) y
    next = line_next v.fit_a.line D there

    -- the collection has all of the frame before this symbol
    all : y.place + n₀ < length ca → 0 < y.place → b.end.collector.count ≡ y.place
    all since later =
        abreast (older later (v.fit_a.line.places D there) next.within) (omega (arith, next.place later))
        ∙ ap (λ (n : ℕ). n % 12) (next.place later)
        ∙ mod-eq_of_lt next.within
      where
        older : {q : ℕ} → 0 < q → (q + (D + 1)) % 12 ≡ length ca % 12 → q < 12 → suc D < length ca
        older p q r = omega arith

    counts : y.place + n₀ < length ca → count_with (symbol_in y) b.end.collector ≡ (y.place + 1) % 12
    counts since =
        sound_counted b.end.collector (cell_at ca (suc D)) y v.fit_b.shaped.collecting
        (good b.end v.fit_b.good).count v.fit_b.sync next (all since)

    -- the last symbol of a frame whose place 0 came since n₀
    module _ (last : (cell_at ca D).place ≡ 11) (since : 11 + n₀ < length ca) where
      accepted : accepts (symbol_in y) b.end.collector ≡ true
      accepted =
          sound_accepts b.end.collector (cell_at ca (suc D)) y v.fit_b.shaped.collecting
          (good b.end v.fit_b.good).count v.fit_b.sync next last (all (omega arith) (omega arith) ∙ last)

      pub arrival_entered : (k : ℕ) → k + num b.end.inbox.full ≤ length b.log.entered
          → 2 * k + 1 ≤ rank (frame_at ca D)
          → k < length (taking arrives b).log.entered
      arrival_entered k m r =
          subst (λ (x : Side). k < length x.log.entered) (sym arrives_as)
          (taking_entered v (symbol_in y) (harm_joins v there sound).1 k accepted m r)

      pub arrival_heard : frame_arrives arrives b.end.collector ≡ true
      arrival_heard = ap (λ (l : List ℕ). frame_arrives l b.end.collector) comes ∙ accepted

  pub arrival_abreast : Abreast (taking arrives b).end.collector ca D n₀ (length ca)
  arrival_abreast there since =
      ap (λ (x : Side). x.end.collector.count) (arrives_as there)
      ∙ taking_count (symbol_in y) b
      ∙ counts there since
