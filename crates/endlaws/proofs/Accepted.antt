-- Acceptance through the receiver: a frame is accepted with a symbol exactly when the last twelve symbols taken, this
-- one the last of them, are acceptable.
--   acceptable_sound, sound_acceptable   what an acceptable frame is, symbol by symbol
--   accepts_last      of the symbols taken since a collection was empty
--   calls_collector   the collection after calls is that after the symbols taken
--   reached_accepts   of every end reached from reset by any calls
-- Assumes nothing.
use Prim.Native.Nat.{ℕ, ◌+◌, ◌-◌, ◌≤◌}
use mathlib.Core.Bool.{Bool, true, false, not, cond, false≢true}
use mathlib.Core.List.{List, [], ◌∷◌, ◌++◌, append_assoc}
use mathlib.Core.Path.{◌≡◌, refl, sym, ap, ◌∙◌}
use native.Mathlib.Omega.{arith}
use lib.Dec.{eqb, leb}
use lib.ListN.{length, take, drop, length-append, length-drop, take-append-drop}
use lib.Seq.{drop_at}
use borrow.Author.Tests.{eqb-true, eq-eqb, not-true, leb-true, leb-false}
use Rattle.frame.specs.Frame.{marked, even, crc_right, none_marked, all_odd, parities_right, acceptable}
use Rattle.receiver.specs.declared.Collector.{Collector}
use Rattle.end.specs.declared.End.{End}
use Rattle.end.specs.declared.Taken.{Taken}
use Rattle.end.specs.Good.{bad, reset_of}
use Rattle.receiver.specs.Receiving.{collected, accepts}
use Rattle.end.specs.Taking.{taken, take_of}
use Rattle.end.specs.Calls.{Call, after, calls, reached}
use Rattle.endlaws.specs.Taken.{taken_by, takes, last_twelve}
use Rattle.laws.proofs.Bools.{and_both, and-true, not_yes, same_bool}
use Rattle.endlaws.proofs.Collecting.{collects, Odds, Sound, holding_frame, accepts_twelfth, accepts_only}
use Rattle.endlaws.proofs.Collecting.{Trace, sound_snoc, trace_all, trace_start}
use Rattle.endlaws.proofs.Done.{take_good, take_above}
use Rattle.endlaws.proofs.Goods.{after_good, reset_good}
use Rattle.endlaws.proofs.Left.{send_leaves, read_leaves, write_leaves, health_leaves}
use Rattle.endlaws.proofs.Shapes.{placed_length}

odds_of : (l : List ℕ) → none_marked l ≡ true → all_odd l ≡ true → Odds l
unfolding none_marked all_odd
odds_of [] m o = tt
odds_of (s ∷ l) m o =
    let a = and_both (not (marked s)) (none_marked l) m in
    let b = and_both (not (even s)) (all_odd l) o in
    (not-true (marked s) a.0, not-true (even s) b.0, odds_of l a.1 b.1)

of_odds : (l : List ℕ) → Odds l → (none_marked l ≡ true) × (all_odd l ≡ true)
unfolding none_marked all_odd
of_odds [] o = (refl, refl)
of_odds (s ∷ l) o =
    let r = of_odds l o.2 in (
      and-true (not (marked s)) (none_marked l) (not_yes (marked s) o.0) r.0,
      and-true (not (even s)) (all_odd l) (not_yes (even s) o.1) r.1,
    )

pub acceptable_sound : (l : List ℕ) → acceptable l ≡ true → (length l ≡ 12) × Sound l × (crc_right l ≡ true)
unfolding acceptable none_marked parities_right
acceptable_sound [] h = absurd (false≢true h)
acceptable_sound (s ∷ l) h =
    let a = and_both (eqb (length (s ∷ l)) 12) _ h in
    let b = and_both (none_marked (s ∷ l)) _ a.1 in
    let c = and_both (parities_right (s ∷ l)) _ b.1 in
    let m = and_both (not (marked s)) (none_marked l) b.0 in
    let p = and_both (even s) (all_odd l) c.0 in
    (eqb-true _ 12 a.0, (not-true (marked s) m.0, p.0, odds_of l m.1 p.1), c.1)

pub sound_acceptable : (l : List ℕ) → length l ≡ 12 → Sound l → crc_right l ≡ true → acceptable l ≡ true
unfolding acceptable none_marked parities_right
sound_acceptable [] h s c = let z : ◌≡◌ {A = ℕ} 0 12 = h in absurd (omega arith)
sound_acceptable (x ∷ l) h s c =
    let o = of_odds l s.2 in
    and-true (eqb (length (x ∷ l)) 12) _ (eq-eqb _ 12 h)
    (and-true (none_marked (x ∷ l)) _ (and-true (not (marked x)) (none_marked l) (not_yes (marked x) s.0) o.0)
    (and-true (parities_right (x ∷ l)) _ (and-true (even x) (all_odd l) s.1 o.1) c))

-- Over symbols alone

eleven_of : (n : ℕ) → 12 ≤ n + 1 → n - (n - 11) ≡ 11
eleven_of n h = omega arith

pub collects_append : (l m : List ℕ) (c : Collector) → collects (l ++ m) c ≡ collects m (collects l c)
unfolding collects
collects_append [] m c = refl
collects_append (s ∷ l) m c = collects_append l m (collected s c)

pub collects_length : (l : List ℕ) (c : Collector) → length c.symbols ≡ 12 → length (collects l c).symbols ≡ 12
unfolding collects
collects_length [] c h = h
collects_length (s ∷ l) c h = collects_length l (collected s c) (placed_length s c h)

pub last_at : (a b : List ℕ) → length b ≡ 12 → last_twelve (a ++ b) ≡ b
unfolding last_twelve
last_at a b h = drop_at a b (length (a ++ b) - 12) (rw (length-append a b) (omega arith))

twelve_of : (l : List ℕ) → length (last_twelve l) ≡ 12 → 12 ≤ length l
unfolding last_twelve
twelve_of l h = let k = sym (length-drop (length l - 12) l) ∙ h in omega arith

odds_init : (l : List ℕ) (s : ℕ) → Odds (l ++ (s ∷ [])) → Odds l × (marked s ≡ false) × (even s ≡ false)
odds_init [] s o = (tt, o.0, o.1)
odds_init (x ∷ l) s o = let r = odds_init l s o.2 in ((o.0, o.1, r.0), r.1, r.2)

-- eleven symbols, taken by any collection, and then the twelfth of an acceptable frame
pub accepts_frame : (w : List ℕ) (s : ℕ) (c : Collector) → length c.symbols ≡ 12 → length w ≡ 11
    → acceptable (w ++ (s ∷ [])) ≡ true → accepts s (collects w c) ≡ true
accepts_frame [] s c h k a = let z : ◌≡◌ {A = ℕ} 0 11 = k in absurd (omega arith)
accepts_frame (x ∷ l) s c h k a =
    let r = acceptable_sound (x ∷ (l ++ (s ∷ []))) a in
    let o = odds_init l s r.1.2 in
    accepts_twelfth s (collects (x ∷ l) c) (x ∷ l)
    (holding_frame x l c h (r.1.0, r.1.1, o.0) (omega arith)) k o.1 o.2
    ∙ r.2

-- the symbols since a collection was empty
module _ (ts : List ℕ) (s : ℕ) (c : Collector) (h : length c.symbols ≡ 12) (k : c.count ≡ 0) where
  trace : Trace ts (collects ts c)
  trace = trace_all ts [] c (trace_start c h k)

  accepts_forth : accepts s (collects ts c) ≡ true → acceptable (last_twelve (ts ++ (s ∷ []))) ≡ true
  accepts_forth a =
      let o = accepts_only s (collects ts c) a in
      let t = trace in
      let eleven : length t.now ≡ 11 = sym t.holding.count ∙ o.2 in
      let twelve : length (t.now ++ (s ∷ [])) ≡ 12 = length-append t.now (s ∷ []) ∙ ap (λ (n : ℕ). n + 1) eleven in
      let crc : crc_right (t.now ++ (s ∷ [])) ≡ true =
      sym (accepts_twelfth s (collects ts c) t.now t.holding eleven o.0 o.1) ∙ a in
      let last : last_twelve (ts ++ (s ∷ [])) ≡ t.now ++ (s ∷ []) =
      ap (λ (l : List ℕ). last_twelve (l ++ (s ∷ []))) t.split
      ∙ (ap last_twelve (append_assoc t.before t.now (s ∷ []))
      ∙ last_at t.before (t.now ++ (s ∷ [])) twelve) in
      ap acceptable last
      ∙ sound_acceptable (t.now ++ (s ∷ [])) twelve
      (sound_snoc t.now s t.sound (omega arith) o.0 o.1) crc

  accepts_back : acceptable (last_twelve (ts ++ (s ∷ []))) ≡ true → accepts s (collects ts c) ≡ true
  accepts_back a =
      let front = take (length ts - 11) ts in
      let w = drop (length ts - 11) ts in
      let many = twelve_of (ts ++ (s ∷ [])) (acceptable_sound _ a).0 in
      let join : front ++ w ≡ ts = take-append-drop (length ts - 11) ts in
      let eleven : length w ≡ 11 =
      length-drop (length ts - 11) ts ∙ eleven_of (length ts) (rw (length-append ts (s ∷ [])) at many) in
      let twelve : length (w ++ (s ∷ [])) ≡ 12 = length-append w (s ∷ []) ∙ ap (λ (n : ℕ). n + 1) eleven in
      let last : last_twelve (ts ++ (s ∷ [])) ≡ w ++ (s ∷ []) =
      ap (λ (l : List ℕ). last_twelve (l ++ (s ∷ []))) (sym join)
      ∙ (ap last_twelve (append_assoc front w (s ∷ [])) ∙ last_at front (w ++ (s ∷ [])) twelve) in
      ap (λ (l : List ℕ). accepts s (collects l c)) (sym join)
      ∙ (ap (accepts s) (collects_append front w c)
      ∙ accepts_frame w s (collects front c) (collects_length front c h) eleven (sym (ap acceptable last) ∙ a))

  pub accepts_last : accepts s (collects ts c) ≡ acceptable (last_twelve (ts ++ (s ∷ [])))
  accepts_last = same_bool _ _ accepts_forth accepts_back

-- Over calls

pub after_collector : (c : Call) (e : End) → bad e ≡ false → (after c e).collector ≡ collects (taken_by c) e.collector
unfolding collects taken
after_collector Call.send e h = (send_leaves e).collector
after_collector (Call.take s) e h = go (leb s 1023) refl
  where
    go : (b : Bool) → leb s 1023 ≡ b → (take_of e s).end.collector ≡ collects (cond b (s ∷ []) []) e.collector
    go true k = ap (λ (r : Taken). r.end.collector) (take_good e s h (leb-true s 1023 k))
    go false k = ap (λ (r : Taken). r.end.collector) (take_above e s h (leb-false s 1023 k))
after_collector (Call.read r) e h = (read_leaves e r).collector
after_collector (Call.write r v k) e h = (write_leaves e r v).collector
after_collector (Call.health x) e h = (health_leaves e x).collector
after_collector Call.present e h = refl

pub calls_collector : (cs : List Call) (e : End) → bad e ≡ false
    → (calls cs e).collector ≡ collects (takes cs) e.collector
unfolding calls takes collects
calls_collector [] e h = refl
calls_collector (c ∷ cs) e h =
    calls_collector cs (after c e) (after_good c e h)
    ∙ (ap (collects (takes cs)) (after_collector c e h) ∙ sym (collects_append (taken_by c) (takes cs) e.collector))

pub reached_accepts : (cs : List Call) (s : ℕ)
    → accepts s (reached cs).collector ≡ acceptable (last_twelve (takes cs ++ (s ∷ [])))
unfolding reached
reached_accepts cs s =
    ap (accepts s) (calls_collector cs reset_of reset_good) ∙ accepts_last (takes cs) s reset_of.collector refl refl
