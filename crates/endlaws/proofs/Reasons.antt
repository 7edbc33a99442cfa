-- What take says of the collection.
--   ended_exactly     of any collection: the reason that the definition works out is the one in plain terms
--   take_reason       so of every take that is not refused; of a refused one take_refused says that there is none
--   acceptances_reasons   a frame is accepted with a symbol exactly where the reason is that
--   reached_holds     the end holds the symbols collected
--   reached_reason    of every end reached from reset: the reason is what the frame check says of the symbols
--                     collected, this symbol and whatever comes to make twelve
--   reached_silent    where nothing is said of a collection, it and this symbol have no fault
-- Assumes nothing.
use Prim.Native.Nat.{ℕ, zero, suc, ◌-◌, ◌≤◌, ◌<◌}
use mathlib.Core.Bool.{Bool, true, false, not, cond, ◌&&◌, ◌||◌}
use mathlib.Core.List.{List, [], ◌∷◌, ◌++◌, map, map-append}
use mathlib.Core.Logic.{◌↔◌, inl, inr}
use mathlib.Core.Path.{◌≡◌, refl, sym, ap, ap₂, ◌∙◌, subst}
use native.Mathlib.Omega.{arith}
use lib.Dec.{eqb, leb, ltb}
use lib.ListN.{length, set, take, drop, get_or, length-append, drop_of_length-le}
use lib.Seq.{drop_at, get_or-append_seam}
use borrow.Author.Tests.{eqb-true, eqb-false, ne_eqb, leb-true, leb-false, le-ltb}
use Rattle.frame.specs.declared.reason.Reason.{Reason}
use Rattle.frame.specs.declared.reason.Reason.TheVariants.{Nothing, Accepted, Crc, Marked, Parity}
use Rattle.frame.specs.Check.{some_above, right_at}
use Rattle.frame.specs.Frame.{marked, even, crc_right}
use Rattle.frame.specs.Reason.{is_accepted, checked_of, Looked, RightBelow, Because}
use Rattle.frame.proofs.ReasonLaws.{reason_exactly}
use Rattle.receiver.specs.declared.Collector.{Collector}
use Rattle.laws.specs.Above.{above}
use Rattle.end.specs.declared.End.{End}
use Rattle.end.specs.declared.Taken.{Taken}
use Rattle.end.specs.Good.{bad, reset_of}
use Rattle.receiver.specs.Receiving.{placed, accepts, reason_by}
use Rattle.end.specs.Taking.{take_of}
use Rattle.receiver.proofs.Laws.{accepts_reason}
use Rattle.end.specs.Calls.{Call, after, reached}
use Rattle.endlaws.specs.Reasons.{Plain, Ended, reasons_of, reasons, collection}
use Rattle.endlaws.specs.Rows.{Met}
use Rattle.endlaws.specs.Taken.{takes, accepted_by, acceptances}
use Rattle.endlaws.proofs.Accepted.{calls_collector}
use Rattle.endlaws.proofs.Collecting.{Odds, Sound, Holding, Trace, placed_twelfth, trace_all, trace_start}
use Rattle.endlaws.proofs.Done.{take_good}
use Rattle.endlaws.proofs.Goods.{reached_good, reset_good}
use Rattle.endlaws.proofs.Tested.{met}

-- Of any collection

module _ (s : ℕ) (c : Collector) where
  -- the twelfth symbol's place
  placed_last : c.count ≡ 11 → Plain s → placed s c ≡ set c.symbols 11 s
  placed_last k p = rw (p.0, p.1, k)

  ended : Ended s c (reason_by s c)
  ended =
      go (eqb c.count 0) (marked s) (even s) (eqb c.count 11) (crc_right (placed s c)) refl refl refl refl refl
    where
      some : (n : ℕ) → eqb n 0 ≡ false → 0 < n
      some n e = let k = eqb-false n 0 e in omega arith

      go : (z m v f b : Bool) → eqb c.count 0 ≡ z → marked s ≡ m → even s ≡ v → eqb c.count 11 ≡ f
          → crc_right (placed s c) ≡ b
          → Ended s c
          (cond z Nothing
          (cond m (Marked c.count) (cond v (Parity c.count) (cond f (cond b Accepted Crc) Nothing))))
      go true m v f b zz mm vv ff bb = inl (eqb-true c.count 0 zz)
      go false true v f b zz mm vv ff bb = (refl, some c.count zz, mm)
      go false false true f b zz mm vv ff bb = (refl, some c.count zz, mm, vv)
      go false false false true true zz mm vv ff bb =
          let k = eqb-true c.count 11 ff in
          (k, (mm, vv), ap crc_right (sym (placed_last k (mm, vv))) ∙ bb)
      go false false false true false zz mm vv ff bb =
          let k = eqb-true c.count 11 ff in
          (k, (mm, vv), ap crc_right (sym (placed_last k (mm, vv))) ∙ bb)
      go false false false false b zz mm vv ff bb = inr ((mm, vv), eqb-false c.count 11 ff)

  ended_reason : (r : Reason) → Ended s c r → reason_by s c ≡ r
  ended_reason Nothing (inl k) = rw k
  ended_reason Nothing (inr (p, k)) = go (eqb c.count 0)
    where
      go : (z : Bool)
          → cond z Nothing
          (cond (marked s) (Marked c.count)
          (cond (even s) (Parity c.count)
          (cond (eqb c.count 11) (cond (crc_right (placed s c)) Accepted Crc) Nothing)))
          ≡ Nothing
      go true = refl
      go false = rw (p.0, p.1, ne_eqb c.count 11 k)
  ended_reason Accepted (k, p, b) = rw (placed_last k p, k, p.0, p.1, b)
  ended_reason Crc (k, p, b) = rw (placed_last k p, k, p.0, p.1, b)
  ended_reason (Marked n) (k, h, m) = rw (k, ne_eqb n 0 (λ e. omega arith), m)
  ended_reason (Parity n) (k, h, m, v) = rw (k, ne_eqb n 0 (λ e. omega arith), m, v)

  pub ended_exactly : (r : Reason) → (reason_by s c ≡ r) ↔ Ended s c r
  ended_exactly r = (λ e. subst (Ended s c) e ended, ended_reason r)

-- Of a take

good_of : (e : End) → ¬ Met e → bad e ≡ false
good_of e h = go (bad e) refl
  where
    go : (b : Bool) → bad e ≡ b → bad e ≡ false
    go true k = absurd (h ((met e).holds k))
    go false k = k

good_reason : (e : End) (s : ℕ) → bad e ≡ false → s ≤ 1023 → (take_of e s).reason ≡ reason_by s e.collector
good_reason e s h k = ap (λ (t : Taken). t.reason) (take_good e s h k)

bad_reason : (e : End) (s : ℕ) → bad e ≡ true → (take_of e s).reason ≡ Nothing
unfolding take_of
bad_reason e s h = rw h

pub take_reason : (e : End) (s : ℕ) (r : Reason) → ¬ Met e → s ≤ 1023
    → ((take_of e s).reason ≡ r) ↔ Ended s e.collector r
take_reason e s r h k =
    let g = good_reason e s (good_of e h) k in
    let x = ended_exactly s e.collector r in
    (λ t. x.0 (sym g ∙ t), λ t. g ∙ x.1 t)

-- Over calls

accepted_reason : (c : Call) (e : End) → accepted_by c e ≡ map is_accepted (reasons_of c e)
accepted_reason Call.send e = refl
accepted_reason (Call.take s) e = go (leb s 1023) (bad e) refl refl
  where
    go : (b t : Bool) → leb s 1023 ≡ b → bad e ≡ t
        → cond b ((not (bad e) && accepts s e.collector) ∷ []) []
        ≡ map is_accepted (cond b ((take_of e s).reason ∷ []) [])
    go true true k h = rw (h, bad_reason e s h)
    go true false k h =
        rw (h, good_reason e s h (leb-true s 1023 k))
        (ap (λ (x : Bool). x ∷ []) (sym (accepts_reason s e.collector.count (placed s e.collector))))
    go false t k h = refl
accepted_reason (Call.read r) e = refl
accepted_reason (Call.write r v h) e = refl
accepted_reason (Call.health h) e = refl
accepted_reason Call.present e = refl

pub acceptances_reasons : (cs : List Call) (e : End) → acceptances cs e ≡ map is_accepted (reasons cs e)
unfolding acceptances reasons
acceptances_reasons [] e = refl
acceptances_reasons (c ∷ cs) e =
    ap₂ (λ (a b : List Bool). a ++ b) (accepted_reason c e) (acceptances_reasons cs (after c e))
    ∙ sym (map-append is_accepted (reasons_of c e) (reasons cs (after c e)))

-- What a frame's beginning is to the frame check

plain_odds : (l q : List ℕ) → Odds l → (j : ℕ) → j < length l → Plain (get_or (l ++ q) j 0)
plain_odds [] q o j h = absurd (omega arith)
plain_odds (x ∷ l) q o zero h = (o.0, o.1)
plain_odds (x ∷ l) q o (suc j) h = plain_odds l q o.2 j (omega arith)

plain_right : (i s : ℕ) → 0 < i → Plain s → right_at i s ≡ true
unfolding right_at
plain_right i s h p = rw (p.0, p.1, ne_eqb i 0 (λ e. omega arith))

sound_right : (p q : List ℕ) → Sound p → RightBelow (length p) (p ++ q)
unfolding right_at
sound_right [] q o j h = absurd (omega arith)
sound_right (x ∷ l) q o zero h = rw (o.0, o.1)
sound_right (x ∷ l) q o (suc j) h =
    plain_right (suc j) (get_or (l ++ q) j 0) (omega arith) (plain_odds l q o.2 j (omega arith))

unmarked_above : (x : ℕ) (b : Bool) → marked x ≡ false → (ltb 1023 x || b) ≡ b
unmarked_above x b h = let k = leb-false 512 x h in rw (le-ltb 1023 x (omega arith))

odds_above : (l q : List ℕ) → Odds l → some_above (l ++ q) ≡ some_above q
unfolding above
odds_above [] q o = refl
odds_above (x ∷ l) q o = unmarked_above x (some_above (l ++ q)) o.0 ∙ odds_above l q o.2

sound_above : (p q : List ℕ) → Sound p → some_above (p ++ q) ≡ some_above q
unfolding above
sound_above [] q o = refl
sound_above (x ∷ l) q o = unmarked_above x (some_above (l ++ q)) o.0 ∙ odds_above l q o.2

none_above : (s : ℕ) (q : List ℕ) → s ≤ 1023 → some_above q ≡ false → some_above (s ∷ q) ≡ false
unfolding above
none_above s q h a = rw (le-ltb 1023 s h, a)

-- A collection that holds a frame's beginning p, the symbol s, and whatever comes

module _ (s : ℕ) (c : Collector) (p rest : List ℕ) (h : Holding c p) (o : Sound p) where
  abbrev all : List ℕ
  all = p ++ (s ∷ rest)

  right_next : 0 < length p → Plain s → RightBelow (suc (length p)) all
  right_next z q j i = go (eqb j (length p)) refl
    where
      go : (b : Bool) → eqb j (length p) ≡ b → right_at j (get_or all j 0) ≡ true
      go true e = rw (eqb-true j (length p) e, get_or-append_seam p s rest 0) (plain_right (length p) s z q)
      go false e = sound_right p (s ∷ rest) o j (let n = eqb-false j (length p) e in omega arith)

  -- with the twelfth symbol all have come
  twelve : Looked all → c.count ≡ 11 → Plain s
      → RightBelow 12 all × (set c.symbols 11 s ≡ all)
  twelve l k q =
      let eleven : length p ≡ 11 = sym h.count ∙ k in
      let long = sym (length-append p (s ∷ rest)) ∙ l.0 in
      let none_left : rest ≡ [] = drop_of_length-le rest {i = 0} (omega (arith, long, eleven)) in (
        subst (λ (n : ℕ). RightBelow (suc n) all) eleven (right_next (omega arith) q),
        sym (placed_last s c k q)
            ∙ (placed_twelfth s c p h eleven q.0 q.1 ∙ ap (λ (t : List ℕ). p ++ (s ∷ t)) (sym none_left)),
      )

  -- the symbol that broke it is the lowest one at fault
  broken : {n : ℕ} → Looked all → c.count ≡ n
      → (n < 12) × RightBelow n all × (get_or all n 0 ≡ s)
  broken {n} l k =
      let same : length p ≡ n = sym h.count ∙ k in (
        omega (arith, sym (length-append p (s ∷ rest)) ∙ l.0, same),
        subst (λ (m : ℕ). RightBelow m all) same (sound_right p (s ∷ rest) o),
        ap (λ (m : ℕ). get_or all m 0) (sym same) ∙ get_or-append_seam p s rest 0,
      )

  because : Looked all → (r : Reason) → ¬ (r ≡ Nothing) → Ended s c r → Because all r
  because l Nothing x e = absurd (x refl)
  because l Accepted x (k, q, b) =
      let t = twelve l k q in
      (l, t.0, ap crc_right (sym t.1) ∙ b)
  because l Crc x (k, q, b) =
      let t = twelve l k q in
      (l, t.0, ap crc_right (sym t.1) ∙ b)
  because l (Marked n) x (k, z, m) =
      let t = broken l k in
      (l, t.0, t.1, rw t.2 m)
  because l (Parity n) x (k, z, m, v) =
      let t = broken l k in
      (l, t.0, t.1, rw t.2 m, rw (t.2, ne_eqb n 0 (λ e. omega arith), v))

-- From reset

module _ (cs : List Call) where
  trace : Trace (takes cs) (reached cs).collector
  unfolding reached
  trace =
      subst (λ (c : Collector). Trace (takes cs) c) (sym (calls_collector cs reset_of reset_good))
      (trace_all (takes cs) [] reset_of.collector (trace_start reset_of.collector refl refl))

  -- the symbols collected are those that the end holds
  now_last : collection cs ≡ trace.now
  now_last =
      let t = trace in
      ap (λ (n : ℕ). drop (length (takes cs) - n) (takes cs)) t.holding.count
      ∙ (ap (λ (l : List ℕ). drop (length l - length t.now) l) t.split
      ∙ drop_at t.before t.now (length (t.before ++ t.now) - length t.now)
      (rw (length-append t.before t.now) (omega arith)))

  pub reached_holds : take (reached cs).collector.count (reached cs).collector.symbols ≡ collection cs
  reached_holds =
      let t = trace in
      ap (λ (n : ℕ). take n (reached cs).collector.symbols) t.holding.count ∙ (t.holding.held ∙ sym now_last)

  module _ (s : ℕ) (rest : List ℕ) (k : s ≤ 1023) where
    reason_by_lem : (take_of (reached cs) s).reason ≡ reason_by s (reached cs).collector
    reason_by_lem = good_reason (reached cs) s (reached_good cs) k

    pub reached_silent : (take_of (reached cs) s).reason ≡ Nothing → ¬ ((reached cs).collector.count ≡ 0)
        → RightBelow (suc (reached cs).collector.count) (collection cs ++ (s ∷ rest))
    reached_silent e n =
        rw (now_last, trace.holding.count)
        (go ((ended_exactly s (reached cs).collector Nothing).0 (sym reason_by_lem ∙ e)))
      where
        go : Ended s (reached cs).collector Nothing
            → RightBelow (suc (length trace.now)) (trace.now ++ (s ∷ rest))
        go (inl z) = absurd (n z)
        go (inr (q, z)) =
            right_next s (reached cs).collector trace.now rest trace.holding trace.sound
            (omega (arith, trace.holding.count, n)) q

    pub reached_reason : some_above rest ≡ false → length (collection cs ++ (s ∷ rest)) ≡ 12
        → ¬ ((take_of (reached cs) s).reason ≡ Nothing)
        → (checked_of (collection cs ++ (s ∷ rest))).reason ≡ (take_of (reached cs) s).reason
    reached_reason a n x =
        let c = (reached cs).collector in
        let r = (take_of (reached cs) s).reason in
        let t = trace in
        let looked : Looked (t.now ++ (s ∷ rest)) =
        (rw now_last at n, sound_above t.now (s ∷ rest) t.sound ∙ none_above s rest k a) in
        rw now_last
        ((reason_exactly (t.now ++ (s ∷ rest)) r).1
        (because s c t.now rest t.holding t.sound looked r x ((ended_exactly s c r).0 (sym reason_by_lem))))
