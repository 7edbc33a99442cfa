-- Frames through the receiver.
--   accs l c             for each of the symbols l, whether a frame is accepted with it
--   calls_acceptances    what the symbols taken say of the calls
--   accs_sound           twelve acceptable symbols, whatever stands in the collection: accepted with the last one alone
--   accs_unsound         twelve others, where the collection is empty: accepted with none
--   around               two frames and twelve symbols between that are none: exactly the two are accepted
--   around_wrong         demand 2 through the receiver: the twelve between are a frame with one to three bits wrong
-- Assumes nothing.
use Prim.Native.Nat.{ℕ, suc, ◌+◌, ◌≤◌}
use mathlib.Core.Bool.{Bool, true, false, not, cond, ◌&&◌, true≢false}
use mathlib.Core.List.{List, [], ◌∷◌, ◌++◌}
use mathlib.Core.Path.{◌≡◌, refl, sym, ap, ap₂, ◌∙◌}
use native.Mathlib.Nat.{suc_inj}
use native.Mathlib.Omega.{arith}
use lib.Dec.{leb}
use lib.ListN.{length, replicate}
use borrow.Author.Tests.{eq-eqb, ne_eqb}
use Rattle.frame.proofs.DistanceLaws.{acceptable_wrong}
use Rattle.frame.specs.Distance.{wire, distance}
use Rattle.frame.specs.Frame.{marked, even, acceptable}
use Rattle.receiver.specs.declared.Collector.{Collector}
use Rattle.end.specs.declared.End.{End}
use Rattle.end.specs.Good.{bad}
use Rattle.receiver.specs.Receiving.{count_with, collected, accepts}
use Rattle.end.specs.Calls.{Call, after}
use Rattle.end.specs.Shape.{Shaped}
use Rattle.endlaws.specs.Taken.{taken_by, takes, accepted_by, acceptances, at_last, at_none}
use Rattle.endlaws.proofs.Accepted.{acceptable_sound, collects_append, collects_length, last_at, accepts_frame}
use Rattle.endlaws.proofs.Accepted.{accepts_last, after_collector}
use Rattle.laws.proofs.Bools.{cond_true, cond_false, no_if}
use Rattle.endlaws.proofs.Collecting.{collects, accepts_only}
use Rattle.endlaws.proofs.Goods.{after_good}
use Rattle.endlaws.proofs.Shapes.{counted_keeps}

-- Over symbols alone

unfoldable accs : List ℕ → Collector → List Bool
accs [] c = []
accs (s ∷ l) c = accepts s c ∷ accs l (collected s c)

accs_append : (l m : List ℕ) (c : Collector) → accs (l ++ m) c ≡ accs l c ++ accs m (collects l c)
unfolding accs collects
accs_append [] m c = refl
accs_append (s ∷ l) m c = ap (λ (r : List Bool). accepts s c ∷ r) (accs_append l m (collected s c))

counted_next : (s : ℕ) (c : Collector) → count_with s c ≤ c.count + 1
counted_next s c =
    counted_keeps (λ (n : ℕ). n ≤ c.count + 1) s c (omega arith) (omega arith) (λ _. omega arith)

-- too few symbols for a twelfth
accs_few : (l : List ℕ) (c : Collector) → c.count + length l ≤ 11 → accs l c ≡ replicate (length l) false
unfolding accs
accs_few [] c h = refl
accs_few (s ∷ l) c h =
    ap₂ (λ (b : Bool) (r : List Bool). b ∷ r)
    (no_if (accepts s c) (λ a. full c.count (length l) h (accepts_only s c a).2))
    (accs_few l (collected s c) (next (count_with s c) c.count (length l) (counted_next s c) h))
  where
    full : (n m : ℕ) → n + suc m ≤ 11 → ¬ (n ≡ 11)
    full n m h e = omega arith

    next : (k n m : ℕ) → k ≤ n + 1 → n + suc m ≤ 11 → k + m ≤ 11
    next k n m a b = omega arith

-- twelve symbols are eleven and the last one
record Last (n : ℕ) (l : List ℕ) : Type 0 where
  front : List ℕ
  last : ℕ
  join : l ≡ front ++ (last ∷ [])
  many : length front ≡ n

last_of : (n x : ℕ) (l : List ℕ) → length l ≡ n → Last n (x ∷ l)
last_of n x [] h = record { front = []; last = x; join = refl; many = h }
last_of n x (y ∷ l) h =
    let r = last_of (length l) y l refl in
    record {
      front = x ∷ r.front;
      last = r.last;
      join = ap (λ (m : List ℕ). x ∷ m) r.join;
      many = ap suc r.many ∙ h;
    }

eleven_last : (l : List ℕ) → length l ≡ 12 → Last 11 l
eleven_last [] h = let z : ◌≡◌ {A = ℕ} 0 12 = h in absurd (omega arith)
eleven_last (x ∷ l) h = last_of 11 x l (suc_inj h)

-- after the last of eleven and one symbols
accs_twelve : (w : List ℕ) (s : ℕ) (c : Collector) (b : Bool) → accs w c ≡ replicate 11 false
    → accepts s (collects w c) ≡ b
    → accs (w ++ (s ∷ [])) c ≡ replicate 11 false ++ (b ∷ [])
unfolding accs
accs_twelve w s c b h k =
    accs_append w (s ∷ []) c ∙ ap₂ (λ (a r : List Bool). a ++ r) h (ap (λ (a : Bool). a ∷ []) k)

accs_front : (w : List ℕ) (s : ℕ) (c : Collector) → length c.symbols ≡ 12 → length w ≡ 11
    → acceptable (w ++ (s ∷ [])) ≡ true → accs w c ≡ replicate 11 false
unfolding accs
accs_front [] s c h k a = let z : ◌≡◌ {A = ℕ} 0 11 = k in absurd (omega arith)
accs_front (x ∷ l) s c h k a =
    let r = (acceptable_sound (x ∷ (l ++ (s ∷ []))) a).1 in
    let one : count_with x c ≡ 1 = cond_false _ _ r.0 ∙ cond_true _ _ r.1 in
    ap₂ (λ (b : Bool) (m : List Bool). b ∷ m)
    (no_if (accepts x c) (λ t. true≢false (sym r.1 ∙ (accepts_only x c t).1)))
    (accs_few l (collected x c) (omega (arith, one)) ∙ ap (λ (n : ℕ). replicate n false) (suc_inj k))

accs_sound : (l : List ℕ) (c : Collector) → length c.symbols ≡ 12 → acceptable l ≡ true → accs l c ≡ at_last
accs_sound l c h a =
    let t = eleven_last l (acceptable_sound l a).0 in
    let b : acceptable (t.front ++ (t.last ∷ [])) ≡ true = sym (ap acceptable t.join) ∙ a in
    ap (λ (m : List ℕ). accs m c) t.join
    ∙ accs_twelve t.front t.last c true (accs_front t.front t.last c h t.many b)
    (accepts_frame t.front t.last c h t.many b)

-- and the collection is empty after it
sound_empties : (l : List ℕ) (c : Collector) → length c.symbols ≡ 12 → acceptable l ≡ true → (collects l c).count ≡ 0
unfolding collects
sound_empties l c h a =
    let t = eleven_last l (acceptable_sound l a).0 in
    let b : acceptable (t.front ++ (t.last ∷ [])) ≡ true = sym (ap acceptable t.join) ∙ a in
    let o = accepts_only t.last (collects t.front c) (accepts_frame t.front t.last c h t.many b) in
    ap (λ (m : List ℕ). (collects m c).count) t.join
    ∙ (ap (λ (d : Collector). d.count) (collects_append t.front (t.last ∷ []) c)
    ∙ emptied t.last (collects t.front c) o.0 o.1 o.2)
  where
    emptied : (s : ℕ) (d : Collector) → marked s ≡ false → even s ≡ false → d.count ≡ 11 → count_with s d ≡ 0
    emptied s d m v e =
        cond_false _ _ m ∙ (cond_false _ _ v ∙ (cond_false _ _ (ne_eqb d.count 0 (λ z. omega arith))
        ∙ cond_true _ _ (eq-eqb d.count 11 e)))

accs_unsound : (l : List ℕ) (c : Collector) → length c.symbols ≡ 12 → c.count ≡ 0 → length l ≡ 12
    → acceptable l ≡ false → accs l c ≡ at_none
accs_unsound l c h k n a =
    let t = eleven_last l n in
    let twelve : length (t.front ++ (t.last ∷ [])) ≡ 12 = sym (ap length t.join) ∙ n in
    ap (λ (m : List ℕ). accs m c) t.join
    ∙ accs_twelve t.front t.last c false
    (accs_few t.front c (omega (arith, t.many)) ∙ ap (λ (i : ℕ). replicate i false) t.many)
    (accepts_last t.front t.last c h k
    ∙ (ap acceptable (last_at [] (t.front ++ (t.last ∷ [])) twelve) ∙ (sym (ap acceptable t.join) ∙ a)))

-- Over calls

accepted_by_lem : (c : Call) (e : End) → bad e ≡ false → accepted_by c e ≡ accs (taken_by c) e.collector
unfolding accs
accepted_by_lem Call.send e h = refl
accepted_by_lem (Call.take s) e h = go (leb s 1023)
  where
    go : (b : Bool)
        → cond b ((not (bad e) && accepts s e.collector) ∷ []) [] ≡ accs (cond b (s ∷ []) []) e.collector
    go true = rw h
    go false = refl
accepted_by_lem (Call.read r) e h = refl
accepted_by_lem (Call.write r v k) e h = refl
accepted_by_lem (Call.health x) e h = refl
accepted_by_lem Call.present e h = refl

calls_acceptances : (cs : List Call) (e : End) → bad e ≡ false → acceptances cs e ≡ accs (takes cs) e.collector
unfolding acceptances takes accs
calls_acceptances [] e h = refl
calls_acceptances (c ∷ cs) e h =
    ap₂ (λ (a b : List Bool). a ++ b) (accepted_by_lem c e h)
    (calls_acceptances cs (after c e) (after_good c e h) ∙ ap (accs (takes cs)) (after_collector c e h))
    ∙ sym (accs_append (taken_by c) (takes cs) e.collector)

-- Demand 2 through the receiver

-- A frame, twelve symbols that are no frame, a frame, taken by any end that answer 1 does not meet, with any other
-- calls and refused symbols between: the first and the last are accepted, each with its twelfth symbol, nothing else.
pub around : (cs : List Call) (e : End) (a b c : List ℕ) → Shaped e → bad e ≡ false
    → acceptable a ≡ true
    → (length b ≡ 12) × (acceptable b ≡ false)
    → acceptable c ≡ true
    → takes cs ≡ a ++ (b ++ c)
    → acceptances cs e ≡ at_last ++ (at_none ++ at_last)
around cs e a b c h g aa bb cc t =
    let k = h.collecting in
    let d = collects a e.collector in
    calls_acceptances cs e g
    ∙ (ap (λ (l : List ℕ). accs l e.collector) t
    ∙ (accs_append a (b ++ c) e.collector
    ∙ ap₂ (λ (x y : List Bool). x ++ y) (accs_sound a e.collector k aa)
    (accs_append b c d
    ∙ ap₂ (λ (x y : List Bool). x ++ y)
    (accs_unsound b d (collects_length a e.collector k) (sound_empties a e.collector k aa) bb.0 bb.1)
    (accs_sound c (collects b d) (collects_length b d (collects_length a e.collector k)) cc))))

-- the same, where the twelve between are a frame f with one to three of its 108 bits wrong
pub around_wrong : (cs : List Call) (e : End) (a f b c : List ℕ) → Shaped e → bad e ≡ false
    → acceptable a ≡ true
    → acceptable f ≡ true
    → (length b ≡ 12) × (1 ≤ distance (wire f) (wire b)) × (distance (wire f) (wire b) ≤ 3)
    → acceptable c ≡ true
    → takes cs ≡ a ++ (b ++ c)
    → acceptances cs e ≡ at_last ++ (at_none ++ at_last)
around_wrong cs e a f b c h g aa ff bb cc t =
    around cs e a b c h g aa (bb.0, acceptable_wrong f b ff bb.1 bb.2) cc t
