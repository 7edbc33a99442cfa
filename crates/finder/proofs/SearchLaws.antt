-- The turns of the loops in `place`, and its ways out. The outer loop keeps that no place before the present one
-- passes. The inner loop looks at the twelve symbols w at that place from the last to the first, and keeps that those
-- it has passed are stored and may stand where they do: so those behind the first are odd, and start no frame.
--   NoneFrom l at n   none of the n places of l from `at` on passes
--   RuledOut l at n   the same, of one to twelve places
-- Assumes nothing.
use Prim.Native.Nat.{ℕ, zero, suc, ◌+◌, ◌-◌, ◌≤◌, ◌<◌, min}
use native.Mathlib.Nat.{add-zero}
use native.Mathlib.Omega.{arith}
use mathlib.Core.Bool.{Bool, true, false, not, cond, true≢false, beq}
use mathlib.Core.List.{List, ◌∷◌}
use mathlib.Core.Path.{◌≡◌, refl, ap, ap₂, sym, subst, ◌∙◌}
use borrow.Author.Tests.{eqb-true, eqb-false, eq-eqb, ltb-true, ltb-false, leb-true, le-leb, lt-leb}
use lib.Dec.{eqb, ltb, lit<}
use lib.ListN.{length, take, drop, set, get_or, length-set, length-take, length-drop, drop_of_length-le}
use lib.Seq.{drop-cons, get_or-set_same, drop-set-lt, get_or-take, get_or-drop}
use Rattle.answer.specs.declared.Answer.TheVariants.{Done, BadSymbol, BadLength, NothingFound}
use Rattle.crc.specs.Bits.{bits, odd_ones}
use Rattle.frame.specs.Check.{some_above, right_at}
use Rattle.frame.specs.Frame.{marked, crc_right}
use Rattle.laws.proofs.Bools.{and_both}
use Rattle.frame.proofs.RightLaws.{right_from, acceptable_right, right_marked, right_first, right_other, right_behind}
use Rattle.frame.proofs.RightLaws.{right_starts_none, right_at_lem, right_more, right_end}
use Rattle.finder.specs.Finder.{limit, passes, answer_of, done, find_of}
use Rattle.finder.specs.Search.{ruled_out}
use Rattle.finder.proofs.FinderLaws.{NoneBefore, passes_length, passes_not, passes_short, first_is}
use Rattle.finder.proofs.FinderLaws.{nowhere_from}

-- the twelve symbols of l at a place
abbrev pub window : List ℕ → ℕ → List ℕ
window l at = take 12 (drop at l)

abbrev pub NoneFrom : List ℕ → ℕ → ℕ → Type 0
NoneFrom l at n = (i : ℕ) → i < n → passes l (at + i) ≡ false

-- and they are one to twelve, so that the search moves on and stays inside the list
abbrev pub RuledOut : List ℕ → ℕ → ℕ → Type 0
RuledOut l at n = NoneFrom l at n × (0 < n) × (n ≤ 12)

pub none_more : (l : List ℕ) (at n : ℕ) → NoneBefore l at → NoneFrom l at n → NoneBefore l (at + n)
none_more l at n before here k h = go (ltb k at) refl
  where
    go : (b : Bool) → ltb k at ≡ b → passes l k ≡ false
    go true e = before k (ltb-true k at e)
    go false e =
        let g = ltb-false k at e in
        let same : k ≡ at + (k - at) = omega (arith, g) in
        ap (passes l) same ∙ here (k - at) (omega (arith, g))

-- an unmarked symbol may stand at place k where it is odd (p) or k is 0, and not both
pub right_compared : (k s : ℕ) (p : Bool) → s < 512 → p ≡ odd_ones (bits 9 s) → not (beq p (eqb k 0)) ≡ right_at k s
right_compared k s p h e = go p (eqb k 0) refl e
  where
    go : (p first : Bool) → eqb k 0 ≡ first → p ≡ odd_ones (bits 9 s) → not (beq p first) ≡ right_at k s
    go true true f d = right_first k s true h (eqb-true k 0 f) d
    go false true f d = right_first k s false h (eqb-true k 0 f) d
    go true false f d = right_other k s true h (eqb-false k 0 f) d
    go false false f d = right_other k s false h (eqb-false k 0 f) d

-- ---------------------------------------------------------------- the twelve symbols at a place

module _ (l : List ℕ) (at : ℕ) (h : at + 12 ≤ length l) where
  window_length : length (window l at) ≡ 12
  window_length = length-take 12 (drop at l) ∙ min_is (length (drop at l)) (omega (arith, length-drop at l))
    where
      min_is : (n : ℕ) → 12 ≤ n → min 12 n ≡ 12
      min_is n h = omega arith

  window_at : (k : ℕ) → k < 12 → get_or (window l at) k 0 ≡ get_or l (at + k) 0
  window_at k g = get_or-take 12 (drop at l) k 0 g ∙ get_or-drop at l k 0

  -- where a place passes, each symbol may stand where it does
  passes_right : (k : ℕ) → k < 12 → passes l at ≡ true → right_at k (get_or l (at + k) 0) ≡ true
  passes_right k g e =
      let tests = and_both (eqb (length (window l at)) 12) _ (sym (acceptable_right (window l at)) ∙ e) in
      ap₂ right_at (omega arith) (sym (window_at k g))
      ∙ right_at_lem (window l at) 0 k (and_both (right_from 0 (window l at)) _ tests.1).0 (rw window_length g)

-- one symbol at fault, and the place does not pass
passes_fault : (l : List ℕ) (at k : ℕ) → k < 12 → right_at k (get_or l (at + k) 0) ≡ false → passes l at ≡ false
passes_fault l at k g f =
    passes_not l at (λ e. true≢false (sym (passes_right l at (passes_length l at e) k g e) ∙ f))

-- ---------------------------------------------------------------- the search from the last to the first

-- of the window w, the symbols from place k on are stored in s and may stand where they do
pub record Matching (w s : List ℕ) (k : ℕ) : Type 0 where
  pub room : length s ≡ 12
  pub stored : drop k s ≡ drop k w
  pub right : right_from k (drop k w) ≡ true

module _ (l : List ℕ) (at : ℕ) (h : at + 12 ≤ length l) (s : List ℕ) where
  -- nothing has been looked at
  pub matching_start : (left : ℕ) → 12 ≤ left → length s ≡ 12 → Matching (window l at) s left
  matching_start left g n =
      let r : length s ≤ left = omega (arith, n) in
      let w : length (window l at) ≤ left = omega (arith, window_length l at h) in
      record {
        room = n;
        stored = drop_of_length-le s r ∙ sym (drop_of_length-le (window l at) w);
        right = right_end (window l at) left w;
      }

  -- the symbol before those that are stored may stand where it does
  matching_next : (k : ℕ) → k < 12 → Matching (window l at) s (suc k) → right_at k (get_or l (at + k) 0) ≡ true
      → Matching (window l at) (set s k (get_or l (at + k) 0)) k
  matching_next k g m e =
      let inside : k < length (window l at) = rw (window_length l at h) g in
      let room : k < length s = rw m.room g in
      let symbol = get_or l (at + k) 0 in
      let n = length-set s k symbol in
      record {
        room = n ∙ m.room;
        stored =
            drop-cons (set s k symbol) k 0 (omega arith)
            ∙ ap₂ (λ (x : ℕ) (d : List ℕ). x ∷ d)
            (get_or-set_same s k symbol 0 room ∙ sym (window_at l at h k g))
            (drop-set-lt (suc k) s k symbol (omega arith) ∙ m.stored)
            ∙ sym (drop-cons (window l at) k 0 inside);
        right = right_more (window l at) k inside (ap (right_at k) (window_at l at h k g) ∙ e) m.right;
      }

  -- and so with `left` symbols still to come
  pub matching_more : (left : ℕ) → 0 < left → left ≤ 12 → Matching (window l at) s left
      → right_at (left - 1) (get_or l (at + (left - 1)) 0) ≡ true
      → Matching (window l at) (set s (left - 1) (get_or l (at + (left - 1)) 0)) (left - 1)
  matching_more left p g m e =
      let last : left ≡ suc (left - 1) = omega arith in
      matching_next (left - 1) (omega arith) (subst (Matching (window l at) s) last m) e

  -- a symbol that may stand where it does, behind the first, starts no frame
  none_behind : (k : ℕ) → Matching (window l at) s k → (i : ℕ) → k ≤ i → 0 < i → i < 12 → passes l (at + i) ≡ false
  none_behind k m i b p g =
      let same : i ≡ k + (i - k) = omega arith in
      let inside : i - k < length (drop k (window l at)) =
      omega (arith, length-drop k (window l at), window_length l at h) in
      let stands : right_at i (get_or l (at + i) 0) ≡ true =
      ap₂ right_at same
      (sym (window_at l at h i g) ∙ ap (λ (j : ℕ). get_or (window l at) j 0) same
      ∙ sym (get_or-drop k (window l at) (i - k) 0))
      ∙ right_at_lem (drop k (window l at)) k (i - k) m.right inside in
      passes_fault l (at + i) 0 (lit< tt) (rw add-zero (right_starts_none i _ p stands))

  module _ (k : ℕ) (g : k < 12) (m : Matching (window l at) s (suc k)) (f : right_at k (get_or l (at + k) 0) ≡ false) where
    -- before the symbol at fault: there it stands behind the first
    none_through : (i : ℕ) → i < k → passes l (at + i) ≡ false
    none_through i b =
        let same : at + i + (k - i) ≡ at + k = omega arith in
        passes_fault l (at + i) (k - i) (omega arith)
        (ap (λ (j : ℕ). right_at (k - i) (get_or l j 0)) same ∙ right_behind (k - i) k _ (omega arith) (omega arith) ∙ f)

    -- all twelve, where it may not stand at the first place either
    none_at_all : right_at 0 (get_or l (at + k) 0) ≡ false → RuledOut l at 12
    none_at_all e = (λ i b. go i b (ltb i k) (eqb i k) refl refl, lit< tt, omega arith)
      where
        go : (i : ℕ) → i < 12 → (x y : Bool) → ltb i k ≡ x → eqb i k ≡ y → passes l (at + i) ≡ false
        go i b true y p q = none_through i (ltb-true i k p)
        go i b false true p q = rw (eqb-true i k q) (passes_fault l (at + k) 0 (lit< tt) (rw add-zero e))
        go i b false false p q =
            let u = ltb-false i k p in
            let v = eqb-false i k q in
            none_behind (suc k) m i (omega arith) (omega arith) b

    pub fault_next : RuledOut l at (ruled_out (get_or l (at + k) 0) k)
    fault_next = go (marked (get_or l (at + k) 0)) (eqb k 0) refl refl
      where
        go : (x y : Bool) → marked (get_or l (at + k) 0) ≡ x → eqb k 0 ≡ y → RuledOut l at (cond x 12 (cond y 12 k))
        go true y p q = none_at_all (sym (right_marked 0 (get_or l (at + k) 0) (leb-true 512 (get_or l (at + k) 0) p)))
        go false true p q = none_at_all (ap (λ (j : ℕ). right_at j (get_or l (at + k) 0)) (sym (eqb-true k 0 q)) ∙ f)
        go false false p q = let v = eqb-false k 0 q in (none_through, omega arith, omega arith)

  -- twelve symbols that may stand where they do: the CRC decides
  pub passes_crc : (left : ℕ) (b : Bool) → left ≤ 0 → Matching (window l at) s left → crc_right s ≡ b → passes l at ≡ b
  passes_crc left b z m e =
      let none : left ≡ 0 = omega arith in
      let all = subst (Matching (window l at) s) none m in
      acceptable_right (window l at)
      ∙ rw (eq-eqb (length (window l at)) 12 (window_length l at h), all.right, ← all.stored) e

  -- and where it is wrong, all twelve places are ruled out
  pub crc_rules_out : (left : ℕ) → left ≤ 0 → Matching (window l at) s left → crc_right s ≡ false → NoneFrom l at 12
  crc_rules_out left z m e zero b = rw add-zero (passes_crc left false z m e)
  crc_rules_out left z m e (suc i) b = none_behind left m (suc i) (omega arith) (omega arith) b

-- ---------------------------------------------------------------- the ways out

module _ (l : List ℕ) where
  pub place_length : limit < length l → record { answer = BadLength; place = 0 } ≡ find_of l
  unfolding find_of answer_of done
  place_length n = rw (lt-leb (length l) limit n)

  module _ (n : length l ≤ limit) where
    pub place_above : some_above l ≡ true → record { answer = BadSymbol; place = 0 } ≡ find_of l
    unfolding find_of answer_of done
    place_above a = rw (le-leb (length l) limit n, a)

    -- the places from `at` on are too short
    pub place_nowhere : (at : ℕ) → some_above l ≡ false → NoneBefore l at → length l < at + 12
        → record { answer = NothingFound; place = 0 } ≡ find_of l
    unfolding find_of answer_of done
    place_nowhere at a p h = rw (le-leb (length l) limit n, a, nowhere_from l all)
      where
        all : (k : ℕ) → passes l k ≡ false
        all k = go (ltb k at) refl
          where
            go : (b : Bool) → ltb k at ≡ b → passes l k ≡ false
            go true e = p k (ltb-true k at e)
            go false e = passes_short l k (omega (arith, ltb-false k at e))

    pub place_found : (at : ℕ) → some_above l ≡ false → NoneBefore l at → passes l at ≡ true
        → record { answer = Done; place = at } ≡ find_of l
    unfolding find_of answer_of done
    place_found at a p e =
        let f = first_is l at p e in
        rw (le-leb (length l) limit n, a, f.0, f.1)
