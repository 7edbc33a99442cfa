-- Laws of Finder.antt: what `somewhere` and `first_place` say of the places of a list, and the answer table's rows
-- for the finder, each "exactly when".
--   NoneBefore l at   no place of l before `at` passes
-- Assumes nothing.
use Prim.Native.Nat.{ℕ, zero, suc, ◌+◌, ◌-◌, ◌≤◌, ◌<◌}
use native.Mathlib.Nat.{add-sub_cancel_left}
use native.Mathlib.Omega.{arith}
use mathlib.Core.Bool.{Bool, true, false, not, ◌&&◌, ◌||◌, cond, true≢false}
use mathlib.Core.List.{List, [], ◌∷◌}
use mathlib.Core.Logic.{◌↔◌, ◌≢◌}
use mathlib.Core.Path.{◌≡◌, refl, ap, sym, ◌∙◌}
use borrow.Author.Tests.{eqb-true, eqb-false, leb-true, leb-false, le-leb, lt-leb}
use lib.Dec.{eqb, leb, lit<}
use lib.ListN.{length, take, drop, length-take, length-drop}
use Rattle.answer.specs.Number.{number_of}
use Rattle.answer.specs.declared.Answer.TheVariants.{NothingFound}
use Rattle.frame.specs.Check.{some_above}
use Rattle.frame.proofs.AcceptLaws.{acceptable_length}
use Rattle.laws.proofs.Bools.{or_no}
use Rattle.frame.proofs.CheckLaws.{pick, pick_7, pick_5, pick_none, pick_0}
use Rattle.finder.specs.Finder.{limit, passes, somewhere, first_place, answer_of, done, find_of, stretch_of}
use Rattle.finder.specs.declared.Found.{Found}

abbrev pub NoneBefore : List ℕ → ℕ → Type 0
NoneBefore l at = (k : ℕ) → k < at → passes l k ≡ false

-- ---------------------------------------------------------------- one place

-- a place that passes has twelve symbols
pub passes_length : (l : List ℕ) (k : ℕ) → passes l k ≡ true → k + 12 ≤ length l
passes_length l k e =
    omega (arith, length-drop k l, length-take 12 (drop k l), acceptable_length (take 12 (drop k l)) e)

pub passes_not : (l : List ℕ) (k : ℕ) → (passes l k ≡ true → ⊥) → passes l k ≡ false
passes_not l k h = go (passes l k) refl
  where
    go : (b : Bool) → passes l k ≡ b → passes l k ≡ false
    go true e = absurd (h e)
    go false e = e

pub passes_short : (l : List ℕ) (k : ℕ) → length l < k + 12 → passes l k ≡ false
passes_short l k h = passes_not l k (λ e. omega (arith, passes_length l k e))

-- ---------------------------------------------------------------- the first place

-- no place before the first passes
pub first_before : (l : List ℕ) → NoneBefore l (first_place l)
unfolding first_place
first_before [] k h = passes_short [] k (omega arith)
first_before (s ∷ l) k h = go (passes (s ∷ l) 0) refl (first_before l) k h
  where
    go : (b : Bool) → passes (s ∷ l) 0 ≡ b → NoneBefore l (first_place l)
        → NoneBefore (s ∷ l) (cond b 0 (suc (first_place l)))
    go true f r k h = absurd (omega arith)
    go false f r zero h = f
    go false f r (suc k) h = r k (omega arith)

-- the first place passes, where one does
pub first_passes : (l : List ℕ) → somewhere l ≡ true → passes l (first_place l) ≡ true
unfolding somewhere first_place
first_passes [] e = absurd (true≢false (sym e))
first_passes (s ∷ l) e = go (passes (s ∷ l) 0) refl (first_passes l) e
  where
    go : (b : Bool) → passes (s ∷ l) 0 ≡ b → (somewhere l ≡ true → passes l (first_place l) ≡ true)
        → (b || somewhere l) ≡ true
        → passes (s ∷ l) (cond b 0 (suc (first_place l))) ≡ true
    go true f r d = f
    go false f r d = r d

-- and a place that passes, with none before it, is the first
pub first_is : (l : List ℕ) (at : ℕ) → NoneBefore l at → passes l at ≡ true → (somewhere l ≡ true) × (first_place l ≡ at)
unfolding somewhere first_place
first_is [] at n e = absurd (omega (arith, passes_length [] at e))
first_is (s ∷ l) zero n e = (rw e, rw e)
first_is (s ∷ l) (suc at) n e =
    let r = first_is l at (λ k h. n (suc k) (omega arith)) e in
    (rw (n 0 (omega arith)) r.0, rw (n 0 (omega arith)) (ap suc r.1))

-- no place passes where none does
pub nowhere_from : (l : List ℕ) → ((k : ℕ) → passes l k ≡ false) → somewhere l ≡ false
unfolding somewhere
nowhere_from [] h = refl
nowhere_from (s ∷ l) h = rw (h 0) (nowhere_from l (λ k. h (suc k)))

pub nowhere_at : (l : List ℕ) → somewhere l ≡ false → (k : ℕ) → passes l k ≡ false
unfolding somewhere
nowhere_at [] e k = passes_short [] k (omega arith)
nowhere_at (s ∷ l) e zero = (or_no (passes (s ∷ l) 0) (somewhere l) e).0
nowhere_at (s ∷ l) e (suc k) = nowhere_at l (or_no (passes (s ∷ l) 0) (somewhere l) e).1 k

-- ---------------------------------------------------------------- the rows

-- some place passes
abbrev pub Somewhere : List ℕ → Type 0
Somewhere l = (k : ℕ) × (passes l k ≡ true)

somewhere_is : (l : List ℕ) (k : ℕ) → passes l k ≡ true → somewhere l ≡ true
somewhere_is l k e = go (somewhere l) refl
  where
    go : (b : Bool) → somewhere l ≡ b → b ≡ true
    go true f = refl
    go false f = absurd (true≢false (sym e ∙ nowhere_at l f k))

module _ (l : List ℕ) where
  pub find_7 : (number_of (find_of l).answer ≡ 7) ↔ (limit < length l)
  unfolding find_of answer_of pick
  find_7 =
      let row = pick_7 NothingFound (lit< tt) (leb (length l) limit) (some_above l) (somewhere l) in
      (λ e. leb-false (length l) limit (row.0 e), λ h. row.1 (lt-leb (length l) limit h))

  -- request #102: 32,768 symbols pass the length check, 32,769 get 7
  pub longest_passes : length l ≡ 32768 → number_of (find_of l).answer ≢ 7
  longest_passes n e = omega (arith, n, find_7.0 e)

  pub one_more_refused : length l ≡ 32769 → number_of (find_of l).answer ≡ 7
  one_more_refused n = find_7.1 (omega (arith, n))

  pub find_5 : (number_of (find_of l).answer ≡ 5) ↔ ((length l ≤ limit) × (some_above l ≡ true))
  unfolding find_of answer_of pick
  find_5 =
      let row = pick_5 NothingFound (lit< tt) (leb (length l) limit) (some_above l) (somewhere l) in
      (λ e. (leb-true (length l) limit (row.0 e).0, (row.0 e).1), λ h. row.1 (le-leb (length l) limit h.0, h.1))

  pub find_8 : (number_of (find_of l).answer ≡ 8) ↔
      ((length l ≤ limit) × (some_above l ≡ false) × ((k : ℕ) → passes l k ≡ false))
  unfolding find_of answer_of pick
  find_8 =
      let row = pick_none NothingFound (lit< tt) (leb (length l) limit) (some_above l) (somewhere l) in (
        λ e. (leb-true (length l) limit (row.0 e).0, (row.0 e).1, nowhere_at l (row.0 e).2),
        λ h. row.1 (le-leb (length l) limit h.0, h.1, nowhere_from l h.2),
      )

  pub find_0 : (number_of (find_of l).answer ≡ 0) ↔ ((length l ≤ limit) × (some_above l ≡ false) × Somewhere l)
  unfolding find_of answer_of pick
  find_0 =
      let row = pick_0 NothingFound (lit< tt) (leb (length l) limit) (some_above l) (somewhere l) in (
        λ e. (leb-true (length l) limit (row.0 e).0, (row.0 e).1, (first_place l, first_passes l (row.0 e).2)),
        λ h. row.1 (le-leb (length l) limit h.0, h.1, somewhere_is l h.2.0 h.2.1),
      )

-- ---------------------------------------------------------------- the place and the stretch

-- done is the answer 0
done_is : (l : List ℕ) (b : Bool) → done l ≡ b → (number_of (find_of l).answer ≡ 0) ↔ (b ≡ true)
unfolding done find_of answer_of pick
done_is l b e = go (leb (length l) limit) (some_above l) (somewhere l) e
  where
    go : (n a c : Bool) → (n && (not a && c)) ≡ b → (number_of (pick NothingFound n a c) ≡ 0) ↔ (b ≡ true)
    go true true c f = (λ d. absurd (omega arith), λ d. absurd (true≢false (sym d ∙ sym f)))
    go true false true f = (λ d. sym f, λ d. refl)
    go true false false f = (λ d. absurd (omega arith), λ d. absurd (true≢false (sym d ∙ sym f)))
    go false a c f = (λ d. absurd (omega arith), λ d. absurd (true≢false (sym d ∙ sym f)))

module _ (l : List ℕ) (e : number_of (find_of l).answer ≡ 0) where
  found : done l ≡ true
  found = (done_is l (done l) refl).0 e

  -- what stands at the place is an acceptable frame
  pub find_passes : passes l (find_of l).place ≡ true
  unfolding find_of
  find_passes = rw found (first_passes l (find_0_somewhere))
    where
      find_0_somewhere : somewhere l ≡ true
      find_0_somewhere = somewhere_is l ((find_0 l).0 e).2.0 ((find_0 l).0 e).2.1

  -- nothing passes before it
  pub find_smallest : NoneBefore l (find_of l).place
  unfolding find_of
  find_smallest = rw found (first_before l)

  pub find_stretch : stretch_of l ≡ take 12 (drop (find_of l).place l)
  unfolding find_of stretch_of
  find_stretch = rw found

module _ (l : List ℕ) (e : number_of (find_of l).answer ≢ 0) where
  refused : done l ≡ false
  refused = go (done l) refl
    where
      go : (b : Bool) → done l ≡ b → b ≡ false
      go true f = absurd (e ((done_is l true f).1 refl))
      go false f = refl

  pub refused_place : (find_of l).place ≡ 0
  unfolding find_of
  refused_place = rw refused

  pub refused_stretch : stretch_of l ≡ []
  unfolding stretch_of
  refused_stretch = rw refused

-- ---------------------------------------------------------------- the ways out of `find`

module _ (l : List ℕ) (f : Found) (s : f ≡ find_of l) where
  module _ (e : eqb (number_of f.answer) 0 ≡ true) where
    zero_is : number_of (find_of l).answer ≡ 0
    zero_is = ap (λ (g : Found). number_of g.answer) (sym s) ∙ eqb-true (number_of f.answer) 0 e

    pub found_inside : f.place + 12 ≤ length l
    found_inside = rw s (passes_length l (find_of l).place (find_passes l zero_is))

    pub found_part : take (f.place + 12 - f.place) (drop f.place l) ≡ stretch_of l
    found_part =
        ap (λ (k : ℕ). take k (drop f.place l)) (add-sub_cancel_left f.place 12)
        ∙ ap (λ (g : Found). take 12 (drop g.place l)) s
        ∙ sym (find_stretch l zero_is)

  pub found_nothing : eqb (number_of f.answer) 0 ≡ false → ([] ≡ stretch_of l) × (0 ≡ (find_of l).place)
  found_nothing e =
      let r : number_of (find_of l).answer ≢ 0 =
      λ d. eqb-false (number_of f.answer) 0 e (ap (λ (g : Found). number_of g.answer) s ∙ d) in
      (sym (refused_stretch l r), sym (refused_place l r))
