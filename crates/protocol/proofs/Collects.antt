-- A collection on a line that brings frames of twelve symbols, place by place, each symbol sound or marked; in a frame
-- the first symbol is even, the others odd.
--   Begins t p l n   the collection l, with count n, is empty, or it has the frame t up to its place p
--   Comes            place p of the frame t₀ came before, place q of the frame t comes now: the same frame's next
--                    place, or place 0
--   marked_begins    a marked symbol empties the collection
--   sound_begins     a sound one starts it, is added to it, or is ignored
--   sound_whole      with the twelfth symbol it is the whole frame
--   sound_counted    where it misses nothing of the frame so far, it misses nothing after one symbol more
-- Assumes nothing.
use Prim.Native.Nat.{ℕ, suc, ◌+◌, ◌%◌, ◌≤◌, ◌<◌}
use mathlib.Core.Bool.{Bool, true, false, cond, false≢true}
use mathlib.Core.List.{List}
use mathlib.Core.Path.{◌≡◌, refl, sym, ap, ◌∙◌}
use native.Mathlib.Numerals.{add-one}
use native.Mathlib.Omega.{arith}
use lib.Dec.{eqb}
use lib.ListN.{length, get_or, take, set, length-set}
use lib.Seq.{take-suc, take-suc-set, take_all}
use borrow.Author.Tests.{eqb-true, eqb-false, ne_eqb}
use Rattle.protocol.specs.Steps.{placed, count_with, completes}

pub record Begins {S : Type 0} (t : List S) (p : ℕ) (l : List S) (n : ℕ) : Type 0 where
  pub place : 0 < n → n ≡ p + 1
  pub prefix : take n l ≡ take n t

pub record Comes {S : Type 0} (t₀ : List S) (p : ℕ) (t : List S) (q : ℕ) (l : List S) (n : ℕ) : Type 0 where
  pub before : Begins t₀ p l n
  pub same : 0 < q → t₀ ≡ t
  pub next : 0 < q → p + 1 ≡ q
  pub within : q < 12
  pub frame : length t ≡ 12
  pub room : length l ≡ 12
  pub count : n ≤ 11

pub marked_begins : {S : Type 0} (t : List S) (q : ℕ) (v : Bool) (s : S) (l : List S) (n : ℕ)
    → Begins t q (placed true v s l n) (count_with true v n)
marked_begins t q v s l n = record { place = λ h. absurd (omega arith); prefix = refl }

-- one more element of t, stored behind the first n of them
add_prefix : {S : Type 0} (none : S) (l t : List S) (n : ℕ) (s : S) → n < length l → n < length t
    → take n l ≡ take n t → s ≡ get_or t n none → take (suc n) (set l n s) ≡ take (suc n) t
add_prefix none l t n s h k e f = rw (take-suc-set l n s h, take-suc t n none k, e, f)

module _ {S : Type 0} (none : S) {t₀ t l : List S} {p q n : ℕ} (c : Comes t₀ p t q l n) where
  later : eqb q 0 ≡ false → 0 < q
  later e = omega (arith, eqb-false q 0 e)

  -- an odd symbol is stored behind what is there of the frame
  at : eqb q 0 ≡ false → eqb n 0 ≡ false → n ≡ q
  at e z = c.before.place (omega (arith, eqb-false n 0 z)) ∙ c.next (later e)

  stored : eqb q 0 ≡ false → eqb n 0 ≡ false → take (suc n) (set l n (get_or t q none)) ≡ take (suc n) t
  stored e z =
      add_prefix none l t n (get_or t q none) (omega arith) (omega arith)
      (c.before.prefix ∙ ap (λ (t : List S). take n t) (c.same (later e))) (rw (at e z))

  pub sound_begins : (v : Bool) → eqb q 0 ≡ v → Begins t q (placed false v (get_or t q none) l n) (count_with false v n)
  sound_begins true e = record {
    place = λ h. omega (arith, eqb-true q 0 e);
    prefix = add_prefix none l t 0 (get_or t q none) (omega arith) (omega arith) refl (rw (eqb-true q 0 e));
  }
  sound_begins false e = go (eqb n 0) (eqb n 11) refl
    where
      go : (z y : Bool) → eqb n 0 ≡ z → Begins t q (cond z l (set l n (get_or t q none))) (cond z 0 (cond y 0 (n + 1)))
      go true y f = record { place = λ h. absurd (omega arith); prefix = refl }
      go false true f = record { place = λ h. absurd (omega arith); prefix = refl }
      go false false f = record { place = λ h. ap (λ (k : ℕ). k + 1) (at e f); prefix = rw add-one (stored e f) }

  pub sound_whole : (v : Bool) → eqb q 0 ≡ v → completes false v n ≡ true → placed false v (get_or t q none) l n ≡ t
  sound_whole true e y = absurd (false≢true y)
  sound_whole false e y =
      let last : n ≡ 11 = eqb-true n 11 y in
      let some : eqb n 0 ≡ false = ne_eqb n 0 (λ z. omega arith) in
      rw some
      (sym (take_all (suc n) (set l n (get_or t q none)) (simp length-set (omega arith)))
      ∙ stored e some
      ∙ take_all (suc n) t (omega arith))

  pub sound_counted : (v : Bool) → eqb q 0 ≡ v → (0 < q → n ≡ q) → count_with false v n ≡ (q + 1) % 12
  sound_counted true e all = omega (arith, eqb-true q 0 e)
  sound_counted false e all = go (eqb n 0) (eqb n 11) refl refl
    where
      go : (z y : Bool) → eqb n 0 ≡ z → eqb n 11 ≡ y → cond z 0 (cond y 0 (n + 1)) ≡ (q + 1) % 12
      go true y f g = absurd (eqb-false q 0 e (sym (all (later e)) ∙ eqb-true n 0 f))
      go false true f g = omega (arith, all (later e), eqb-true n 11 g)
      go false false f g = omega (arith, all (later e), eqb-false n 11 g)
