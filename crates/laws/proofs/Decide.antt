-- Tests that decide statements, and the rows of a table that are tried in order.
--   Decides b P   the test b is true where P holds, and false where it does not
--   decides_iff, decides_no  what is so known of the test
--   decides_or, decides_and, decides_not
--   above_row, eq_row        a number above another; two numbers that are one
--   set_row, same_row        a bool that is set; two bools that are one
--   above_not                what is above another is not at most that
--   hit, skip, pass, never   of a choice `cond b x y` and the number that f gives of it: the row n is this one; it is a
--                            later one; it is what is left at the end; it is none of these
-- Assumes nothing.
use Prim.Native.Nat.{ℕ, ◌<◌, ◌≤◌}
use mathlib.Core.Bool.{Bool, true, false, not, cond, ◌&&◌, ◌||◌, beq, true≢false, false≢true}
use mathlib.Core.Logic.{◌↔◌, ◌⊎◌, inl, inr, ⊎_elim}
use mathlib.Core.Path.{◌≡◌, refl, sym, ◌∙◌}
use native.Mathlib.Omega.{arith}
use borrow.Author.Tests.{ltb-true, ltb-false, eqb-true, eqb-false}
use lib.Dec.{eqb, ltb}
use Rattle.laws.proofs.Bools.{no_if}

pub record Decides (b : Bool) (P : Type 0) : Type 0 where
  pub holds : b ≡ true → P
  pub fails : b ≡ false → ¬ P

pub decides_iff : {b : Bool} {P : Type 0} → Decides b P → (b ≡ true) ↔ P
decides_iff {b} {P} d = go b d.holds d.fails
  where
    go : (b : Bool) → (b ≡ true → P) → (b ≡ false → ¬ P) → (b ≡ true) ↔ P
    go true t f = (t, λ _. refl)
    go false t f = (λ h. absurd (false≢true h), λ p. absurd (f refl p))

pub decides_no : {b : Bool} {P : Type 0} → Decides b P → ¬ P → b ≡ false
decides_no {b} d n = no_if b (λ t. n (d.holds t))

pub decides_not : {P : Type 0} (b : Bool) → Decides b P → Decides (not b) (¬ P)
decides_not true d = record { holds = λ h. absurd (false≢true h); fails = λ _ n. n (d.holds refl) }
decides_not false d = record { holds = λ _. d.fails refl; fails = λ h. absurd (true≢false h) }

pub decides_or : {P Q : Type 0} (a b : Bool) → Decides a P → Decides b Q → Decides (a || b) (P ⊎ Q)
decides_or true b p q = record { holds = λ _. inl (p.holds refl); fails = λ h. absurd (true≢false h) }
decides_or false b p q = record {
  holds = λ h. inr (q.holds h);
  fails = λ h. ⊎_elim (λ x. p.fails refl x) (λ y. q.fails h y);
}

pub decides_and : {P Q : Type 0} (a b : Bool) → Decides a P → Decides b Q → Decides (a && b) (P × Q)
decides_and true b p q = record { holds = λ h. (p.holds refl, q.holds h); fails = λ h pq. q.fails h pq.1 }
decides_and false b p q = record { holds = λ h. absurd (false≢true h); fails = λ h pq. p.fails refl pq.0 }

pub above_not : {a b : ℕ} → a < b → b ≤ a → ⊥
above_not h k = omega arith

pub above_row : (a b : ℕ) → Decides (ltb a b) (a < b)
above_row a b = record { holds = ltb-true a b; fails = λ t k. above_not k (ltb-false a b t) }

pub eq_row : (a b : ℕ) → Decides (eqb a b) (a ≡ b)
eq_row a b = record { holds = eqb-true a b; fails = eqb-false a b }

pub set_row : (b : Bool) → Decides b (b ≡ true)
set_row b = record { holds = λ t. t; fails = λ t u. true≢false (sym u ∙ t) }

pub same_row : (a b : Bool) → Decides (beq a b) (a ≡ b)
same_row true true = record { holds = λ _. refl; fails = λ h _. true≢false h }
same_row true false = record { holds = λ h. absurd (false≢true h); fails = λ _ h. true≢false h }
same_row false true = record { holds = λ h. absurd (false≢true h); fails = λ _ h. false≢true h }
same_row false false = record { holds = λ _. refl; fails = λ h _. true≢false h }

module _ {A : Type 0} (f : A → ℕ) {n : ℕ} {x y : A} where
  pub hit : {P : Type 0} (b : Bool) → Decides b P → f x ≡ n → ¬ (f y ≡ n) → (f (cond b x y) ≡ n) ↔ P
  hit true d h k = (λ _. d.holds refl, λ _. h)
  hit false d h k = (λ e. absurd (k e), λ p. absurd (d.fails refl p))

  pub skip : {P Q : Type 0} (b : Bool) → Decides b P → ¬ (f x ≡ n) → (¬ P → (f y ≡ n) ↔ Q)
      → (f (cond b x y) ≡ n) ↔ (¬ P × Q)
  skip true d h k = (λ e. absurd (h e), λ pq. absurd (pq.0 (d.holds refl)))
  skip false d h k = (λ e. (d.fails refl, (k (d.fails refl)).0 e), λ pq. (k pq.0).1 pq.1)

  pub pass : {P : Type 0} (b : Bool) → Decides b P → ¬ (f x ≡ n) → f y ≡ n → (f (cond b x y) ≡ n) ↔ ¬ P
  pass true d h k = (λ e. absurd (h e), λ p. absurd (p (d.holds refl)))
  pass false d h k = (λ _. d.fails refl, λ _. k)

  pub never : (b : Bool) → ¬ (f x ≡ n) → ¬ (f y ≡ n) → ¬ (f (cond b x y) ≡ n)
  never true h k = h
  never false h k = k
