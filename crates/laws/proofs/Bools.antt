-- Bools and choices.
--   hence                   what a call's result is known to be, said of what it stands for
--   cond_true, cond_false   a choice whose test is known
--   cond_same               a choice of one thing
--   either                  a choice has what each of its sides has
--   and_yes, and_no         a conjunction whose first part is known
--   and_both, and-true      a conjunction is true exactly when both parts are
--   or_none, or_no          a disjunction is false exactly when both parts are
--   or_cases                a disjunction is true by one of its parts
--   and_assoc, or_assoc
--   not_yes, no_if          what is not true is false
--   same_bool               tests that imply one another are one
-- Assumes nothing.
use mathlib.Core.Bool.{Bool, true, false, not, cond, ◌&&◌, ◌||◌, true≢false, false≢true}
use mathlib.Core.Path.{◌≡◌, refl, sym, ◌∙◌}

pub hence : {A : Type 0} {x y z : A} → x ≡ y → x ≡ z → y ≡ z
hence p q = sym p ∙ q

pub cond_true : {A : Type 0} {b : Bool} (x y : A) → b ≡ true → cond b x y ≡ x
cond_true x y h = rw h

pub cond_false : {A : Type 0} {b : Bool} (x y : A) → b ≡ false → cond b x y ≡ y
cond_false x y h = rw h

pub cond_same : {A : Type 0} (b : Bool) (x : A) → cond b x x ≡ x
cond_same true x = refl
cond_same false x = refl

pub either : {A : Type 0} (P : A → Type 0) (b : Bool) (x y : A) → (b ≡ true → P x) → (b ≡ false → P y) → P (cond b x y)
either P true x y f g = f refl
either P false x y f g = g refl

pub and_yes : {a : Bool} (b : Bool) → a ≡ true → (a && b) ≡ b
and_yes b h = rw h

pub and_no : {a : Bool} (b : Bool) → a ≡ false → (a && b) ≡ false
and_no b h = rw h

pub and_both : (a b : Bool) → (a && b) ≡ true → (a ≡ true) × (b ≡ true)
and_both true b h = (refl, h)
and_both false b h = absurd (false≢true h)

pub and-true : (a b : Bool) → a ≡ true → b ≡ true → (a && b) ≡ true
and-true true b h k = k
and-true false b h k = absurd (false≢true h)

pub or_none : (a b : Bool) → a ≡ false → b ≡ false → (a || b) ≡ false
or_none true b h k = absurd (true≢false h)
or_none false b h k = k

pub or_no : (a b : Bool) → (a || b) ≡ false → (a ≡ false) × (b ≡ false)
or_no true b h = absurd (true≢false h)
or_no false b h = (refl, h)

pub or_cases : {C : Type 0} (a b : Bool) → (a ≡ true → C) → (b ≡ true → C) → (a || b) ≡ true → C
or_cases true b f g h = f refl
or_cases false b f g h = g h

pub and_assoc : (a b c : Bool) → ((a && b) && c) ≡ (a && (b && c))
and_assoc true b c = refl
and_assoc false b c = refl

pub or_assoc : (a b c : Bool) → ((a || b) || c) ≡ (a || (b || c))
or_assoc true b c = refl
or_assoc false b c = refl

pub not_yes : (a : Bool) → a ≡ false → not a ≡ true
not_yes true h = absurd (true≢false h)
not_yes false h = refl

pub no_if : (b : Bool) → ¬ (b ≡ true) → b ≡ false
no_if true h = absurd (h refl)
no_if false h = refl

pub same_bool : (a b : Bool) → (a ≡ true → b ≡ true) → (b ≡ true → a ≡ true) → a ≡ b
same_bool true b f g = sym (f refl)
same_bool false true f g = g refl
same_bool false false f g = refl
