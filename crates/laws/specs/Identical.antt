-- What "any two results that satisfy one statement are identical" means, of a contract Q. Q is said of lifetimes,
-- arguments, a result, and what stands behind the mutable references at exit.
--   Identical Q   two results for the same lifetimes, arguments and bytes at exit are one
--   Same Q        two results for the same lifetimes and arguments are one, whatever is said of the bytes at exit
-- Assumes nothing.
use Rattle.std.specs.Prelude.{◌≡◌}

abbrev pub Identical : {K : Type 0} {A R S : K → Type 0} → ((κs : K) → A κs → R κs → S κs → Type 0) → Type 0
Identical {K} {A} {R} {S} Q = (κs : K) (a : A κs) (x y : R κs) (s : S κs) → Q κs a x s → Q κs a y s → x ≡ y

abbrev pub Same : {K : Type 0} {A R S : K → Type 0} → ((κs : K) → A κs → R κs → S κs → Type 0) → Type 0
Same {K} {A} {R} {S} Q = (κs : K) (a : A κs) (x y : R κs) (s t : S κs) → Q κs a x s → Q κs a y t → x ≡ y
