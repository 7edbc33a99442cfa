-- What a contract says, of a call's `Pre` and `Post`: what it asks of its arguments, and of a result what stands in the
-- source.
--   Any P       nothing is asked: any arguments may come
--   Gives Q f   each result that the contract allows is what f gives for the arguments
-- Assumes nothing.
use Rattle.std.specs.Prelude.{◌≡◌}

abbrev pub Any : {K : Type 0} {A : K → Type 0} → ((κs : K) → A κs → Type 0) → Type 0
Any {K} {A} P = (κs : K) (a : A κs) → P κs a

abbrev pub Gives : {K : Type 0} {A R S : K → Type 0} → ((κs : K) → A κs → R κs → S κs → Type 0)
    → ((κs : K) → A κs → R κs) → Type 0
Gives {K} {A} {R} {S} Q f = (κs : K) (a : A κs) (x : R κs) (s : S κs) → Q κs a x s → x ≡ f κs a
