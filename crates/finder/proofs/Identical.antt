-- Results that satisfy one contract are identical: for `place` wholly, for `find` in contents and pointer. The ghost
-- name of the reference that `find` returns is the exception: it stands for the borrow in the logic, and no code can
-- tell it. `Post` is the contract as it stands in the source. Assumes nothing.
use mathlib.Core.Path.{◌≡◌, sym, ◌∙◌}
use denote.Ref.{Bor}
use Rattle.laws.specs.Identical.{Identical}
use Rattle.finder.proofs.find.Reads as find
use Rattle.finder.proofs.place.Reads as place

pub place_identical : Identical place.Post
place_identical κs a x y s e f = e ∙ sym f

-- two references that the contract Q allows have the same contents and point to the same place
abbrev pub SameStretch : {K X : Type 0} {A S : K → Type 0} → ((κs : K) → A κs → Bor X → S κs → Type 0) → Type 0
SameStretch {K} {X} {A} {S} Q =
    (κs : K) (a : A κs) (x y : Bor X) (s : S κs) → Q κs a x s → Q κs a y s → (x.now ≡ y.now) × (x.ref_ptr ≡ y.ref_ptr)

pub find_identical : SameStretch find.Post
find_identical κs a x y s e f = (e.0 ∙ sym f.0, λ i. ((e.1.0 ∙ sym f.1.0) i, (e.1.1 ∙ sym f.1.1) i))
