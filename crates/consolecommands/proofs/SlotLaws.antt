-- A link's slots, one at a time.
--   slots_none   in no slot a link stays
--   slots_more   one slot more
-- Assumes nothing.
use Rattle.std.proofs.Common.{ℕ, ◌+◌, refl, add-one}
use Rattle.consolecommands.specs.Slots.{Slot, Slots, State}

pub slots_none : {E S : Type 0} (sends takes : E → S → E → Type 0) (marks : S → S → Type 0) (x : State E S) → Slots sends takes marks 0 x x
unfolding Slots
slots_none sends takes marks x = refl

pub slots_more : {E S : Type 0} (sends takes : E → S → E → Type 0) (marks : S → S → Type 0) (n : ℕ) (x y z : State E S) → Slots sends takes marks n x y → Slot sends takes marks y z → Slots sends takes marks (n + 1) x z
unfolding Slots
slots_more sends takes marks n x y z e s = rw add-one (y, e, s)
