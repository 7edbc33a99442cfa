-- Which of the ten registers a number names, as the code decides it.
--   Names r k   the number r names the register k: 3.2308, the i-th of 3.2309 to 3.2312, 3.2313, the i-th of 3.2314 to
--               3.2317 (i from 0); and none where it is a number outside
-- Assumes nothing.
use Rattle.std.specs.Prelude.{ℕ, ◌+◌, ◌<◌, true, ◌≡◌, Option, Some, None}
use Rattle.end.specs.declared.registers.Register.{Register}
use Rattle.end.specs.declared.registers.Register.TheVariants.{Control, Message, Status, Received}
use Rattle.end.specs.Registers.{outside}

abbrev pub Names : ℕ → Option Register → Type 0
Names r (Some Control) = r ≡ 2308
Names r (Some (Message i)) = (r ≡ 2309 + i) × (i < 4)
Names r (Some Status) = r ≡ 2313
Names r (Some (Received i)) = (r ≡ 2314 + i) × (i < 4)
Names r None = outside r ≡ true
