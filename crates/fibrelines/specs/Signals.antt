-- What goes over a fibre.
--   Sends e s r   the end e sends the signal s and is r then; the block of a refused send is marked bad
--   Takes e s r   the end e is r after it took the signal s
--   Marks s m     the signal m is s, marked bad
-- Assumes nothing.
use Rattle.std.specs.Prelude.{◌≡◌, ◌≢◌, ◌↔◌, IsTrue}
use Rattle.answer.specs.declared.Answer.TheVariants.{Done}
use Rattle.fibre.specs.Sending.{send_of}
use Rattle.fibre.specs.Taking.{take_of}
use Rattle.fibre.specs.declared.End.{End}
use Rattle.fibrefields.specs.declared.block.Signal.{Signal}

abbrev pub Sends : End → Signal → End → Type 0
Sends e s r = (IsTrue s.marked ↔ ((send_of e).answer ≢ Done)) × (s.block ≡ (send_of e).block) × (r ≡ (send_of e).end)

abbrev pub Takes : End → Signal → End → Type 0
Takes e s r = r ≡ (take_of e s.marked s.block).end

abbrev pub Marks : Signal → Signal → Type 0
Marks s m = IsTrue m.marked × (m.block ≡ s.block)
