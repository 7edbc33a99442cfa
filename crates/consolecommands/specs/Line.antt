-- A line between two ends. What is sent in a slot arrives `delay` slots later, and a mark is used up by what arrives.
--   arrival_of l now  what arrives in the slot `now`: nothing before the first delay is over, else what was sent in the
--                     slot `delay` before, marked where marks are left
--   after_of l now     the line after that slot
-- Assumes nothing.
use Rattle.std.specs.Prelude.{ℕ, ◌-◌, cond, ltb}
use Rattle.consolecommands.specs.declared.line.Arrival.{Arrival}
use Rattle.consolecommands.specs.declared.line.Arrival.TheVariants.{Nothing, Sound, Marked}
use Rattle.consolecommands.specs.declared.line.Line.{Line}

abbrev pub arrival_of : Line → ℕ → Arrival
arrival_of l now =
    cond (ltb now l.delay)
    Nothing
    (cond (ltb 0 l.marks) (Marked (now - l.delay)) (Sound (now - l.delay)))

abbrev pub after_of : Line → ℕ → Line
after_of l now = record { delay = l.delay; marks = cond (ltb now l.delay) l.marks (l.marks - 1) }
