-- Runs in which nothing is harmed, for what cannot come sooner.
--   quiet n     n slots
--   sixteen, requests   the near host writes 8000 (hex) to word 0: bit 15 and nothing else
--   asked       the world after that, from reset
--   crowding    three messages are written. With delays 0 the first one enters with the first block and its PHYT is
--               back with the second; the second one is loaded for the third block; the third one is requested
--   MostTight   so one fewer than most_held is false
-- Assumes nothing.
use Rattle.std.specs.Prelude.{ℕ, ◌-◌, ◌<◌, List, [], ◌∷◌, ◌++◌, replicate}
use Rattle.std.proofs.Common.{arith}
use Rattle.joined.specs.Joined.{Direction, a_to_b, slot, at_near, InTurn}
use Rattle.fibrelink.specs.Link.{World, reset_world, write, sound, Event, step}
use Rattle.fibrelink.specs.Demand.{ByRule, most_held}

abbrev pub quiet : ℕ → List Event
quiet n = replicate n (slot sound sound)

pub sixteen : 0x8000 < 65536
sixteen = omega arith

abbrev pub requests : Direction → Event
requests d = at_near d (write 0 0x8000 sixteen)

abbrev pub asked : Direction → ℕ → ℕ → World
asked d D E = step D E (requests d) reset_world

abbrev pub crowding : List Event
crowding = requests a_to_b ∷ (quiet 2 ++ (requests a_to_b ∷ (quiet 1 ++ (requests a_to_b ∷ []))))

abbrev pub MostTight : Type 0
MostTight = ByRule (λ near far. InTurn (most_held - 1) near.host.accepted far.host.taken) → ⊥
