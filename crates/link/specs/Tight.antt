-- The numbers of Demand.antt cannot be smaller. Nothing is marked in these runs; proofs/Computed.antt computes them.
--   quiet n       n slots
--   writes        a's host writes 8000 (hex) to 3.2308: bit 15 and nothing else
--   one_slot, asked, late  the world after one slot; after the write; after one slot less than the bound
--   TooSoon       a run that keeps every premise of the second part, with one slot less than the bound: its message is
--                 not acknowledged; with one slot more it is. Both delays are 1, and one slot passes before the write,
--                 so that a's next frame starts 11 slots after it, the longest wait
--   BoundTight    so with one slot less than the bound, the second part of demand 3 is false
--   crowded       three messages are written. With delays 0 the first one enters in 12 slots and is acknowledged in the
--                 25th, where the second one is loaded; the third one is pending
--   MostTight     all three are held
-- Assumes nothing.
use Rattle.std.specs.Prelude.{ℕ, ◌-◌, ◌<◌, true, List, [], ◌∷◌, ◌++◌, ◌≡◌, length, replicate}
use Rattle.std.proofs.Common.{arith}
use Rattle.link.specs.Link.{World, reset_world, write, accepts_now, sound, Event, slot, at_a, step, run}
use Rattle.link.specs.Demand.{held, most_held, Idle, unmarked, slots, bound, DeliveredIn}

abbrev pub quiet : ℕ → List Event
quiet n = replicate n (slot sound sound)

pub sixteen : 0x8000 < 65536
sixteen = omega arith

abbrev pub writes : Event
writes = at_a (write 2308 0x8000 sixteen)

-- The bound

unfoldable pub one_slot : World
one_slot = run 1 1 (quiet 1) reset_world

unfoldable pub asked : World
asked = step 1 1 writes one_slot

abbrev pub short : ℕ → ℕ → ℕ
short D E = bound D E - 1

unfoldable pub late : World
late = run 1 1 (quiet (short 1 1)) asked

pub record TooSoon : Type 0 where
  pub idle : Idle one_slot.a one_slot.b
  pub accepted : accepts_now 2308 0x8000 one_slot.a.end ≡ true
  pub none_marked : unmarked 1 1 (quiet (short 1 1)) asked ≡ true
  pub slots_are : slots (quiet (short 1 1)) ≡ short 1 1
  pub not_yet : late.a.log.ack_count ≡ 0
  pub one_more : (run 1 1 (quiet (bound 1 1)) asked).a.log.ack_count ≡ 1

abbrev pub BoundTight : Type 0
BoundTight = DeliveredIn short → ⊥

-- Three messages held

unfoldable pub crowded : World
crowded = run 0 0 (writes ∷ (quiet 12 ++ (writes ∷ (quiet 13 ++ (writes ∷ []))))) reset_world

abbrev pub MostTight : Type 0
MostTight = length (held crowded.a crowded.b) ≡ most_held
