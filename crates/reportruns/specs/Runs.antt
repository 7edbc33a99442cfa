-- Long runs of two ends joined, which proofs/Computed.antt computes with the real ends, frames and CRC. Delays are 0
-- and nothing is marked. Blocks one and two have the bytes 0 to 127 and 128 to 255.
--   cycle          a's host pushes, 24 slots pass, b's host pulls: a message and its acknowledgement take so long
--   crowding, crowded   fourteen parts of block one are taken, number 14 is in b's register, number 15 on its way, and
--                  number 0 of block two is pending; later: it goes on with pulls
--   TwoFewer       two blocks are offered, and none is handed over; the first one is, once its last parts are taken
--   ReportedTight  so in every run at most one fewer is false
--   spliced        a's host does not push: it writes the numbers 0 to 7 of block one and the numbers 8 to 15 of block
--                  two, each as it stands; b's host takes them by the rule
--   Splices        a block is handed over that nobody offered: the taking host cannot tell parts of two blocks apart
--                  where their numbers are in turn
-- Assumes nothing.
use Rattle.std.specs.Prelude.{ℕ, zero, suc, ◌+◌, ◌-◌, ◌*◌, ◌≤◌, ◌<◌, true, List, [], ◌∷◌, ◌++◌, ◌≡◌, take, drop}
use Rattle.std.proofs.Common.{arith}
use Rattle.joined.specs.Joined.{Direction, at_a, at_b}
use Rattle.link.specs.Link.{read, write}
use Rattle.link.specs.Link as link
use Rattle.link.specs.Tight.{quiet as quietly}
use Rattle.report.specs.Sending.{word_of}
use Rattle.report.specs.Taking.{fresh_taking}
use Rattle.reportblocks.specs.Blocks.{IsBlock, given_by, one, one_is, two, two_is}
use Rattle.reportblocks.specs.Carried.{most_missing}
use Rattle.reportlink.specs.Reporting.{World, reset_world, offer, push, pull, Event, run}
use Rattle.reportlink.specs.Demand.{ReportedIn}
use Rattle.reportlink.specs.Cases.{quiet}
use Rattle.reportlink.proofs.Pushing.{word_small}

-- Two blocks missing

abbrev pub cycle : List Event
cycle = at_a push ∷ (quiet 24 ++ (at_b pull ∷ []))

unfoldable pub cycles : ℕ → List Event
cycles zero = []
cycles (suc n) = cycle ++ cycles n

unfoldable pub crowding : List Event
crowding =
    at_a (offer one one_is)
    ∷ (cycles 14 ++ (at_a push ∷ (quiet 24 ++ (at_a push ∷ (quiet 1 ++ (at_a (offer two two_is) ∷ at_a push ∷ []))))))

unfoldable pub crowded : World
crowded = run 0 0 crowding reset_world

unfoldable pub later : World
later = run 0 0 (at_b pull ∷ (quiet 24 ++ (at_b pull ∷ []))) crowded

pub record TwoFewer : Type 0 where
  pub offered : crowded.a.offered ≡ one ∷ two ∷ []
  pub handed : crowded.b.handed ≡ []
  pub handed_later : later.b.handed ≡ one ∷ []

abbrev pub ReportedTight : Type 0
ReportedTight = ¬ ReportedIn (most_missing - 1)

-- Two blocks spliced

-- number n of a block is written and asked for; then 24 slots, and b's host takes it
abbrev pub writes : (b : List ℕ) → IsBlock b → (n : ℕ) → n < 16 → List link.Event
writes b i n h =
    at_a (write 2309 (word_of b n 0) (word_small b i n h 0))
    ∷ at_a (write 2310 (word_of b n 1) (word_small b i n h 1))
    ∷ at_a (write 2311 (word_of b n 2) (word_small b i n h 2))
    ∷ at_a (write 2312 (word_of b n 3) (word_small b i n h 3))
    ∷ at_a (write 2308 (32768 + n * 256) (omega arith))
    ∷ (quietly 24
    ++ (at_b (read 2313) ∷ at_b (read 2314) ∷ at_b (read 2315) ∷ at_b (read 2316) ∷ at_b (read 2317) ∷ []))

-- the numbers from n on, so many of them
unfoldable pub by_hand : (b : List ℕ) → IsBlock b → (n c : ℕ) → n + c ≤ 16 → List link.Event
by_hand b i n zero h = []
by_hand b i n (suc c) h = writes b i n (omega arith) ++ by_hand b i (suc n) c (omega arith)

unfoldable pub direct : List link.Event
direct = by_hand one one_is 0 8 (omega arith) ++ by_hand two two_is 8 8 (omega arith)

unfoldable pub spliced : link.World
spliced = link.run 0 0 direct link.reset_world

pub record Splices : Type 0 where
  pub ruled : (d : Direction) → link.ruled d 0 0 direct link.reset_world ≡ true
  pub handed : given_by fresh_taking spliced.b.host.taken ≡ (take 64 one ++ drop 64 two) ∷ []
