-- Restoring an older record counts as a reset of one side: demand 3 says nothing of a run that goes on with it. Message
-- number 5 with bytes 11, 22 (hex) and six zeros goes from a to b; the delays are 0 and nothing is marked.
--   arrived       it stands in b's receive register, and b's record is copied
--   took_it       b's host takes it
--   restored      b's area holds the copy again
--   Twice         b's host takes it a second time, by the rule: one message was accepted, two were taken
-- Assumes nothing.
use Rattle.std.specs.Prelude.{true, [], ◌∷◌, ◌++◌, ◌≡◌, replicate}
use Rattle.recordspec.specs.Record.{size}
use Rattle.link.specs.Link.{a_to_b}
use Rattle.link.specs.Demand.{InTurn, most_held}
use Rattle.link.specs.Tight.{quiet}
use Rattle.link.specs.Cases.{five, sends_five, first_reads}
use Rattle.recordlink.specs.Joined.{Areas, both_started, with_host, run, ruled}

unfoldable pub arrived : Areas
arrived = run 0 0 (sends_five ++ quiet 12) (both_started (replicate size 0) (replicate size 0))

unfoldable pub took_it : Areas
took_it = run 0 0 (first_reads 5) arrived

abbrev pub restored : Areas
restored = record { a = took_it.a; b = with_host took_it.b arrived.b.bytes took_it.b.host }

unfoldable pub took_again : Areas
took_again = run 0 0 (first_reads 5) restored

pub record Twice : Type 0 where
  pub once : took_it.b.host.taken ≡ five ∷ []
  pub by_rule : ruled a_to_b 0 0 (first_reads 5) restored ≡ true
  pub accepted : took_again.a.host.accepted ≡ five ∷ []
  pub taken : took_again.b.host.taken ≡ five ∷ five ∷ []
  pub not_in_turn : InTurn most_held took_again.a.host.accepted took_again.b.host.taken → ⊥
