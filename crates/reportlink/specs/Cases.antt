-- Short runs of two reporting hosts, which proofs/Computed.antt computes with the real ends, frames and CRC. Block one,
-- of the bytes 0 to 127, goes from a to b; delays are 0.
--   begun            a's host has offered it, and made one step
--   quiet n, later n   n slots; after that and n slots
--   pulled n         b's host has made a step then
--   small, pings     values in their ranges; a write that sets PingTx alone is no message
--   Cases            what is true of these runs
-- Assumes nothing.
use Rattle.std.specs.Prelude.{ℕ, ◌≤◌, ◌<◌, true, false, List, [], ◌∷◌, ◌++◌, ◌≡◌, refl, drop, replicate}
use Rattle.std.proofs.Common.{arith}
use Rattle.crc.specs.Bits.{odd}
use Rattle.joined.specs.Joined.{slot, at_a, at_b}
use Rattle.end.specs.Registers.{read_of}
use Rattle.link.specs.Link.{read, write, health, present, sound, mark}
use Rattle.report.specs.Sending.{fresh_sending}
use Rattle.report.specs.Taking.{fresh_taking}
use Rattle.reportblocks.specs.Blocks.{counting, message_of, messages_of, one, one_is}
use Rattle.reportlink.specs.Reporting.{World, reset_world, besides, offer, push, pull, other, Event, run}
use Rattle.reportlink.specs.Demand.{still}

abbrev pub begun : World
begun = run 0 0 (at_a (offer one one_is) ∷ at_a push ∷ []) reset_world

abbrev pub quiet : ℕ → List Event
quiet n = replicate n (slot sound sound)

abbrev pub later : ℕ → World
later n = run 0 0 (quiet n) begun

abbrev pub pulled : ℕ → World
pulled n = run 0 0 (at_b pull ∷ []) (later n)

pub small : (0x8000 < 65536) × (0x0004 < 65536) × (512 ≤ 512) × (512 < 1024)
small = (omega arith, omega arith, omega arith, omega arith)

pub pings : besides (write 2308 0x0004 small.1) ≡ true
unfolding odd
pings = refl

pub record Cases : Type 0 where
  -- both hosts begin fresh
  pub fresh_hosts : (reset_world.a.sending ≡ fresh_sending) × (reset_world.b.sending ≡ fresh_sending)
  -- a block counts as offered when its number 0 is accepted
  pub asked : (run 0 0 (at_a (offer one one_is) ∷ []) reset_world).a.asked ≡ one ∷ []
  pub not_offered : (run 0 0 (at_a (offer one one_is) ∷ []) reset_world).a.offered ≡ []
  pub offered : begun.a.offered ≡ one ∷ []
  pub accepted : begun.a.side.host.accepted ≡ message_of one 0 ∷ []
  pub next : begun.a.sending.next ≡ 1
  pub still_to_send : still begun.a.sending ≡ drop 1 (messages_of one)
  pub control : (read_of begun.a.side.end 2308).value ≡ 0x8000
  -- a second step at once waits, and nothing changes; a second offer is refused
  pub waits : run 0 0 (at_a push ∷ []) begun ≡ begun
  pub refused : run 0 0 (at_a (offer one one_is) ∷ []) begun ≡ begun
  -- number 1, when the frame of number 0 has begun, counts as no second block
  pub goes_on : (run 0 0 (at_a push ∷ []) (later 1)).a.sending.next ≡ 2
  pub one_offered : (run 0 0 (at_a push ∷ []) (later 1)).a.offered ≡ one ∷ []
  -- the frame's last symbol brings the message; a step of b's host before it takes nothing
  pub too_soon : (pulled 11).b.taking ≡ fresh_taking
  pub none_taken : (pulled 11).b.side.host.taken ≡ []
  pub part : (pulled 12).b.taking ≡ record { block = counting 0 8 ++ replicate 120 0; turn = 1 }
  pub taken : (pulled 12).b.side.host.taken ≡ message_of one 0 ∷ []
  pub not_handed : (pulled 12).b.handed ≡ []
  -- it is taken once
  pub empty : (run 0 0 (at_b pull ∷ []) (pulled 12)).b.side.host.taken ≡ message_of one 0 ∷ []
  -- where a symbol is marked, the message comes with the next frame
  pub marked :
      (run 0 0 (slot sound (mark 512 small.2 small.3) ∷ (quiet 11 ++ (at_b pull ∷ []))) begun).b.taking ≡ fresh_taking
  pub marked_then :
      (run 0 0 (slot sound (mark 512 small.2 small.3) ∷ (quiet 23 ++ (at_b pull ∷ []))) begun).b.taking
      ≡ record { block = counting 0 8 ++ replicate 120 0; turn = 1 }
  -- the other way round too, and both at once
  pub back :
      (run 0 0 (at_b (offer one one_is) ∷ at_b push ∷ (quiet 12 ++ (at_a pull ∷ at_b pull ∷ []))) begun).a.taking
      ≡ record { block = counting 0 8 ++ replicate 120 0; turn = 1 }
  -- other calls
  pub may_look : besides (read 2313) ≡ true
  pub may_read : besides (read 2318) ≡ true
  pub not_first : besides (read 2314) ≡ false
  pub not_last : besides (read 2317) ≡ false
  pub may_ping : besides (write 2308 0x0004 small.1) ≡ true
  pub not_ask : besides (write 2308 0x8000 small.0) ≡ false
  pub may_write : besides (write 2309 0x8000 small.0) ≡ true
  pub may_health : besides (health 3) ≡ true
  pub may_ask : besides present ≡ true
  -- and what they do: bytes that are written and read back, PingTx, the health to send
  pub other_bytes :
      (read_of (run 0 0 (at_a (other (write 2310 0x8000 small.0) refl) ∷ []) reset_world).a.side.end 2310).value ≡ 0x8000
  pub other_ping :
      (read_of (run 0 0 (at_b (other (write 2308 0x0004 small.1) pings) ∷ []) reset_world).b.side.end 2308).value ≡ 0x0004
  pub other_health :
      (read_of (run 0 0 (at_a (other (health 3) refl) ∷ quiet 1) reset_world).a.side.end 2308).value ≡ 0x0003
  -- bytes that were written between two steps are not those of the next part
  pub other_between :
      (run 0 0 (at_a (other (write 2310 0x8000 small.0) refl) ∷ at_a push ∷ []) (later 1)).a.side.host.accepted
      ≡ message_of one 0 ∷ message_of one 1 ∷ []
