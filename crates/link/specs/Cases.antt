-- Short runs that show what Link.antt's definitions say, and guard them; proofs/Computed.antt computes them. Message
-- number 5 with bytes 11, 22 (hex) and six zeros goes from a to b, as in cases P7 and P8 of document 01; nothing is
-- marked.
--   sends_five     a's host writes it
--   later n D      the world after that and n slots, with delay D from a to b and none back
--   first_reads n  b's host makes the first n reads of a take
--   control        what a's host would read in 3.2308
--   strange        a side in whose registers stand bytes, all 9, that its host did not write; no run leads to it
--   low, high      the smallest and the largest mark
--   others         calls that are no receive_side reads
--   one_taken, two_sent, forgot  worlds and a side in which a direction is idle again, a second message was sent, a read
--                  of 3.2308 is not in the log
--   five, fits, marks   the message, and that the values that are written, and the marks, are in their ranges
--   Cases          what is true of these runs
-- Assumes nothing.
use Rattle.std.specs.Prelude.{ℕ, ◌≤◌, ◌<◌, true, false, List, [], ◌∷◌, ◌++◌, ◌≡◌, take, drop, replicate}
use Rattle.std.proofs.Common.{arith}
use Rattle.end.specs.Registers.{read_of}
use Rattle.end.specs.Good.{reset_of}
use Rattle.end.specs.Parts.{with_outbox, with_bytes}
use Rattle.link.specs.Link.{Message, Side, World, reset_side, reset_world, a_to_b, b_to_a, Access, read, write}
use Rattle.link.specs.Link.{with_host, hosted}
use Rattle.link.specs.Link.{health, present, Harm, sound, mark, Event, slot, at_a, at_b, run, ruled}
use Rattle.link.specs.Demand.{Idle, unmarked, slots, bound, control_value, Landed}
use Rattle.joined.specs.Rule.{gave, Takes}
use Rattle.link.specs.Tight.{sixteen, quiet, writes}

abbrev pub five : Message
five = record { number = 5; bytes = 0x11 ∷ 0x22 ∷ 0 ∷ 0 ∷ 0 ∷ 0 ∷ 0 ∷ 0 ∷ [] }

pub fits : (0x2211 < 65536) × (0x8500 < 65536) × (0x8600 < 65536) × (0x8540 < 65536) × (0x4433 < 65536)
    × (0x8D00 < 65536)
fits = (omega arith, omega arith, omega arith, omega arith, omega arith, omega arith)

abbrev pub sends_five : List Event
sends_five = at_a (write 2309 0x2211 fits.0) ∷ at_a (write 2308 0x8500 fits.1) ∷ []

abbrev pub later : ℕ → ℕ → World
later n D = run D 0 (sends_five ++ quiet n) reset_world

abbrev pub first_reads : ℕ → List Event
first_reads n =
    take n (at_b (read 2313) ∷ at_b (read 2314) ∷ at_b (read 2315) ∷ at_b (read 2316) ∷ at_b (read 2317) ∷ [])

abbrev pub control : World → ℕ
control w = control_value w.a

abbrev pub strange : Side
strange = with_host reset_side (with_outbox reset_of (with_bytes reset_of.outbox (replicate 8 9))) reset_side.host

pub marks : (512 ≤ 512) × (512 < 1024) × (512 ≤ 1023) × (1023 < 1024)
marks = (omega arith, omega arith, omega arith, omega arith)

abbrev pub low : Harm
low = mark 512 marks.0 marks.1

abbrev pub high : Harm
high = mark 1023 marks.2 marks.3

abbrev pub others : List Event
others =
    at_b (read 2308) ∷ at_b (read 2312) ∷ at_b (read 2318) ∷ at_b (write 2313 0x8000 sixteen) ∷ at_b (health 3)
    ∷ at_b present ∷ []

-- both hosts sent a message and both were acknowledged; b's host took, a's register is full
abbrev pub one_taken : World
one_taken = run 0 0 (sends_five ++ (at_b (write 2308 0x8000 sixteen) ∷ (quiet 25 ++ first_reads 5))) reset_world

-- a second message of a has entered too, with the frame that starts in slot 36
abbrev pub two_sent : World
two_sent = run 0 0 (writes ∷ quiet 23) one_taken

-- a's side, where 3.2308 was read and the log does not say so; no run leads to it
abbrev pub forgot : Side
forgot = with_host (later 25 0).a (read_of (later 25 0).a.end 2308).end (later 25 0).a.host

pub record Cases : Type 0 where
  -- the frame's last symbol brings the message, which is taken by five reads and not by four
  pub accepted : (later 0 0).a.host.accepted ≡ five ∷ []
  pub not_entered : (later 11 0).b.log.entered ≡ []
  pub entered : (later 12 0).b.log.entered ≡ five ∷ []
  pub status : (read_of (later 12 0).b.end 2313).value ≡ 0x8500
  pub four_reads : (run 0 0 (first_reads 4) (later 12 0)).b.host.taken ≡ []
  pub five_reads : (run 0 0 (first_reads 5) (later 12 0)).b.host.taken ≡ five ∷ []
  -- with a delay of one slot it comes one slot later
  pub not_entered_late : (later 12 1).b.log.entered ≡ []
  pub entered_late : (later 13 1).b.log.entered ≡ five ∷ []
  -- a symbol of the frame that arrives marked at b spoils the frame: the message comes with the next one. A mark at a
  -- does not
  pub marked : (run 0 0 (sends_five ++ (slot sound low ∷ quiet 22)) reset_world).b.log.entered ≡ []
  pub marked_next : (run 0 0 (sends_five ++ (slot sound low ∷ quiet 23)) reset_world).b.log.entered ≡ five ∷ []
  pub marked_high : (run 0 0 (sends_five ++ (slot sound high ∷ quiet 22)) reset_world).b.log.entered ≡ []
  pub marked_other : (run 0 0 (sends_five ++ (slot high sound ∷ quiet 11)) reset_world).b.log.entered ≡ five ∷ []
  -- a mark counts at either end, but where nothing arrives; calls are free
  pub marked_at_a : unmarked 0 0 (slot low sound ∷ []) reset_world ≡ false
  pub marked_at_b : unmarked 0 0 (slot sound high ∷ []) reset_world ≡ false
  pub early_mark : unmarked 1 1 (slot low high ∷ []) reset_world ≡ true
  pub early_counts : slots {C = Access} (slot low high ∷ []) ≡ 1
  pub calls_unmarked : unmarked 0 0 (writes ∷ (others ++ quiet 1)) reset_world ≡ true
  -- step 1 acts on the acknowledgement in slot 24
  pub not_acknowledged : (later 24 0).a.log.ack_count ≡ 0
  pub acknowledged : (later 25 0).a.log.ack_count ≡ 1
  -- while b's host takes nothing, the next message is not acknowledged: the bound needs an empty register
  pub untaken : (run 0 0 (writes ∷ quiet (bound 0 0)) (later 25 0)).a.log.ack_count ≡ 1
  -- a second message while one is pending is answered 4 and is not accepted
  pub refused : (run 0 0 (at_a (write 2308 0x8600 fits.2) ∷ []) (later 0 0)).a.host.accepted ≡ five ∷ []
  -- nor do the bytes change that are written while it is pending, which is answered 4
  pub refused_bytes : (run 0 0 (at_a (write 2309 0x4433 fits.4) ∷ []) (later 0 0)).a.host.written
      ≡ 0x2211 ∷ 0 ∷ 0 ∷ 0 ∷ []
  -- nor is one whose write sets a read-only bit, which is answered 10
  pub refused_bits : (run 0 0 (at_a (write 2308 0x8540 fits.3) ∷ []) reset_world).a.host.accepted ≡ []
  -- the last bytes written are accepted, and all four bits of the number: message 13 with 33, 44 (hex) in 3.2311
  pub last_written :
      (run 0 0
      (at_a (write 2311 0x2211 fits.0) ∷ at_a (write 2311 0x4433 fits.4) ∷ at_a (write 2308 0x8D00 fits.5) ∷ [])
      reset_world).a.host.accepted
      ≡ record { number = 13; bytes = 0 ∷ 0 ∷ 0 ∷ 0 ∷ 0x33 ∷ 0x44 ∷ 0 ∷ 0 ∷ [] } ∷ []
  -- and all four are taken
  pub four_bits :
      (run 0 0 (at_a (write 2308 0x8D00 fits.5) ∷ (quiet 12 ++ first_reads 5)) reset_world).b.host.taken
      ≡ record { number = 13; bytes = replicate 8 0 } ∷ []
  -- what counts is what the host wrote, and not what the end has
  pub as_written : (hosted (write 2308 0x8500 fits.1) strange).host.accepted
      ≡ record { number = 5; bytes = replicate 8 0 } ∷ []
  -- Received shows the acknowledgement until 3.2308 is read, which leaves the received toggle: that of the second
  -- message, which is taken too, is 1
  pub not_shown : control (later 24 0) ≡ 0x4500
  pub shown : control (later 25 0) ≡ 0x6500
  pub looked_at : control (run 0 0 (at_a (read 2308) ∷ []) (later 25 0)) ≡ 0x4500
  pub second_shown :
      control (run 0 0 (first_reads 5 ++ (writes ∷ quiet 36)) (later 25 0)) ≡ 0x3000
  -- a direction is idle again once its message is acknowledged and taken, whatever the other one does
  pub idle_again : Idle one_taken.a one_taken.b
  pub near_full : one_taken.a.end.inbox.full ≡ true
  -- a message lands in its own turn; and its host can see it
  pub landed_first : Landed 0 five two_sent.a two_sent.b
  pub not_second : Landed 1 five two_sent.a two_sent.b → ⊥
  pub not_unseen : Landed 0 five forgot (later 25 0).b → ⊥
  -- the rule
  pub take_ruled : ruled a_to_b 0 0 (first_reads 5) (later 12 0) ≡ true
  pub looks_ruled : ruled a_to_b 0 0 (first_reads 1 ++ first_reads 1) (later 0 0) ≡ true
  pub no_message : ruled a_to_b 0 0 (first_reads 2) (later 0 0) ≡ false
  pub out_of_order : ruled a_to_b 0 0 (first_reads 1 ++ (at_b (read 2315) ∷ [])) (later 12 0) ≡ false
  -- slots and other calls may fall between
  pub others_ruled : ruled a_to_b 0 0 (first_reads 2 ++ (quiet 1 ++ (others ++ drop 2 (first_reads 5)))) (later 12 0) ≡ true
  pub others_between :
      (run 0 0 (first_reads 2 ++ (quiet 1 ++ (others ++ drop 2 (first_reads 5)))) (later 12 0)).b.host.taken ≡ five ∷ []
  -- document 01's own rule has takes, one behind the other, and looks without a message
  pub by_document :
      Takes false 2313 4
      (gave 2313 0x8500 ∷ gave 2314 1 ∷ gave 2315 2 ∷ gave 2316 3 ∷ gave 2317 4
      ∷ gave 2313 0x500 ∷ gave 2313 0x8500 ∷ gave 2314 1 ∷ [])
  -- it asks nothing of b's host for the messages that a's host takes, nor the other way round
  pub not_asked : ruled b_to_a 0 0 (first_reads 2) (later 0 0) ≡ true
  pub near_free : ruled a_to_b 0 0 (at_a (read 2317) ∷ []) (later 12 0) ≡ true
  pub near_asked : ruled b_to_a 0 0 (at_a (read 2317) ∷ []) (later 12 0) ≡ false
  -- a second look at 3.2313 begins the take anew: what was read before it does not count
  pub anew_ruled : ruled a_to_b 0 0 (first_reads 3 ++ first_reads 5) (later 12 0) ≡ true
  pub anew : (run 0 0 (first_reads 3 ++ first_reads 5) (later 12 0)).b.host.taken ≡ five ∷ []
