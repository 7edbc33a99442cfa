-- Computed cases, worked out by hand from request #110 (specs/Worked.antt has the hosts and the message that they start
-- from): the whole result of each step. Of an end nothing is known but what it answers and what it gives to a read.
--   fresh-*      hosts at the beginning
--   offer-*      while a block is under way, and while none is
--   push-*       a part, and what is refused
--   take-*       in turn, out of turn, and numbers and turns that no message has
--   pull-*       a message, none, and what is refused
-- Assumes nothing.
use Prim.Native.Nat.{ℕ, ◌+◌, ◌-◌, ◌*◌}
use mathlib.Core.List.{List, [], ◌∷◌, ◌++◌, map}
use mathlib.Core.Path.{◌≡◌, refl}
use lib.ListN.{replicate}
use Rattle.crc.specs.Bits.{odd}
use Rattle.answer.specs.declared.Answer.TheVariants.{Done, BadEnd, Blocked, ReadOnlyBits}
use Rattle.answer.specs.Number.{number_of}
use Rattle.end.specs.declared.End.{End}
use Rattle.end.specs.Registers.{read_of, write_of}
use Rattle.report.specs.declared.Push.TheVariants.{Idle, Waits, Refused as RefusedWrite, Part as Pushes}
use Rattle.report.specs.declared.Take.TheVariants.{Part, Out, Whole}
use Rattle.report.specs.declared.Pull.TheVariants.{Refused as RefusedRead, Empty, Took}
use Rattle.report.specs.Sending.{word_of, then_write, written_of, fresh_sending, offer_of, pushed_by, push_of}
use Rattle.report.specs.Taking.{fresh_taking, take_of, pulled_by, pull_of}
use Rattle.report.specs.Counting.{counting}
use Rattle.report.specs.Worked.{sending_at, taking_at, worked}

none : List ℕ
none = replicate 128 0

-- At the beginning

fresh_sending_lem : fresh_sending ≡ record { block = replicate 128 0; next = 16 }
fresh_sending_lem = refl

fresh_taking_lem : fresh_taking ≡ record { block = replicate 128 0; turn = 0 }
fresh_taking_lem = refl

-- Offer

offer_each : map (λ n. offer_of (sending_at n) (counting 128 128)) (counting 0 256)
    ≡ map (λ n. record { answer = Blocked; host = sending_at n }) (counting 0 16)
    ++ map (λ n. record { answer = Done; host = record { block = counting 128 128; next = 0 } }) (counting 16 240)
unfolding offer_of
offer_each = refl

offer_numbers : map (λ n. number_of (offer_of (sending_at n) (counting 128 128)).answer) (15 ∷ 16 ∷ []) ≡ 4 ∷ 0 ∷ []
unfolding offer_of
offer_numbers = refl

-- Push

push_idle : (e : End)
    → map (λ n. push_of (sending_at n) e) (counting 16 240)
    ≡ map (λ n. record { what = Idle; host = sending_at n; end = e }) (counting 16 240)
unfolding push_of
push_idle e = refl

-- the five writes of each number
push_writes : (e : End)
    → map (λ n. written_of (counting 0 128) n e) (counting 0 16)
    ≡ map (λ n. then_write 2308 (0x8000 + 0x100 * n)
    (then_write 2312 (8 * n + 6 + (8 * n + 7) * 256)
    (then_write 2311 (8 * n + 4 + (8 * n + 5) * 256)
    (then_write 2310 (8 * n + 2 + (8 * n + 3) * 256)
    (write_of e 2309 (8 * n + (8 * n + 1) * 256))))))
    (counting 0 16)
push_writes e = refl

-- what the answer to them makes of each number
push_next : (e : End)
    → map (λ n. pushed_by (sending_at n) (record { answer = Done; end = e })) (counting 0 16)
    ≡ map (λ n. record { what = Pushes n; host = sending_at (n + 1); end = e }) (counting 0 16)
push_next e = refl

push_stays : (e : End)
    → map (λ n. pushed_by (sending_at n) (record { answer = Blocked; end = e })) (counting 0 16)
    ≡ map (λ n. record { what = Waits; host = sending_at n; end = e }) (counting 0 16)
push_stays e = refl

-- the words of the numbers 0 to 15, the even byte of a register in its bits 7:0
push_words : map (λ n. map (word_of (counting 0 128) n) (0 ∷ 1 ∷ 2 ∷ 3 ∷ [])) (counting 0 16)
    ≡ (0x0100 ∷ 0x0302 ∷ 0x0504 ∷ 0x0706 ∷ [])
    ∷ (0x0908 ∷ 0x0B0A ∷ 0x0D0C ∷ 0x0F0E ∷ [])
    ∷ (0x1110 ∷ 0x1312 ∷ 0x1514 ∷ 0x1716 ∷ [])
    ∷ (0x1918 ∷ 0x1B1A ∷ 0x1D1C ∷ 0x1F1E ∷ [])
    ∷ (0x2120 ∷ 0x2322 ∷ 0x2524 ∷ 0x2726 ∷ [])
    ∷ (0x2928 ∷ 0x2B2A ∷ 0x2D2C ∷ 0x2F2E ∷ [])
    ∷ (0x3130 ∷ 0x3332 ∷ 0x3534 ∷ 0x3736 ∷ [])
    ∷ (0x3938 ∷ 0x3B3A ∷ 0x3D3C ∷ 0x3F3E ∷ [])
    ∷ (0x4140 ∷ 0x4342 ∷ 0x4544 ∷ 0x4746 ∷ [])
    ∷ (0x4948 ∷ 0x4B4A ∷ 0x4D4C ∷ 0x4F4E ∷ [])
    ∷ (0x5150 ∷ 0x5352 ∷ 0x5554 ∷ 0x5756 ∷ [])
    ∷ (0x5958 ∷ 0x5B5A ∷ 0x5D5C ∷ 0x5F5E ∷ [])
    ∷ (0x6160 ∷ 0x6362 ∷ 0x6564 ∷ 0x6766 ∷ [])
    ∷ (0x6968 ∷ 0x6B6A ∷ 0x6D6C ∷ 0x6F6E ∷ [])
    ∷ (0x7170 ∷ 0x7372 ∷ 0x7574 ∷ 0x7776 ∷ [])
    ∷ (0x7978 ∷ 0x7B7A ∷ 0x7D7C ∷ 0x7F7E ∷ []) ∷ []
push_words = refl

-- the bytes of number 1 are 8 to 15

module _ (e : End) where
  after_one : End
  after_one = (write_of e 2309 0x0908).end

  after_two : End
  after_two = (write_of after_one 2310 0x0B0A).end

  after_three : End
  after_three = (write_of after_two 2311 0x0D0C).end

  after_four : End
  after_four = (write_of after_three 2312 0x0F0E).end

  -- all five writes are answered 0: number 1 is accepted, and number 2 is next
  push_part : (write_of e 2309 0x0908).answer ≡ Done → (write_of after_one 2310 0x0B0A).answer ≡ Done
      → (write_of after_two 2311 0x0D0C).answer ≡ Done
      → (write_of after_three 2312 0x0F0E).answer ≡ Done
      → (write_of after_four 2308 0x8100).answer ≡ Done
      → push_of (sending_at 1) e
      ≡ record { what = Pushes 1; host = sending_at 2; end = (write_of after_four 2308 0x8100).end }
  unfolding push_of after_one after_two after_three after_four
  push_part a b c d f = rw (a, b, c, d, f)

  -- answer 4 to the first write: the host waits, and is where it was
  push_waits : (write_of e 2309 0x0908).answer ≡ Blocked
      → push_of (sending_at 1) e ≡ record { what = Waits; host = sending_at 1; end = after_one }
  unfolding push_of after_one
  push_waits a = rw a

  -- any other refusal says so, also of a later write
  push_refused : (write_of e 2309 0x0908).answer ≡ BadEnd
      → push_of (sending_at 1) e ≡ record { what = RefusedWrite BadEnd; host = sending_at 1; end = after_one }
  unfolding push_of after_one
  push_refused a = rw a

  push_refused_late : (write_of e 2309 0x0908).answer ≡ Done → (write_of after_one 2310 0x0B0A).answer ≡ Done
      → (write_of after_two 2311 0x0D0C).answer ≡ Done
      → (write_of after_three 2312 0x0F0E).answer ≡ Done
      → (write_of after_four 2308 0x8100).answer ≡ ReadOnlyBits
      → push_of (sending_at 1) e
      ≡ record {
        what = RefusedWrite ReadOnlyBits;
        host = sending_at 1;
        end = (write_of after_four 2308 0x8100).end;
      }
  unfolding push_of after_one after_two after_three after_four
  push_refused_late a b c d f = rw (a, b, c, d, f)

-- Take

take_first : take_of (taking_at 0) 0 worked
    ≡ record { what = Part 0; block = none; host = record { block = worked ++ counting 8 120; turn = 1 } }
unfolding take_of none
take_first = refl

take_third : take_of (taking_at 3) 3 worked
    ≡ record {
      what = Part 3;
      block = none;
      host = record { block = counting 0 24 ++ (worked ++ counting 32 96); turn = 4 };
    }
unfolding take_of none
take_third = refl

take_fourteen : take_of (taking_at 14) 14 worked
    ≡ record {
      what = Part 14;
      block = none;
      host = record { block = counting 0 112 ++ (worked ++ counting 120 8); turn = 15 };
    }
unfolding take_of none
take_fourteen = refl

-- the last one in turn: the block is handed over, and a fresh one begins
take_last : take_of (taking_at 15) 15 worked
    ≡ record { what = Whole; block = counting 0 120 ++ worked; host = record { block = none; turn = 0 } }
unfolding take_of none
take_last = refl

-- out of turn the part block is dropped; a 0 starts the next
take_start : take_of (taking_at 5) 0 worked
    ≡ record { what = Part 0; block = none; host = record { block = worked ++ replicate 120 0; turn = 1 } }
unfolding take_of none
take_start = refl

take_out : map (λ n. take_of (taking_at 5) n worked) (4 ∷ 6 ∷ 15 ∷ 16 ∷ 255 ∷ [])
    ≡ map (λ n. record { what = Out n; block = none; host = record { block = none; turn = 0 } })
    (4 ∷ 6 ∷ 15 ∷ 16 ∷ 255 ∷ [])
unfolding take_of none
take_out = refl

-- the turn after each number, in a row for each turn: a 0 starts, the number in turn goes on, 15 in turn and every other
-- number leave a fresh host
take_turns : map (λ t. map (λ n. (take_of (taking_at t) n worked).host.turn) (counting 0 16)) (counting 0 16)
    ≡ (1 ∷ 0 ∷ 0 ∷ 0 ∷ 0 ∷ 0 ∷ 0 ∷ 0 ∷ 0 ∷ 0 ∷ 0 ∷ 0 ∷ 0 ∷ 0 ∷ 0 ∷ 0 ∷ [])
    ∷ (1 ∷ 2 ∷ 0 ∷ 0 ∷ 0 ∷ 0 ∷ 0 ∷ 0 ∷ 0 ∷ 0 ∷ 0 ∷ 0 ∷ 0 ∷ 0 ∷ 0 ∷ 0 ∷ [])
    ∷ (1 ∷ 0 ∷ 3 ∷ 0 ∷ 0 ∷ 0 ∷ 0 ∷ 0 ∷ 0 ∷ 0 ∷ 0 ∷ 0 ∷ 0 ∷ 0 ∷ 0 ∷ 0 ∷ [])
    ∷ (1 ∷ 0 ∷ 0 ∷ 4 ∷ 0 ∷ 0 ∷ 0 ∷ 0 ∷ 0 ∷ 0 ∷ 0 ∷ 0 ∷ 0 ∷ 0 ∷ 0 ∷ 0 ∷ [])
    ∷ (1 ∷ 0 ∷ 0 ∷ 0 ∷ 5 ∷ 0 ∷ 0 ∷ 0 ∷ 0 ∷ 0 ∷ 0 ∷ 0 ∷ 0 ∷ 0 ∷ 0 ∷ 0 ∷ [])
    ∷ (1 ∷ 0 ∷ 0 ∷ 0 ∷ 0 ∷ 6 ∷ 0 ∷ 0 ∷ 0 ∷ 0 ∷ 0 ∷ 0 ∷ 0 ∷ 0 ∷ 0 ∷ 0 ∷ [])
    ∷ (1 ∷ 0 ∷ 0 ∷ 0 ∷ 0 ∷ 0 ∷ 7 ∷ 0 ∷ 0 ∷ 0 ∷ 0 ∷ 0 ∷ 0 ∷ 0 ∷ 0 ∷ 0 ∷ [])
    ∷ (1 ∷ 0 ∷ 0 ∷ 0 ∷ 0 ∷ 0 ∷ 0 ∷ 8 ∷ 0 ∷ 0 ∷ 0 ∷ 0 ∷ 0 ∷ 0 ∷ 0 ∷ 0 ∷ [])
    ∷ (1 ∷ 0 ∷ 0 ∷ 0 ∷ 0 ∷ 0 ∷ 0 ∷ 0 ∷ 9 ∷ 0 ∷ 0 ∷ 0 ∷ 0 ∷ 0 ∷ 0 ∷ 0 ∷ [])
    ∷ (1 ∷ 0 ∷ 0 ∷ 0 ∷ 0 ∷ 0 ∷ 0 ∷ 0 ∷ 0 ∷ 10 ∷ 0 ∷ 0 ∷ 0 ∷ 0 ∷ 0 ∷ 0 ∷ [])
    ∷ (1 ∷ 0 ∷ 0 ∷ 0 ∷ 0 ∷ 0 ∷ 0 ∷ 0 ∷ 0 ∷ 0 ∷ 11 ∷ 0 ∷ 0 ∷ 0 ∷ 0 ∷ 0 ∷ [])
    ∷ (1 ∷ 0 ∷ 0 ∷ 0 ∷ 0 ∷ 0 ∷ 0 ∷ 0 ∷ 0 ∷ 0 ∷ 0 ∷ 12 ∷ 0 ∷ 0 ∷ 0 ∷ 0 ∷ [])
    ∷ (1 ∷ 0 ∷ 0 ∷ 0 ∷ 0 ∷ 0 ∷ 0 ∷ 0 ∷ 0 ∷ 0 ∷ 0 ∷ 0 ∷ 13 ∷ 0 ∷ 0 ∷ 0 ∷ [])
    ∷ (1 ∷ 0 ∷ 0 ∷ 0 ∷ 0 ∷ 0 ∷ 0 ∷ 0 ∷ 0 ∷ 0 ∷ 0 ∷ 0 ∷ 0 ∷ 14 ∷ 0 ∷ 0 ∷ [])
    ∷ (1 ∷ 0 ∷ 0 ∷ 0 ∷ 0 ∷ 0 ∷ 0 ∷ 0 ∷ 0 ∷ 0 ∷ 0 ∷ 0 ∷ 0 ∷ 0 ∷ 15 ∷ 0 ∷ [])
    ∷ (1 ∷ 0 ∷ 0 ∷ 0 ∷ 0 ∷ 0 ∷ 0 ∷ 0 ∷ 0 ∷ 0 ∷ 0 ∷ 0 ∷ 0 ∷ 0 ∷ 0 ∷ 0 ∷ []) ∷ []
unfolding take_of
take_turns = refl

-- in turn the message stands in its place, whichever it is, and all other bytes stay
take_each : map (λ n. take_of (taking_at n) n worked) (counting 0 15)
    ≡ map (λ n. record {
      what = Part n;
      block = none;
      host = record { block = counting 0 (8 * n) ++ (worked ++ counting (8 * n + 8) (120 - 8 * n)); turn = n + 1 };
    })
    (counting 0 15)
unfolding take_of none
take_each = refl

-- out of turn, behind the turn and before it
take_out_each : map (λ t. map (λ n. take_of (taking_at t) n worked) (counting (t + 1) 18 ++ (200 ∷ 255 ∷ []))) (counting 0 18)
    ≡ map (λ t. map (λ n. record { what = Out n; block = none; host = record { block = none; turn = 0 } })
    (counting (t + 1) 18 ++ (200 ∷ 255 ∷ []))) (counting 0 18)
unfolding take_of none
take_out_each = refl

take_out_before : map (λ t. map (λ n. take_of (taking_at t) n worked) (counting 1 (t - 1))) (counting 2 30)
    ≡ map (λ t. map (λ n. record { what = Out n; block = none; host = record { block = none; turn = 0 } })
    (counting 1 (t - 1))) (counting 2 30)
unfolding take_of none
take_out_before = refl

-- a 0 starts, whatever number above 0 is in turn
take_start_each : map (λ t. take_of (taking_at t) 0 worked) (counting 1 255)
    ≡ map (λ t. record { what = Part 0; block = none; host = record { block = worked ++ replicate 120 0; turn = 1 } })
    (counting 1 255)
unfolding take_of none
take_start_each = refl

-- nothing is handed over but by 15 in turn
take_handed : map (λ t. map (λ n. (take_of (taking_at t) n worked).block) (counting 0 15)) (counting 0 16)
    ≡ replicate 16 (replicate 15 (replicate 128 0))
unfolding take_of
take_handed = refl

-- no number above 15 is in turn, whatever the turn
take_beyond : map (λ n. take_of (taking_at n) n worked) (counting 16 240)
    ≡ map (λ n. record { what = Out n; block = none; host = record { block = none; turn = 0 } }) (counting 16 240)
unfolding take_of none
take_beyond = refl

take_out_beyond : map (λ n. take_of (taking_at 5) n worked) (counting 16 240)
    ≡ map (λ n. record { what = Out n; block = none; host = record { block = none; turn = 0 } }) (counting 16 240)
unfolding take_of none
take_out_beyond = refl

-- Pull

module _ (e : End) where
  status : End
  status = (read_of e 2313).end

  one_read : End
  one_read = (read_of status 2314).end

  two_read : End
  two_read = (read_of one_read 2315).end

  three_read : End
  three_read = (read_of two_read 2316).end

  -- every other bit of 3.2313 is set, and bit 15 is not
  pull_empty : (read_of e 2313).answer ≡ Done → (read_of e 2313).value ≡ 0x7FFF
      → pull_of (taking_at 3) e ≡ record { what = Empty; block = none; host = taking_at 3; end = status }
  unfolding pull_of odd none status
  pull_empty a v = rw (a, v)

  -- bit 15 and number 3; the bytes 200 to 207
  pull_part : (read_of e 2313).answer ≡ Done → (read_of e 2313).value ≡ 0x8300 → (read_of status 2314).value ≡ 0xC9C8
      → (read_of one_read 2315).value ≡ 0xCBCA
      → (read_of two_read 2316).value ≡ 0xCDCC
      → (read_of three_read 2317).value ≡ 0xCFCE
      → pull_of (taking_at 3) e
      ≡ record {
        what = Took (Part 3);
        block = none;
        host = record { block = counting 0 24 ++ (worked ++ counting 32 96); turn = 4 };
        end = (read_of three_read 2317).end;
      }
  unfolding pull_of take_of odd none status one_read two_read three_read
  pull_part a v b c d f = rw (a, v, b, c, d, f)

  pull_block : (read_of e 2313).answer ≡ Done → (read_of e 2313).value ≡ 0xFFFF → (read_of status 2314).value ≡ 0xC9C8
      → (read_of one_read 2315).value ≡ 0xCBCA
      → (read_of two_read 2316).value ≡ 0xCDCC
      → (read_of three_read 2317).value ≡ 0xCFCE
      → pull_of (taking_at 15) e
      ≡ record {
        what = Took Whole;
        block = counting 0 120 ++ worked;
        host = record { block = none; turn = 0 };
        end = (read_of three_read 2317).end;
      }
  unfolding pull_of take_of odd none status one_read two_read three_read
  pull_block a v b c d f = rw (a, v, b, c, d, f)

  pull_refused : (read_of e 2313).answer ≡ BadEnd
      → pull_of (taking_at 3) e ≡ record { what = RefusedRead BadEnd; block = none; host = taking_at 3; end = status }
  unfolding pull_of none status
  pull_refused a = rw a

-- whatever number is in turn
pull_empty_each : (e : End)
    → map (λ t. pulled_by (taking_at t) (record { answer = Done; value = 0x7FFF; end = e })) (counting 0 17)
    ≡ map (λ t. record { what = Empty; block = none; host = taking_at t; end = e }) (counting 0 17)
unfolding none odd
pull_empty_each e = refl

pull_refused_each : (e : End)
    → map (λ t. pulled_by (taking_at t) (record { answer = BadEnd; value = 0xFFFF; end = e })) (counting 0 17)
    ≡ map (λ t. record { what = RefusedRead BadEnd; block = none; host = taking_at t; end = e }) (counting 0 17)
unfolding none
pull_refused_each e = refl

-- the number is bits 11:8 of the value
pull_number_each : (e : End)
    → map (λ n. (pulled_by (taking_at n) (record { answer = Done; value = 0x8000 + 0x100 * n; end = e })).what) (counting 0 16)
    ≡ map (λ n. Took (Part n)) (counting 0 15) ++ (Took Whole ∷ [])
unfolding take_of odd
pull_number_each e = refl
