-- Computed cases, worked out by hand from request #109 (see specs/Worked.antt for the end that they start from).
--   worked-*    what each call gives and does, with each bool set alone, or with one more
--   whole-*     the whole end after each call: what the call does not name stays
--   limit-*     controls of 4,095 and 4,096, in each of the calls
--   reset-*     after reset all is 0
--   first-*     a message on its way from one end to the other after reset, and what both hosts read
--   second-*    the next message, while the first one is not read yet
--   calls-*     calls in a row
-- Assumes nothing.
use mathlib.Core.Bool.{Bool, true, false, not, ◌||◌}
use Prim.Native.Nat.{ℕ}
use mathlib.Core.List.{List, [], ◌∷◌, ◌++◌, map}
use mathlib.Core.Path.{◌≡◌, refl}
use native.Mathlib.Omega.{arith}
use lib.Dec.{eqb}
use lib.ListN.{get_or, replicate}
use Rattle.answer.specs.Number.{number_of}
use Rattle.crc.specs.Bits.{odd}
use Rattle.fibre.specs.declared.End.{End}
use Rattle.fibre.specs.declared.Next.{Next}
use Rattle.fibre.specs.Calls.{Call, calls, reached}
use Rattle.fibre.specs.Good.{bad, reset_of}
use Rattle.fibre.specs.Sending.{send_of}
use Rattle.fibre.specs.Taking.{take_of}
use Rattle.fibre.specs.Words.{read_of, write_of}
use Rattle.fibre.specs.Worked.{limited, worked, none, alone, two, each, with, block, brought, toggles}
use Rattle.fibre.specs.Worked.{controls, eight, numbers, listed}

-- Read

-- word 0: TXREQ, PHYT, MERT, MSGT
worked_control : each (λ b. (read_of (worked b) 0).value)
    ≡ 0x0123 ∷ 0x8123 ∷ 0x4123 ∷ 0x2123 ∷ 0x1123 ∷ 0x0123 ∷ 0x0123 ∷ 0x0123 ∷ 0x0123 ∷ []
unfolding bad read_of
worked_control = refl

-- word 9: RXVAL, toggle
worked_status : each (λ b. (read_of (worked b) 9).value)
    ≡ 0x0789 ∷ 0x0789 ∷ 0x0789 ∷ 0x0789 ∷ 0x0789 ∷ 0x0789 ∷ 0x0789 ∷ 0x8789 ∷ 0x1789 ∷ []
unfolding bad read_of
worked_status = refl

worked_words : map (λ w. (read_of (worked none) w).value)
    (1 ∷ 2 ∷ 3 ∷ 4 ∷ 5 ∷ 6 ∷ 7 ∷ 8 ∷ 10 ∷ 11 ∷ 12 ∷ 13 ∷ 14 ∷ 15 ∷ 16 ∷ 17 ∷ [])
    ≡ 0x1001 ∷ 0x1002 ∷ 0x1003 ∷ 0x1004 ∷ 0x1005 ∷ 0x1006 ∷ 0x1007 ∷ 0x1008
    ∷ 0x3001 ∷ 0x3002 ∷ 0x3003 ∷ 0x3004 ∷ 0x3005 ∷ 0x3006 ∷ 0x3007 ∷ 0x3008 ∷ []
unfolding bad read_of
worked_words = refl

-- reading word 17 drops RXVAL; word 16 does not
worked_last : each (λ b. toggles (read_of (worked b) 17).end)
    ≡ 0x00 ∷ 0x80 ∷ 0x40 ∷ 0x20 ∷ 0x10 ∷ 0x08 ∷ 0x04 ∷ 0x00 ∷ 0x01 ∷ []
unfolding bad read_of
worked_last = refl

worked_not_last : each (λ b. toggles (read_of (worked b) 16).end)
    ≡ 0x00 ∷ 0x80 ∷ 0x40 ∷ 0x20 ∷ 0x10 ∷ 0x08 ∷ 0x04 ∷ 0x02 ∷ 0x01 ∷ []
unfolding bad read_of
worked_not_last = refl

-- with RXVAL and one more: the sent MERT becomes the receive toggle
worked_emptied : with 6 (λ b. toggles (read_of (worked b) 17).end)
    ≡ 0x80 ∷ 0x40 ∷ 0x20 ∷ 0x10 ∷ 0x08 ∷ 0x00 ∷ 0x00 ∷ 0x05 ∷ []
unfolding bad read_of
worked_emptied = refl

-- Send

-- with TXREQ alone PHYT equals MSGT: MSGT rises, TXREQ falls
worked_sent : each (λ b. toggles (send_of (worked b)).end)
    ≡ 0x00 ∷ 0x10 ∷ 0x40 ∷ 0x20 ∷ 0x10 ∷ 0x08 ∷ 0x04 ∷ 0x02 ∷ 0x01 ∷ []
unfolding bad send_of
worked_sent = refl

-- with TXREQ and one more: PHYT or MSGT alone keep it waiting, MERT does not
worked_requested : with 0 (λ b. toggles (send_of (worked b)).end)
    ≡ 0x10 ∷ 0xC0 ∷ 0x30 ∷ 0x90 ∷ 0x18 ∷ 0x14 ∷ 0x12 ∷ 0x11 ∷ []
unfolding bad send_of
worked_requested = refl

-- with TXREQ, PHYT and MSGT: MSGT falls
worked_falls : toggles (send_of (worked (λ n. two 0 1 n || eqb n 3))).end ≡ 0x40
unfolding bad send_of
worked_falls = refl

-- the block: the message that was loaded, and the one that is sent again
worked_block : listed (send_of (worked (alone 0))).block
    ≡ 4 ∷ 0x123 ∷ 0x1001 ∷ 0x1002 ∷ 0x1003 ∷ 0x1004 ∷ 0x1005 ∷ 0x1006 ∷ 0x1007 ∷ 0x1008 ∷ []
unfolding bad send_of
worked_block = refl

worked_again : listed (send_of (worked (two 0 1))).block
    ≡ 0 ∷ 0x456 ∷ 0x2001 ∷ 0x2002 ∷ 0x2003 ∷ 0x2004 ∷ 0x2005 ∷ 0x2006 ∷ 0x2007 ∷ 0x2008 ∷ []
unfolding bad send_of
worked_again = refl

-- its toggles: MSGT, PHYT, MERT
worked_toggles : each (λ b. let x = (send_of (worked b)).block in get_or (listed x) 0 0)
    ≡ 0 ∷ 4 ∷ 0 ∷ 0 ∷ 4 ∷ 2 ∷ 1 ∷ 0 ∷ 0 ∷ []
unfolding bad send_of
worked_toggles = refl

-- Take

-- MSGT 1, PHYT 1, MERT 0: stored unless the sent PHYT is 1 or RXVAL is
worked_taken : each (λ b. toggles (take_of (worked b) false (brought true true false)).end)
    ≡ 0x4B ∷ 0xCB ∷ 0x4B ∷ 0x4B ∷ 0x5B ∷ 0x48 ∷ 0x4F ∷ 0x42 ∷ 0x4B ∷ []
unfolding bad take_of
worked_taken = refl

-- MSGT 0, PHYT 0, MERT 1: stored if the sent PHYT is 1
worked_other : each (λ b. toggles (take_of (worked b) false (brought false false true)).end)
    ≡ 0x20 ∷ 0xA0 ∷ 0x20 ∷ 0x20 ∷ 0x30 ∷ 0x22 ∷ 0x24 ∷ 0x22 ∷ 0x21 ∷ []
unfolding bad take_of
worked_other = refl

worked_stored :
    (let f = (take_of (worked none) false (brought true true false)).end in f.receive.control ∷ f.receive.words)
    ≡ 0xABC ∷ 0x4001 ∷ 0x4002 ∷ 0x4003 ∷ 0x4004 ∷ 0x4005 ∷ 0x4006 ∷ 0x4007 ∷ 0x4008 ∷ []
unfolding bad take_of
worked_stored = refl

worked_full : controls (take_of (worked (alone 6)) false (brought true true false)).end
    ≡ 0x123 ∷ 0x456 ∷ 0x789 ∷ []
unfolding bad take_of
worked_full = refl

-- marked bad: nothing
worked_marked : each (λ b. toggles (take_of (worked b) true (brought true true true)).end)
    ≡ 0x00 ∷ 0x80 ∷ 0x40 ∷ 0x20 ∷ 0x10 ∷ 0x08 ∷ 0x04 ∷ 0x02 ∷ 0x01 ∷ []
unfolding bad take_of
worked_marked = refl

-- Write

-- word 0, all of bits 15:12 set: TXREQ alone rises; with TXREQ it is refused
worked_request : each (λ b. toggles (write_of (worked b) 0 0xFABC).end)
    ≡ 0x80 ∷ 0x80 ∷ 0xC0 ∷ 0xA0 ∷ 0x90 ∷ 0x88 ∷ 0x84 ∷ 0x82 ∷ 0x81 ∷ []
unfolding bad write_of odd
worked_request = refl

-- bit 15 clear: nothing cancels a request
worked_no_request : each (λ b. toggles (write_of (worked b) 0 0x7ABC).end)
    ≡ 0x00 ∷ 0x80 ∷ 0x40 ∷ 0x20 ∷ 0x10 ∷ 0x08 ∷ 0x04 ∷ 0x02 ∷ 0x01 ∷ []
unfolding bad write_of odd
worked_no_request = refl

worked_answers : each (λ b. number_of (write_of (worked b) 0 0x7ABC).answer)
    ≡ 0 ∷ 4 ∷ 0 ∷ 0 ∷ 0 ∷ 0 ∷ 0 ∷ 0 ∷ 0 ∷ []
unfolding bad write_of odd
worked_answers = refl

worked_controls : controls (write_of (worked none) 0 0xFABC).end ≡ 0xABC ∷ 0x456 ∷ 0x789 ∷ []
unfolding bad write_of odd
worked_controls = refl

worked_word : (write_of (worked none) 5 0xBEEF).end.transmit.words
    ≡ 0x1001 ∷ 0x1002 ∷ 0x1003 ∷ 0x1004 ∷ 0xBEEF ∷ 0x1006 ∷ 0x1007 ∷ 0x1008 ∷ []
unfolding bad write_of
worked_word = refl

-- the numbers of the words: 8 is the last that can be written, 17 the last that can be read
worked_rows : map (λ w. number_of (write_of (worked none) w 0).answer) (0 ∷ 8 ∷ 9 ∷ 17 ∷ 18 ∷ 65535 ∷ [])
    ≡ 0 ∷ 0 ∷ 3 ∷ 3 ∷ 2 ∷ 2 ∷ []
unfolding bad write_of odd
worked_rows = refl

-- The whole end: what a call does not name stays

-- the toggles t, the controls c, and the words as they are
abbrev still : ℕ → List ℕ → List ℕ
still t c = t ∷ (c ++ (eight 0x1000 ++ (eight 0x2000 ++ eight 0x3000)))

abbrev three : List ℕ
three = 0x123 ∷ 0x456 ∷ 0x789 ∷ []

-- words 0 and 16 change nothing; word 17 RXVAL alone
whole_read : map (λ w. numbers (read_of (worked (alone 6)) w).end) (0 ∷ 16 ∷ 17 ∷ [])
    ≡ still 0x02 three ∷ still 0x02 three ∷ still 0x00 three ∷ []
unfolding bad read_of
whole_read = refl

-- nothing requested; requested and not received; loaded
whole_sent : map (λ b. numbers (send_of (worked b)).end) (none ∷ two 0 1 ∷ alone 0 ∷ [])
    ≡ still 0x00 three ∷ still 0xC0 three
    ∷ (0x10 ∷ 0x123 ∷ 0x123 ∷ 0x789 ∷ (eight 0x1000 ++ (eight 0x1000 ++ eight 0x3000))) ∷ []
unfolding bad send_of
whole_sent = refl

-- the second message loads as the first one did: MSGT falls
whole_falls : numbers (send_of (worked (λ n. two 0 1 n || eqb n 3))).end
    ≡ 0x40 ∷ 0x123 ∷ 0x123 ∷ 0x789 ∷ (eight 0x1000 ++ (eight 0x1000 ++ eight 0x3000))
unfolding bad send_of
whole_falls = refl

-- where nothing is requested the same block goes out again
whole_again : listed (send_of (worked none)).block ≡ 0 ∷ 0x456 ∷ eight 0x2000
unfolding bad send_of
whole_again = refl

-- stored; known already, with RXVAL 0; no room
whole_taken :
    map (λ b. numbers (take_of (worked b) false (brought true true false)).end) (none ∷ alone 4 ∷ alone 6 ∷ [])
    ≡ (0x4B ∷ 0x123 ∷ 0x456 ∷ 0xABC ∷ (eight 0x1000 ++ (eight 0x2000 ++ eight 0x4000)))
    ∷ still 0x48 three ∷ still 0x42 three ∷ []
unfolding bad take_of
whole_taken = refl

-- the second message is stored as the first one was, its MSGT being 0
whole_other : numbers (take_of (worked (alone 4)) false (brought false false true)).end
    ≡ 0x22 ∷ 0x123 ∷ 0x456 ∷ 0xABC ∷ (eight 0x1000 ++ (eight 0x2000 ++ eight 0x4000))
unfolding bad take_of
whole_other = refl

whole_marked : numbers (take_of (worked none) true (brought true true true)).end ≡ still 0x00 three
unfolding bad take_of
whole_marked = refl

-- with all set but TXREQ
abbrev free : ℕ → Bool
free n = not (eqb n 0)

whole_control : numbers (write_of (worked free) 0 0xFABC).end ≡ still 0xFF (0xABC ∷ 0x456 ∷ 0x789 ∷ [])
unfolding bad write_of odd
whole_control = refl

abbrev put : ℕ → List ℕ
put w = numbers (write_of (worked free) w 0xBEEF).end

abbrev wrote : List ℕ → List ℕ
wrote l = 0x7F ∷ (three ++ (l ++ (eight 0x2000 ++ eight 0x3000)))

whole_words : map put (1 ∷ 2 ∷ 3 ∷ 4 ∷ 5 ∷ 6 ∷ 7 ∷ 8 ∷ [])
    ≡ wrote (0xBEEF ∷ 0x1002 ∷ 0x1003 ∷ 0x1004 ∷ 0x1005 ∷ 0x1006 ∷ 0x1007 ∷ 0x1008 ∷ [])
    ∷ wrote (0x1001 ∷ 0xBEEF ∷ 0x1003 ∷ 0x1004 ∷ 0x1005 ∷ 0x1006 ∷ 0x1007 ∷ 0x1008 ∷ [])
    ∷ wrote (0x1001 ∷ 0x1002 ∷ 0xBEEF ∷ 0x1004 ∷ 0x1005 ∷ 0x1006 ∷ 0x1007 ∷ 0x1008 ∷ [])
    ∷ wrote (0x1001 ∷ 0x1002 ∷ 0x1003 ∷ 0xBEEF ∷ 0x1005 ∷ 0x1006 ∷ 0x1007 ∷ 0x1008 ∷ [])
    ∷ wrote (0x1001 ∷ 0x1002 ∷ 0x1003 ∷ 0x1004 ∷ 0xBEEF ∷ 0x1006 ∷ 0x1007 ∷ 0x1008 ∷ [])
    ∷ wrote (0x1001 ∷ 0x1002 ∷ 0x1003 ∷ 0x1004 ∷ 0x1005 ∷ 0xBEEF ∷ 0x1007 ∷ 0x1008 ∷ [])
    ∷ wrote (0x1001 ∷ 0x1002 ∷ 0x1003 ∷ 0x1004 ∷ 0x1005 ∷ 0x1006 ∷ 0xBEEF ∷ 0x1008 ∷ [])
    ∷ wrote (0x1001 ∷ 0x1002 ∷ 0x1003 ∷ 0x1004 ∷ 0x1005 ∷ 0x1006 ∷ 0x1007 ∷ 0xBEEF ∷ [])
    ∷ []
unfolding bad write_of
whole_words = refl

-- refused while TXREQ is 1, each of the words 0 to 8: answer 4, and nothing is stored; words 9 and 18 get 3 and 2 first
abbrev blocked : ℕ → List ℕ
blocked w = let r = write_of (worked (alone 0)) w 0xFABC in number_of r.answer ∷ numbers r.end

whole_blocked : map blocked (0 ∷ 1 ∷ 5 ∷ 8 ∷ 9 ∷ 18 ∷ [])
    ≡ (4 ∷ still 0x80 three) ∷ (4 ∷ still 0x80 three) ∷ (4 ∷ still 0x80 three) ∷ (4 ∷ still 0x80 three)
    ∷ (3 ∷ still 0x80 three) ∷ (2 ∷ still 0x80 three) ∷ []
unfolding bad write_of odd
whole_blocked = refl

-- Answer 1: 4,096 in each of the three controls, and in a block, good or bad

limit_sent : map (λ e. number_of (send_of e).answer)
    (limited none 4095 4095 4095 ∷ limited none 4096 0 0 ∷ limited none 0 4096 0 ∷ limited none 0 0 4096 ∷ [])
    ≡ 0 ∷ 1 ∷ 1 ∷ 1 ∷ []
unfolding bad send_of
limit_sent = refl

limit_block : listed (send_of (limited (alone 3) 0 4096 0)).block ≡ replicate 10 0
unfolding bad send_of
limit_block = refl

limit_taken : map (λ m. number_of (take_of (worked none) m (block 4096 true true true)).answer) (false ∷ true ∷ [])
    ≡ 1 ∷ 1 ∷ []
unfolding bad take_of
limit_taken = refl

limit_within : map (λ m. number_of (take_of (worked none) m (block 4095 true true true)).answer) (false ∷ true ∷ [])
    ≡ 0 ∷ 0 ∷ []
unfolding bad take_of
limit_within = refl

-- each call on each of the three, also where 2, 3 or 4 would come next: answer 1, value 0, and the end as it was
abbrev controlled : List (List ℕ)
controlled = (4096 ∷ 0 ∷ 0 ∷ []) ∷ (0 ∷ 4096 ∷ 0 ∷ []) ∷ (0 ∷ 0 ∷ 4096 ∷ []) ∷ []

-- RXVAL and TXREQ are 1
abbrev over : List ℕ → End
over c = limited (two 0 6) (get_or c 0 0) (get_or c 1 0) (get_or c 2 0)

abbrev refused : List (List ℕ)
refused = map (λ c. 1 ∷ (0 ∷ still 0x82 c)) controlled

limit_ends : map (λ c. number_of (send_of (over c)).answer ∷ (0 ∷ numbers (send_of (over c)).end)) controlled ≡ refused
unfolding bad send_of
limit_ends = refl

limit_read :
    map (λ c. let r = read_of (over c) 17 in number_of r.answer ∷ (r.value ∷ numbers r.end)) controlled ≡ refused
unfolding bad read_of
limit_read = refl

limit_outside : map (λ c. number_of (read_of (over c) 18).answer) controlled ≡ 1 ∷ 1 ∷ 1 ∷ []
unfolding bad read_of
limit_outside = refl

abbrev told : Next → List ℕ
told r = number_of r.answer ∷ (0 ∷ numbers r.end)

limit_written : map (λ w. map (λ c. told (write_of (over c) w 0x7FFF)) controlled)
    (0 ∷ 8 ∷ 9 ∷ 18 ∷ []) ≡ refused ∷ refused ∷ refused ∷ refused ∷ []
unfolding bad write_of odd
limit_written = refl

limit_heard : map (λ m. map (λ c. told (take_of (over c) m (brought true true true))) controlled) (false ∷ true ∷ [])
    ≡ refused ∷ refused ∷ []
unfolding bad take_of
limit_heard = refl

limit_unheard : map (λ m. numbers (take_of (worked none) m (block 4096 true true true)).end) (false ∷ true ∷ [])
    ≡ still 0x00 three ∷ still 0x00 three ∷ []
unfolding bad take_of
limit_unheard = refl

-- After reset all is 0

reset_toggles : toggles reset_of ≡ 0
reset_toggles = refl

reset_words : map (λ w. (read_of reset_of w).value)
    (0 ∷ 1 ∷ 2 ∷ 3 ∷ 4 ∷ 5 ∷ 6 ∷ 7 ∷ 8 ∷ 9 ∷ 10 ∷ 11 ∷ 12 ∷ 13 ∷ 14 ∷ 15 ∷ 16 ∷ 17 ∷ [])
    ≡ replicate 18 0
unfolding bad read_of
reset_words = refl

reset_block : listed (send_of reset_of).block ≡ replicate 10 0
unfolding bad send_of
reset_block = refl

-- A message after reset, from the end a to the end b

-- words 1, 8 and 0 are written
abbrev asked : End
asked = (write_of (write_of (write_of reset_of 1 0x2211).end 8 0x8877).end 0 0x8ABC).end

abbrev loaded : End
loaded = (send_of asked).end

abbrev received : End
received = (take_of reset_of false (send_of asked).block).end

abbrev confirmed : End
confirmed = (take_of loaded false (send_of received).block).end

abbrev taken : End
taken = (read_of received 17).end

abbrev finished : End
finished = (take_of confirmed false (send_of taken).block).end

-- word 0 of a: requested; sent; received, PHYT equals MSGT; and read, MERT does too
first_control : map (λ e. (read_of e 0).value) (asked ∷ loaded ∷ confirmed ∷ finished ∷ [])
    ≡ 0x8ABC ∷ 0x1ABC ∷ 0x5ABC ∷ 0x7ABC ∷ []
unfolding bad send_of take_of read_of write_of odd
first_control = refl

-- words 9, 10, 16 and 17 of b, and word 9 after that
first_words : map (λ w. (read_of received w).value) (9 ∷ 10 ∷ 16 ∷ 17 ∷ []) ≡ 0x9ABC ∷ 0x2211 ∷ 0 ∷ 0x8877 ∷ []
unfolding bad send_of take_of read_of write_of odd
first_words = refl

first_status : (read_of taken 9).value ≡ 0x1ABC
unfolding bad send_of take_of read_of write_of odd
first_status = refl

-- The next message, before b reads the first: a may send it, b does not store it, and a third one waits

abbrev again : End
again = (send_of (write_of confirmed 0 0x8DEF).end).end

abbrev holding : End
holding = (take_of received false again.sent).end

abbrev waiting : End
waiting = (take_of (write_of again 0 0x8111).end false (send_of holding).block).end

second_control : map (λ e. (read_of e 0).value) (again ∷ (send_of waiting).end ∷ []) ≡ 0x4DEF ∷ 0xC111 ∷ []
unfolding bad send_of take_of read_of write_of odd
second_control = refl

second_status : (read_of holding 9).value ≡ 0x9ABC
unfolding bad send_of take_of read_of write_of odd
second_status = refl

-- b reads the first, takes the second, and a's third goes out
abbrev third : End
third =
    (send_of (take_of waiting false (send_of (take_of (read_of holding 17).end false again.sent).end).block).end).end

second_taken : (read_of third 0).value ≡ 0x3111
unfolding bad send_of take_of read_of write_of odd
second_taken = refl

-- Calls in a row, from reset: each does what it does alone, a block that is marked bad nothing

abbrev loading : List Call
loading = Call.write 0 0x8ABC (omega arith) ∷ Call.send ∷ Call.take true (brought true true true) ∷ []

abbrev storing : List Call
storing = loading ++ (Call.take false (brought true true false) ∷ [])

calls_loading : numbers (reached loading) ≡ 0x10 ∷ 0xABC ∷ 0xABC ∷ 0 ∷ replicate 24 0
unfolding reached calls bad send_of take_of write_of odd
calls_loading = refl

calls_storing : numbers (reached storing) ≡ 0x5B ∷ 0xABC ∷ 0xABC ∷ 0xABC ∷ (replicate 16 0 ++ eight 0x4000)
unfolding reached calls bad send_of take_of write_of odd
calls_storing = refl

calls_reading : numbers (reached (storing ++ (Call.read 17 ∷ [])))
    ≡ 0x5D ∷ 0xABC ∷ 0xABC ∷ 0xABC ∷ (replicate 16 0 ++ eight 0x4000)
unfolding reached calls bad send_of take_of read_of write_of odd
calls_reading = refl
