-- Runs worked out by hand from the sentences of request #109, in a single table; proofs/Computed.antt computes them.
-- Three messages go from a to b; the first one has words 1122 and 8877 (hex) at its ends and zeros between.
--   Row, row       what comes out, and what was worked out; Agree: they are the same in each row
--   look es        after the events es from reset, with delays D and E: word 0 of a, word 9 of b
--   back es        word 0 of b, word 9 of a
--   puts v         a's host writes v to word 0
--   first          it writes the first message; its value has bits 14:12 set, which are ignored
--   reads n        b's host makes the first n reads of a take
--   ok, at_far, at_near  a slot with nothing harmed; with what arrives at b, or at a, marked bad: a strange block, with
--                  every toggle set, words of its own and a control that no block has
--   after          the world after events, with delays
--   spelt, places  control and words of messages; the controls of the messages held
--   seen, concat   what arrives, in numbers; several of them
--   by_rule, unharmed  1 where the rule is kept, where nothing bad arrives
--   one .. four    runs with so many messages; others, late: calls that the rule leaves free, a write that is refused
--   Case, table    the rows of each case
-- Assumes nothing.
use Prim.{Unit}
use Rattle.std.specs.Prelude.{ℕ, ◌<◌, true, List, [], ◌∷◌, ◌++◌, map, ◌≡◌, take, drop, replicate}
use Rattle.std.proofs.Common.{arith}
use Rattle.fibre.specs.declared.Block.{Block}
use Rattle.weights.specs.Weights.{bit}
use Rattle.fibre.specs.Good.{no_block}
use Rattle.fibre.specs.Words.{read_of}
use Rattle.fibre.specs.Worked.{listed}
use Rattle.joined.specs.Joined.{Direction, a_to_b, b_to_a, slot, at_a, at_b, slots}
use Rattle.fibrelink.specs.Demand.{held, good}
use Rattle.fibrelink.specs.Link.{Message, World, reset_world, read, write, sound, spoilt, Arrival, arriving, Event}
use Rattle.fibrelink.specs.Link.{run, ruled}

pub record Row : Type 0 where
  pub got : List ℕ
  pub want : List ℕ

abbrev pub row : List ℕ → List ℕ → Row
row g w = record { got = g; want = w }

abbrev pub Agree : List Row → Type 0
Agree [] = Unit {0}
Agree (r ∷ rs) = (r.got ≡ r.want) × Agree rs

-- What is done

abbrev pub puts : (v : ℕ) → v < 65536 → List Event
puts v h = at_a (write 0 v h) ∷ []

abbrev pub first : List Event
first = at_a (write 1 0x1122 (omega arith)) ∷ at_a (write 8 0x8877 (omega arith)) ∷ puts 0xFABC (omega arith)

abbrev pub ok : List Event
ok = slot sound sound ∷ []

abbrev pub strange : Block
strange = record { msgt = true; phyt = true; mert = true; control = 0xF999; words = replicate 8 0x9999 }

abbrev pub at_far : List Event
at_far = slot sound (spoilt strange) ∷ []

abbrev pub at_near : List Event
at_near = slot (spoilt strange) sound ∷ []

abbrev pub reads : ℕ → List Event
reads n =
    take n
    (at_b (read 9) ∷ at_b (read 10) ∷ at_b (read 11) ∷ at_b (read 12) ∷ at_b (read 13) ∷ at_b (read 14) ∷ at_b (read 15)
    ∷ at_b (read 16) ∷ at_b (read 17) ∷ [])

abbrev pub after : ℕ → ℕ → List Event → World
after D E es = run D E es reset_world

-- What is seen

abbrev pub look : ℕ → ℕ → List Event → List ℕ
look D E es = (read_of (after D E es).a.end 0).value ∷ (read_of (after D E es).b.end 9).value ∷ []

abbrev pub back : List Event → List ℕ
back es = (read_of (after 0 0 es).b.end 0).value ∷ (read_of (after 0 0 es).a.end 9).value ∷ []

-- the control and the words of each message
abbrev pub spelt : List Message → List ℕ
spelt [] = []
spelt (m ∷ l) = m.control ∷ (m.words ++ spelt l)

-- the controls of the messages held
abbrev pub places : List Event → List ℕ
places es = map (λ m. m.control) (held (after 0 0 es).a (after 0 0 es).b)

-- whether it is marked bad, and the whole block
abbrev pub seen : Arrival → List ℕ
seen y = bit y.marked 1 ∷ listed y.block

-- 1 where the host that takes the messages of direction d keeps the rule in the events es from reset
abbrev pub by_rule : Direction → List Event → ℕ
by_rule d es = bit (ruled d 0 0 es reset_world) 1

-- 1 where nothing bad arrives in the events es from reset, with delays 1 there and 0 back
abbrev pub unharmed : List Event → ℕ
unharmed es = bit (good 1 0 es reset_world) 1

abbrev pub concat : List (List ℕ) → List ℕ
concat [] = []
concat (l ∷ ls) = l ++ concat ls

-- The cases

-- what the rule leaves free: writes, and reads of other words
abbrev pub others : List Event
others =
    at_b (write 0 0x8000 (omega arith)) ∷ at_b (write 9 1 (omega arith)) ∷ at_b (read 0) ∷ at_b (read 8) ∷ at_b (read 18)
    ∷ []

-- a word written too late for the message before it
abbrev pub late : List Event
late = at_a (write 1 0x3344 (omega arith)) ∷ []

-- two messages are taken, and a third one waits behind a full register
abbrev pub one : List Event
one = first ++ (ok ++ (ok ++ (reads 9 ++ ok)))

abbrev pub two : List Event
two = one ++ (puts 0x8123 (omega arith) ++ (ok ++ ok))

abbrev pub three : List Event
three = two ++ (puts 0x8456 (omega arith) ++ (ok ++ ok))

abbrev pub four : List Event
four = three ++ puts 0x8001 (omega arith)

pub data Case : Type 0 where
  Request Sent Read Second Full Held Spoilt Harmed Delayed Refused Told Ruled Unharmed : Case

unfoldable pub table : Case → List Row
-- TXREQ; bits 14:12 are not stored
table Request = row (look 0 0 first) (0x8ABC ∷ 0x0000 ∷ []) ∷ []
-- the block takes the request: MSGT is 1, TXREQ 0; b stores it: RXVAL and toggle 1. The next one brings PHYT
table Sent =
    row (look 0 0 (first ++ ok)) (0x1ABC ∷ 0x9ABC ∷ [])
    ∷ row (look 0 0 (first ++ (ok ++ ok))) (0x5ABC ∷ 0x9ABC ∷ [])
    ∷ []
-- eight reads of nine change nothing; the ninth drops RXVAL, and the next block brings MERT
table Read =
    row (look 0 0 (first ++ (ok ++ (ok ++ (reads 8 ++ ok))))) (0x5ABC ∷ 0x9ABC ∷ [])
    ∷ row (look 0 0 (first ++ (ok ++ (ok ++ reads 9)))) (0x5ABC ∷ 0x1ABC ∷ [])
    ∷ row (look 0 0 one) (0x7ABC ∷ 0x1ABC ∷ [])
    ∷ row (spelt (after 0 0 one).b.host.taken) (0xABC ∷ 0x1122 ∷ 0 ∷ 0 ∷ 0 ∷ 0 ∷ 0 ∷ 0 ∷ 0x8877 ∷ [])
    ∷ row (back one) (0x0000 ∷ 0x0000 ∷ [])
    ∷ []
-- the second message has toggle 0; its words are those of the first one, which were not written again
table Second =
    row (look 0 0 (one ++ puts 0x8123 (omega arith))) (0xF123 ∷ 0x1ABC ∷ [])
    ∷ row (look 0 0 (one ++ (puts 0x8123 (omega arith) ++ ok))) (0x6123 ∷ 0x8123 ∷ [])
    ∷ row (look 0 0 two) (0x2123 ∷ 0x8123 ∷ [])
    ∷ []
-- the third one is loaded, since the second one was received; it is stored when that was read
table Full =
    row (look 0 0 (two ++ puts 0x8456 (omega arith))) (0xA456 ∷ 0x8123 ∷ [])
    ∷ row (look 0 0 three) (0x3456 ∷ 0x8123 ∷ [])
    ∷ row (look 0 0 (three ++ reads 9)) (0x3456 ∷ 0x0123 ∷ [])
    ∷ row (look 0 0 (three ++ (reads 9 ++ ok))) (0x1456 ∷ 0x9456 ∷ [])
    ∷ row (look 0 0 (three ++ (reads 9 ++ (ok ++ ok)))) (0x5456 ∷ 0x9456 ∷ [])
    ∷ []
-- a fourth one is requested: one is taken, and one in each of the three places
table Held =
    row (spelt (after 0 0 four).b.host.taken) (0xABC ∷ 0x1122 ∷ 0 ∷ 0 ∷ 0 ∷ 0 ∷ 0 ∷ 0 ∷ 0x8877 ∷ [])
    ∷ row (places four) (0x123 ∷ 0x456 ∷ 0x001 ∷ [])
    ∷ []
-- a bad block is as none: what is sent again brings the message, or its PHYT, a block later
table Spoilt =
    row (look 0 0 (first ++ at_far)) (0x1ABC ∷ 0x0000 ∷ [])
    ∷ row (look 0 0 (first ++ (at_far ++ ok))) (0x1ABC ∷ 0x9ABC ∷ [])
    ∷ row (look 0 0 (first ++ (ok ++ at_near))) (0x1ABC ∷ 0x9ABC ∷ [])
    ∷ row (look 0 0 (first ++ (ok ++ (at_near ++ ok)))) (0x5ABC ∷ 0x9ABC ∷ [])
    ∷ row (back (first ++ (at_near ++ at_far))) (0x0000 ∷ 0x0000 ∷ [])
    ∷ []
-- what arrives where one is spoilt: any other block, marked bad; where nothing was sent yet, nothing
table Harmed =
    row (concat (map seen (arriving 0 (spoilt strange) (no_block ∷ [])))) (1 ∷ 7 ∷ 0xF999 ∷ replicate 8 0x9999)
    ∷ row (concat (map seen (arriving 0 sound (strange ∷ [])))) (0 ∷ 7 ∷ 0xF999 ∷ replicate 8 0x9999)
    ∷ row (concat (map seen (arriving 1 (spoilt strange) (no_block ∷ [])))) []
    ∷ []
-- delays of 1 there and 2 back: it enters with the second block, and PHYT is back with the fifth
table Delayed =
    row (look 1 2 (first ++ ok)) (0x1ABC ∷ 0x0000 ∷ [])
    ∷ row (look 1 2 (first ++ (ok ++ ok))) (0x1ABC ∷ 0x9ABC ∷ [])
    ∷ row (look 1 2 (first ++ (ok ++ (ok ++ (ok ++ ok))))) (0x1ABC ∷ 0x9ABC ∷ [])
    ∷ row (look 1 2 (first ++ (ok ++ (ok ++ (ok ++ (ok ++ ok)))))) (0x5ABC ∷ 0x9ABC ∷ [])
    ∷ []
-- while TXREQ is 1 no write counts, also one with bit 15 clear; one is accepted again once the block has gone
table Refused =
    row (look 0 0 (first ++ puts 0x0001 (omega arith))) (0x8ABC ∷ 0x0000 ∷ [])
    ∷ row (spelt (after 0 0 (first ++ (puts 0x8123 (omega arith) ++ late))).a.host.accepted)
    (0xABC ∷ 0x1122 ∷ 0 ∷ 0 ∷ 0 ∷ 0 ∷ 0 ∷ 0 ∷ 0x8877 ∷ [])
    ∷ row (look 0 0 (first ++ (ok ++ puts 0x8123 (omega arith)))) (0x9123 ∷ 0x9ABC ∷ [])
    ∷ []
-- the rule: a second look at word 9 begins anew; what was read before it does not count
table Told =
    row (spelt (after 0 0 (first ++ (ok ++ (reads 4 ++ reads 9)))).b.host.taken)
    (0xABC ∷ 0x1122 ∷ 0 ∷ 0 ∷ 0 ∷ 0 ∷ 0 ∷ 0 ∷ 0x8877 ∷ [])
    ∷ []
-- by the rule: a take with slots and other calls between; word 9 again, before the last word or where bit 15 is clear.
-- Not: word 10 first; word 11 next after word 9; on where bit 15 is clear; word 17 twice. The other host is not asked.
-- Spoilt blocks are no matter of it, nor is where in a take other calls fall
table Ruled =
    row
    (map (by_rule a_to_b)
    ((first ++ (ok ++ (reads 4 ++ (ok ++ (others ++ drop 4 (reads 9))))))
    ∷ (first ++ (ok ++ (reads 4 ++ reads 9)))
    ∷ (reads 1 ++ reads 1)
    ∷ (first ++ (ok ++ (at_b (read 10) ∷ [])))
    ∷ (first ++ (ok ++ (at_b (read 9) ∷ at_b (read 11) ∷ [])))
    ∷ reads 2
    ∷ (first ++ (ok ++ (reads 9 ++ (at_b (read 17) ∷ []))))
    ∷ (at_a (read 17) ∷ [])
    ∷ (first ++ (at_far ++ (at_near ++ ok)))
    ∷ (others ++ (first ++ (ok ++ (reads 1 ++ (others ++ (reads 3 ++ (reads 8 ++ (others ++ drop 8 (reads 9)))))))))
    ∷ []))
    (1 ∷ 1 ∷ 1 ∷ 0 ∷ 0 ∷ 0 ∷ 0 ∷ 1 ∷ 1 ∷ 1 ∷ [])
    ∷ row
    (map (by_rule b_to_a)
    ((at_a (read 17) ∷ [])
    ∷ (at_b (read 17) ∷ [])
    ∷ puts 0x8000 (omega arith)
    ∷ (others ++ (ok ++ (at_a (read 9) ∷ at_a (read 10) ∷ at_a (read 11) ∷ [])))
    ∷ []))
    (0 ∷ 1 ∷ 1 ∷ 1 ∷ [])
    ∷ []
-- calls are never bad, and a spoilt block counts where it arrives: at b not in the first slot. Calls are no slots
table Unharmed =
    row (map unharmed ((first ++ (ok ++ (reads 2 ++ (others ++ ok)))) ∷ at_far ∷ (ok ++ at_far) ∷ at_near ∷ []))
    (1 ∷ 1 ∷ 0 ∷ 0 ∷ [])
    ∷ row (slots (first ++ (ok ++ (others ++ ok))) ∷ []) (2 ∷ [])
    ∷ []
