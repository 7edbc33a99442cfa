-- Blocks as messages, and messages as blocks.
--   IsBlock b           128 bytes
--   message_of b n      number n of the block b: it carries bytes 8n to 8n + 7
--   messages_of b       all sixteen of them, 0 to 15; messages_of_all: those of several blocks, one block behind another
--   Eight ms            each of the messages ms has eight bytes
--   given_by h ms       the blocks that the taking host h hands over for the messages ms, taken one by one
--   host_after h ms     the host after them
--   in_turn_from k n ms  the first n of the messages ms are there, and have the numbers k, k + 1 and so on
--   joined ms           the bytes of the messages ms, one behind the other
--   stretches ms        the bytes of sixteen messages with the numbers 0 to 15, with nothing between them: for every
--                       place of ms where such a stretch begins, in order
--   one, two, mixed     blocks and messages for computed cases: block-*, message-*, stretch-*
-- Assumes nothing.
use Rattle.std.specs.Prelude.{ℕ, zero, suc, ◌*◌, Bool, true, false, cond, ◌&&◌, List, [], ◌∷◌, ◌++◌, map, ◌≡◌, refl, eqb, length, take, drop, replicate}
use Rattle.std.proofs.Common.{true≢false, arith}
use Rattle.laws.specs.Above.{above}
use Rattle.end.specs.Message.{Message}
use Rattle.report.specs.declared.TakingHost.{TakingHost}
use Rattle.report.specs.declared.Take.{Take}
use Rattle.report.specs.declared.Take.TheVariants.{Part, Out, Whole}
pub use Rattle.report.specs.Counting.{counting}
use Rattle.report.specs.Taking.{fresh_taking, take_of}

pub record IsBlock (b : List ℕ) : Type 0 where
  pub size : length b ≡ 128
  pub bytes : above 255 b ≡ false

-- A block as messages

abbrev pub message_of : List ℕ → ℕ → Message
message_of b n = record { number = n; bytes = take 8 (drop (8 * n) b) }

abbrev pub messages_of : List ℕ → List Message
messages_of b = map (message_of b) (counting 0 16)

unfoldable pub messages_of_all : List (List ℕ) → List Message
messages_of_all [] = []
messages_of_all (b ∷ bs) = messages_of b ++ messages_of_all bs

-- Messages taken

abbrev pub Eight : List Message → Type 0
Eight [] = Unit {0}
Eight (m ∷ ms) = (length m.bytes ≡ 8) × Eight ms

abbrev pub handed_over : Take → List ℕ → List (List ℕ)
handed_over (Part n) b = []
handed_over (Out n) b = []
handed_over Whole b = b ∷ []

unfoldable pub given_by : TakingHost → List Message → List (List ℕ)
given_by h [] = []
given_by h (m ∷ ms) =
    handed_over (take_of h m.number m.bytes).what (take_of h m.number m.bytes).block
    ++ given_by (take_of h m.number m.bytes).host ms

unfoldable pub host_after : TakingHost → List Message → TakingHost
host_after h [] = h
host_after h (m ∷ ms) = host_after (take_of h m.number m.bytes).host ms

-- Stretches of sixteen

unfoldable pub in_turn_from : ℕ → ℕ → List Message → Bool
in_turn_from k zero ms = true
in_turn_from k (suc n) [] = false
in_turn_from k (suc n) (m ∷ ms) = eqb m.number k && in_turn_from (suc k) n ms

unfoldable pub joined : List Message → List ℕ
joined [] = []
joined (m ∷ ms) = m.bytes ++ joined ms

unfoldable pub stretches : List Message → List (List ℕ)
stretches [] = []
stretches (m ∷ ms) =
    cond (in_turn_from 0 16 (m ∷ ms)) (joined (take 16 (m ∷ ms)) ∷ stretches ms) (stretches ms)

-- Worked out by hand: blocks one and two have the bytes 0 to 127 and 128 to 255

abbrev pub one : List ℕ
one = counting 0 128

abbrev pub two : List ℕ
two = counting 128 128

pub one_is : IsBlock one
unfolding above
one_is = record { size = refl; bytes = refl }

pub two_is : IsBlock two
unfolding above
two_is = record { size = refl; bytes = refl }

block_short : IsBlock (counting 0 127) → ⊥
block_short i = let e = i.size in omega arith

block_large : IsBlock (counting 129 128) → ⊥
unfolding above
block_large i = true≢false i.bytes

message_worked : message_of one 2 ≡ record { number = 2; bytes = counting 16 8 }
message_worked = refl

message_numbers : map (λ (m : Message). m.number) (messages_of two)
    ≡ 0 ∷ 1 ∷ 2 ∷ 3 ∷ 4 ∷ 5 ∷ 6 ∷ 7 ∷ 8 ∷ 9 ∷ 10 ∷ 11 ∷ 12 ∷ 13 ∷ 14 ∷ 15 ∷ []
message_numbers = refl

message_last : drop 15 (messages_of two) ≡ record { number = 15; bytes = counting 248 8 } ∷ []
message_last = refl

message_next : take 2 (drop 15 (messages_of_all (one ∷ two ∷ [])))
    ≡ record { number = 15; bytes = counting 120 8 } ∷ record { number = 0; bytes = counting 128 8 } ∷ []
unfolding messages_of_all
message_next = refl

message_count : length (messages_of_all (one ∷ two ∷ [])) ≡ 32
unfolding messages_of_all
message_count = refl

-- three messages of block two, block one whole, one of another number, block two whole, and its first fifteen

abbrev mixed : List Message
mixed =
    drop 13 (messages_of two)
    ++ (messages_of one ++ (message_of one 7 ∷ (messages_of two ++ take 15 (messages_of two))))

stretch_mixed : stretches mixed ≡ one ∷ two ∷ []
unfolding stretches in_turn_from joined
stretch_mixed = refl

stretch_given : given_by fresh_taking mixed ≡ one ∷ two ∷ []
unfolding given_by take_of
stretch_given = refl

stretch_part : host_after fresh_taking mixed ≡ record { block = counting 128 120 ++ replicate 8 0; turn = 15 }
unfolding host_after take_of
stretch_part = refl

-- a number twice, or one between them: no block
stretch_twice : stretches (take 9 (messages_of one) ++ drop 8 (messages_of one)) ≡ []
unfolding stretches in_turn_from
stretch_twice = refl

stretch_between : stretches (take 9 (messages_of one) ++ (message_of two 0 ∷ drop 9 (messages_of one))) ≡ []
unfolding stretches in_turn_from
stretch_between = refl
