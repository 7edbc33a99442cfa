-- Replies as C gets them, on the worked record of crate `recordspec` with every bool true and on one byte changed.
--   3.2308: pending, toggle, Received, received toggle, number 13, PingRx got, PingTx, health as loaded 2: FD0E
--   3.2313: full, toggle, number 14, partner health 3: CE03
-- And what a take says: on that record, whose collection has nine symbols, and on one with eleven of P1's frame. And
-- the counts, as the call and as the bytes from 91 on give them; presence; and upgrades.
-- Assumes nothing.
use Prim.Native.Nat.{ℕ}
use mathlib.Core.Bool.{Bool, true}
use mathlib.Core.List.{List, [], ◌∷◌, ◌++◌}
use mathlib.Core.Path.{◌≡◌, refl}
use lib.ListN.{set, take, drop, replicate}
use Rattle.crc.specs.Bits.{bits, number, odd_ones}
use Rattle.crc.specs.Crc.{crc}
use Rattle.frame.specs.Frame.{generator, stream, crc_of, even, crc_right}
use Rattle.laws.specs.Above.{above}
use Rattle.end.specs.Good.{bad, present_of}
use Rattle.end.specs.Registers.{read_of, write_of}
use Rattle.receiver.specs.Counting.{tallied}
use Rattle.end.specs.Taking.{taken as steps, take_of}
use Rattle.recordspec.specs.Record.{front_of, back_of, body_of, record_of, end_of, without, newer, limits, exceeds}
use Rattle.recordspec.specs.Record.{wrong_head, refused_by, refused, refused_before}
use Rattle.recordspec.specs.Results.{taking, reading, writing, presenting}
use Rattle.recordspec.specs.Cases.{first, second, third, laid, laid_one, laid_two}
use Rattle.record.specs.Calls.{through, reason_through, told_by, bad_record, upgrading, counts_by}
use Rattle.simhadol.specs.Numbered.{numbered, told, counted}
use Rattle.simhadol.specs.declared.SimhadolCounted.{SimhadolCounted}
use Rattle.simhadol.specs.declared.SimhadolReply.{SimhadolReply}
use Rattle.simhadol.specs.declared.SimhadolTaken.{SimhadolTaken}

abbrev given : List ℕ
given = laid (λ i. true)

abbrev reply : ℕ → ℕ → SimhadolReply
reply a v = record { answer = a; value = v }

pub control : numbered (through (reading 2308) given).reply ≡ reply 0 0xFD0E
unfolding through refused refused_by wrong_head exceeds limits front_of back_of end_of read_of bad above
control = refl

pub status : numbered (through (reading 2313) given).reply ≡ reply 0 0xCE03
unfolding through refused refused_by wrong_head exceeds limits front_of back_of end_of read_of bad above
status = refl

pub present_there : numbered (through presenting given).reply ≡ reply 0 1
unfolding through refused refused_by wrong_head exceeds limits front_of back_of end_of present_of bad above
present_there = refl

pub no_register : numbered (through (reading 2307) given).reply ≡ reply 2 0
unfolding through refused refused_by wrong_head exceeds limits front_of back_of end_of read_of bad above
no_register = refl

pub read_only_bits_lem : numbered (through (writing 2308 0x6500) given).reply ≡ reply 10 0
unfolding through refused refused_by wrong_head exceeds limits front_of back_of end_of write_of bad above
read_only_bits_lem = refl

pub bool_of_two : numbered (through (reading 2308) (set given 77 2)).reply ≡ reply 11 0
unfolding through refused refused_by wrong_head exceeds limits front_of back_of
bool_of_two = refl

abbrev taken : ℕ → ℕ → ℕ → SimhadolTaken
taken a r n = record { answer = a; reason = r; symbols = n }

-- symbol 0 is 000, symbols 1 to 10 are 100 hex, symbol 11 is still 0
abbrev eleven : List ℕ
eleven =
    0 ∷ 101 ∷ 3 ∷ replicate 26 0 ++ (1 ∷ replicate 16 0) ++ (0 ∷ 0 ∷ 1 ∷ 0 ∷ 1 ∷ 0 ∷ 1 ∷ 0 ∷ 1 ∷ 0 ∷ 1 ∷ 0 ∷ [])
    ++ (1 ∷ 0 ∷ 1 ∷ 0 ∷ 1 ∷ 0 ∷ 1 ∷ 0 ∷ 1 ∷ 0 ∷ 0 ∷ 0 ∷ 11 ∷ replicate 30 0)

pub broken_by_mark : told (told_by 0x200 given) ≡ taken 0 3 9
unfolding through reason_through refused refused_by wrong_head exceeds limits front_of back_of end_of take_of bad above
broken_by_mark = refl

pub broken_by_even : told (told_by 0x000 given) ≡ taken 0 4 9
unfolding through reason_through refused refused_by wrong_head exceeds limits front_of back_of end_of take_of bad above even
    bits odd_ones
broken_by_even = refl

pub grown : told (told_by 0x100 given) ≡ taken 0 0 0
unfolding through reason_through refused refused_by wrong_head exceeds limits front_of back_of end_of take_of bad above even
    bits odd_ones
grown = refl

pub symbol_above : told (told_by 0x400 given) ≡ taken 5 0 0
unfolding through reason_through refused refused_by wrong_head exceeds limits front_of back_of end_of take_of bad above
symbol_above = refl

pub mark_refused : told (told_by 0x200 (set given 77 2)) ≡ taken 11 0 0
unfolding through reason_through refused refused_by wrong_head exceeds limits front_of back_of
mark_refused = refl

pub eleven_and_mark : told (told_by 0x200 eleven) ≡ taken 0 3 11
unfolding through reason_through refused refused_by wrong_head exceeds limits front_of back_of end_of take_of bad above
eleven_and_mark = refl

pub eleven_and_even : told (told_by 0x000 eleven) ≡ taken 0 4 11
unfolding through reason_through refused refused_by wrong_head exceeds limits front_of back_of end_of take_of bad above even
    bits odd_ones
eleven_and_even = refl

pub frame_accepted : told (told_by 0x100 eleven) ≡ taken 0 1 0
unfolding through reason_through refused refused_by wrong_head exceeds limits front_of back_of end_of take_of bad above
    even bits number odd_ones crc generator stream crc_of crc_right
frame_accepted = refl

pub frame_failed : told (told_by 0x001 eleven) ≡ taken 0 2 0
unfolding through reason_through refused refused_by wrong_head exceeds limits front_of back_of end_of take_of bad above
    even bits number odd_ones crc generator stream crc_of crc_right
frame_failed = refl

abbrev counts : ℕ → ℕ → ℕ → ℕ → ℕ → SimhadolCounted
counts a k c m e = record { answer = a; accepted = k; crc = c; marked = m; early = e }

pub counts_there : counted (counts_by given) ≡ counts 0 0xF122 0x3344 0xD566 0x9788
unfolding counts_by refused refused_by wrong_head exceeds limits front_of back_of end_of
counts_there = refl

pub counts_nowhere : counted (counts_by (set given 2 1)) ≡ counts 11 0 0 0 0
unfolding counts_by refused refused_by wrong_head exceeds limits front_of back_of
counts_nowhere = refl

-- a mark breaks the collection of nine, and is counted; presence is one symbol older
pub mark_counted : drop 91 (through (taking 0x200) given).bytes
    ≡ 0xF1 ∷ 0x22 ∷ 0x33 ∷ 0x44 ∷ 0xD5 ∷ 0x67 ∷ 0x97 ∷ 0x88 ∷ 0x02 ∷ 0xFC ∷ []
unfolding through refused refused_by wrong_head exceeds limits front_of back_of body_of record_of end_of take_of steps tallied
    bad above
mark_counted = refl

-- presence as it is in the bytes 99 and 100: 768 and no more; a symbol with which it lapses, and an accepted frame
abbrev left : ℕ → ℕ → List ℕ
left h l = set (set eleven 99 h) 100 l

pub left_768 : numbered (through presenting (left 3 0)).reply ≡ reply 0 1
unfolding through refused refused_by wrong_head exceeds limits front_of back_of end_of present_of bad above
left_768 = refl

pub left_769 : numbered (through presenting (left 3 1)).reply ≡ reply 11 0
unfolding through refused refused_by wrong_head exceeds limits front_of back_of
left_769 = refl

pub lapses : numbered (through presenting (through (taking 0x200) (left 0 1)).bytes).reply ≡ reply 0 0
unfolding through refused refused_by wrong_head exceeds limits front_of back_of body_of record_of end_of take_of steps tallied
    present_of bad above
lapses = refl

pub begins_anew : drop 99 (through (taking 0x100) (left 0 1)).bytes ≡ 3 ∷ 0 ∷ []
unfolding through refused refused_by wrong_head exceeds limits front_of back_of body_of record_of end_of take_of steps tallied
    bad above even bits number odd_ones crc generator stream crc_of crc_right
begins_anew = refl

-- what stands in the area before does not matter
abbrev area : ℕ → List ℕ
area n = replicate n 7

abbrev all : ℕ → Bool
all i = true

abbrev one : List ℕ
one = laid_one all

abbrev two : List ℕ
two = laid_two all

pub upgraded_one : (upgrading one (area 101)).bytes ≡ 0 ∷ 101 ∷ 3 ∷ (first all ++ (second all ++ replicate 10 0))
unfolding upgrading refused_before refused_by wrong_head exceeds limits without newer front_of back_of body_of record_of end_of
upgraded_one = refl

pub upgraded_two : (upgrading two (area 101)).bytes
    ≡ 0 ∷ 101 ∷ 3 ∷ (first all ++ (second all ++ (third ++ replicate 2 0)))
unfolding upgrading refused_before refused_by wrong_head exceeds limits without newer front_of back_of body_of record_of end_of
upgraded_two = refl

pub upgrade_done : numbered (upgrading two (area 101)).reply ≡ reply 0 0
unfolding upgrading refused_before refused_by wrong_head exceeds limits without front_of back_of
upgrade_done = refl

-- a record as it is written now is none of before, nor is its beginning
pub upgrade_of_three : numbered (upgrading given (area 101)).reply ≡ reply 11 0
unfolding upgrading refused_before refused_by wrong_head
upgrade_of_three = refl

pub upgrade_of_beginning : numbered (upgrading (take 100 given) (area 101)).reply ≡ reply 11 0
unfolding upgrading refused_before refused_by wrong_head
upgrade_of_beginning = refl

pub upgrade_to_100 : upgrading two (area 100) ≡ bad_record (area 100)
unfolding upgrading refused_before refused_by wrong_head exceeds limits without front_of back_of
upgrade_to_100 = refl

-- records of before lent to a call
pub lent_one : numbered (through (reading 2308) one).reply ≡ reply 11 0
unfolding through refused refused_by wrong_head
lent_one = refl

pub lent_two : numbered (through (reading 2308) two).reply ≡ reply 11 0
unfolding through refused refused_by wrong_head
lent_two = refl
