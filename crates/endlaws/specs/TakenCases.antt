-- Closed cases that guard the definitions of Taken.antt, Reasons.antt, Counted.antt and Presence.antt: P11 of document
-- 01, P1's frame taken after reset, collections that end in each way, how they are counted, and presence at its end.
-- Assumes nothing.
use Rattle.std.specs.Prelude.{ℕ, true, false, List, [], ◌∷◌, ◌++◌, map, ◌≡◌, refl, ltb, replicate}
use Rattle.std.proofs.Math.Bool.{xor}
use Rattle.std.proofs.Common.{inl, inr}
use Rattle.crc.specs.Bits.{odd, bits, number, odd_ones}
use Rattle.crc.specs.Crc.{plus, times, shift, run, crc}
use Rattle.frame.specs.Frame.{generator, stream, crc_of, even, even_symbol, odd_symbol, symbols, build, crc_right}
use Rattle.frame.specs.declared.reason.Reason.{Reason}
use Rattle.frame.specs.declared.reason.Reason.TheVariants.{Nothing, Accepted, Crc, Marked, Parity}
use Rattle.frame.specs.Reason.{reason_number, place_of}
use Rattle.end.specs.declared.End.{End}
use Rattle.receiver.specs.Counting.{no_counts, tallied, listed}
use Rattle.laws.specs.Above.{above}
use Rattle.end.specs.Good.{bad, reset_of}
use Rattle.end.specs.Sending.{acked, frame_start, send_of}
use Rattle.end.specs.Taking.{taken, take_of}
use Rattle.end.specs.Registers.{read_of}
use Rattle.end.specs.Calls.{Call, calls, reached}
use Rattle.endlaws.specs.Counted.{how_many, grown}
use Rattle.endlaws.specs.Presence.{lapses, Steady}
use Rattle.endlaws.specs.Reasons.{reasons}
use Rattle.endlaws.specs.Taken.{takes, last_twelve, acceptances, at_last}

p11 : takes (Call.take 1023 ∷ Call.send ∷ Call.take 1024 ∷ Call.take 7 ∷ []) ≡ 1023 ∷ 7 ∷ []
unfolding takes
p11 = refl

thirteen : last_twelve (5 ∷ 6 ∷ replicate 11 0) ≡ 6 ∷ replicate 11 0
unfolding last_twelve
thirteen = refl

p1 : List Call
p1 = Call.take 0 ∷ Call.read 2313 ∷ map Call.take (replicate 11 0x100)

p1_accepted : acceptances p1 reset_of ≡ at_last
unfolding p1 acceptances odd bits odd_ones number plus times shift run crc generator stream crc_of even crc_right above bad
    taken take_of read_of xor
p1_accepted = refl

-- a reason by its numbers
abbrev numbers : Reason → ℕ × ℕ
numbers r = (reason_number r, place_of r)

abbrev nothing : ℕ × ℕ
nothing = (0, 0)

-- a mark and an odd symbol on an empty collection; two symbols and a mark; a mark again, on an empty collection; three
-- symbols and an even one, which starts a collection; an even one, and a symbol that is refused
breaks : List Call
breaks =
    map Call.take
    (0x200 ∷ 0x100 ∷ 0x000 ∷ 0x100 ∷ 0x300 ∷ 0x200 ∷ 0x000 ∷ 0x100 ∷ 0x100 ∷ 0x000 ∷ 0x000 ∷ 0x400 ∷ [])

-- then the rest of P1's frame, and a frame with a wrong CRC
twelfths : List Call
twelfths = map Call.take (replicate 11 0x100 ++ (0x000 ∷ replicate 10 0x100) ++ (0x001 ∷ []))

all_reasons : map numbers (reasons (breaks ++ twelfths) reset_of)
    ≡ (nothing ∷ nothing ∷ nothing ∷ nothing ∷ (3, 2) ∷ nothing ∷ nothing ∷ nothing ∷ nothing ∷ (4, 3) ∷ (4, 1) ∷ [])
    ++ replicate 10 nothing ++ ((1, 0) ∷ []) ++ replicate 11 nothing ++ ((2, 0) ∷ [])
unfolding breaks twelfths reasons odd bits odd_ones number plus times shift run crc generator stream crc_of even crc_right
    above bad taken take_of read_of xor
all_reasons = refl

-- each way as often as the reason's number: the mark with which the second round begins breaks what the first one left
wrong : List Call
wrong = map Call.take (0x000 ∷ replicate 10 0x100 ++ (0x001 ∷ []))

counted : listed (reached (breaks ++ breaks ++ twelfths ++ wrong)).counts ≡ 1 ∷ 2 ∷ 3 ∷ 4 ∷ []
unfolding breaks twelfths wrong reached calls tallied odd bits odd_ones number plus times shift run crc generator stream
    crc_of even crc_right above bad taken take_of read_of xor
counted = refl

-- a count stops at 65,535, and stays there
nearly : End
nearly = record {
  sender = reset_of.sender;
  outbox = reset_of.outbox;
  collector = reset_of.collector;
  heard = reset_of.heard;
  inbox = reset_of.inbox;
  counts = record { accepted = 65535; crc = 65534; marked = 65533; early = 65534 };
  presence = 0;
}

stopped : listed (calls (breaks ++ breaks ++ twelfths ++ wrong) nearly).counts ≡ 65535 ∷ 65535 ∷ 65535 ∷ 65535 ∷ []
unfolding breaks twelfths wrong nearly calls tallied odd bits odd_ones number plus times shift run crc generator stream
    crc_of even crc_right above bad taken take_of read_of xor
stopped = refl

-- the reasons that are counted, each for its own count
by_kind : grown no_counts (Accepted ∷ Crc ∷ Crc ∷ Nothing ∷ Parity 3 ∷ Marked 2 ∷ Crc ∷ Parity 1 ∷ [])
    ≡ record { accepted = 1; crc = 3; marked = 1; early = 2 }
unfolding how_many
by_kind = refl

-- presence is whole after P1's frame; a mark, an odd symbol and an even one are each one symbol less, a refused one is
-- none, nor are a read and a send
older : List Call
older = Call.take 0x200 ∷ Call.read 2308 ∷ Call.take 0x100 ∷ Call.take 0x400 ∷ Call.send ∷ Call.take 0x000 ∷ []

begun : (reached p1).presence ≡ 768
unfolding p1 reached calls tallied odd bits odd_ones number plus times shift run crc generator stream crc_of even crc_right
    above bad taken take_of read_of xor
begun = refl

after_three : (reached (p1 ++ older)).presence ≡ 765
unfolding p1 older reached calls tallied odd bits odd_ones number plus times shift run crc generator stream crc_of even
    crc_right above bad taken take_of read_of send_of acked frame_start build symbols even_symbol odd_symbol xor
after_three = refl

-- 767 later symbols and 768
last_one : ltb 0 (lapses (true ∷ replicate 767 false) 5) ≡ true
unfolding lapses
last_one = refl

none_left : ltb 0 (lapses (true ∷ replicate 768 false) 5) ≡ false
unfolding lapses
none_left = refl

-- one same symbol, with marks of two kinds between
steady : Steady 0x100 (takes (map Call.take (0x100 ∷ 0x300 ∷ 0x3FF ∷ 0x100 ∷ [])))
unfolding takes
steady = (inl refl, (inr refl, (inr refl, (inl refl, tt))))
