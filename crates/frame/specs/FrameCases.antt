-- Cases P1 to P6 of document 01, the check value that is published for this CRC, and reasons of request #105: they
-- guard the definitions of Frame.antt, Check.antt and Reason.antt.
--   checked l   the number that the frame check gives
--   why l       the number of its reason and the place of the symbol at fault
-- Assumes nothing.
use Rattle.std.specs.Prelude.{ℕ, List, [], ◌∷◌, ◌++◌, ◌≡◌, refl, replicate, set}
use Rattle.answer.specs.Number.{number_of}
use Rattle.crc.specs.Bits.{bits, number, odd_ones}
use Rattle.frame.specs.Check.{right_at, check_of}
use Rattle.laws.specs.Above.{above}
use Rattle.crc.specs.Crc.{crc}
use Rattle.frame.specs.Frame.{generator, stream, crc_of, even, even_symbol, odd_symbol, symbols, build, crc_right}
use Rattle.frame.specs.Frame.{none_marked, all_odd, parities_right, acceptable}
use Rattle.frame.specs.Reason.{reason_number, place_of, fault_from, reason_of, why_of, checked_of}

checked : List ℕ → ℕ
unfolding
    bits number odd_ones crc generator stream crc_of even crc_right none_marked all_odd parities_right acceptable above
    check_of
checked l = number_of (checked_of l).answer

first : List ℕ
first = 0x000 ∷ replicate 11 0x100

p1 : build (replicate 10 0) ≡ first
unfolding bits number odd_ones crc generator stream crc_of even_symbol odd_symbol symbols build first
p1 = refl

p1_acceptable : checked first ≡ 0
unfolding checked first
p1_acceptable = refl

p2 : checked ((0x000 ∷ replicate 8 0x100) ++ (0x080 ∷ 0x001 ∷ 0x1A0 ∷ [])) ≡ 0
unfolding checked
p2 = refl

p3 : checked ((0x000 ∷ replicate 8 0x100) ++ (0x080 ∷ 0x1A0 ∷ 0x001 ∷ [])) ≡ 9
unfolding checked
p3 = refl

p4 : checked ((0x000 ∷ replicate 8 0x100) ++ (0x001 ∷ 0x0C1 ∷ 0x1C0 ∷ [])) ≡ 0
unfolding checked
p4 = refl

p5 : checked (set first 4 0x000) ≡ 9
unfolding checked first
p5 = refl

p6 : checked (set first 4 0x300) ≡ 9
unfolding checked first
p6 = refl

bb3d : crc_of (0x31 ∷ 0x32 ∷ 0x33 ∷ 0x34 ∷ 0x35 ∷ 0x36 ∷ 0x37 ∷ 0x38 ∷ 0x39 ∷ []) ≡ 0xBB3D
unfolding bits number crc generator stream crc_of
bb3d = refl

why : List ℕ → ℕ × ℕ
unfolding bits number odd_ones crc generator stream crc_of even crc_right above right_at fault_from reason_of why_of
why l = (reason_number (checked_of l).reason, place_of (checked_of l).reason)

p1_accepted : why first ≡ (1, 0)
unfolding why first
p1_accepted = refl

p3_crc : why ((0x000 ∷ replicate 8 0x100) ++ (0x080 ∷ 0x1A0 ∷ 0x001 ∷ [])) ≡ (2, 0)
unfolding why
p3_crc = refl

p5_parity : why (set first 4 0x000) ≡ (4, 4)
unfolding why first
p5_parity = refl

p6_marked : why (set first 4 0x300) ≡ (3, 4)
unfolding why first
p6_marked = refl

-- marked, and of the wrong parity as well
marked_wins : why (set first 4 0x200) ≡ (3, 4)
unfolding why first
marked_wins = refl

-- of two faults the lower one, whichever they are
lower_parity : why (set (set first 7 0x300) 4 0x000) ≡ (4, 4)
unfolding why first
lower_parity = refl

lower_marked : why (set (set first 7 0x000) 4 0x300) ≡ (3, 4)
unfolding why first
lower_marked = refl

-- symbol 0 is to be even
odd_first : why (set first 0 0x100) ≡ (4, 0)
unfolding why first
odd_first = refl

-- the wrong data alone, and with the wrong parity: the CRC comes last
data_alone : why (set first 11 0x001) ≡ (2, 0)
unfolding why first
data_alone = refl

data_parity : why (set first 11 0x003) ≡ (4, 11)
unfolding why first
data_parity = refl

-- answers 7 and 5
eleven : why (replicate 11 0x100) ≡ (0, 0)
unfolding why
eleven = refl

no_symbol : why (set (set first 0 0x100) 11 0x400) ≡ (0, 0)
unfolding why first
no_symbol = refl
