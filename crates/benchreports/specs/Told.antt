-- What the commands on a reporting host print, request #110: a line each, with its newline.
--   digits_of b       the bytes b in hex, two digits each
--   idle, waits ..    the words, with their spaces
--   said w n          the word w and the number n behind it; answer_line a, the number of the answer a alone
--   push_line p       what push prints
--   took_line t b     what pull prints of a message; b is the block that is handed over, where one is
--   pull_line p b     what pull prints
--   next_of n          the number n that is sent next; - where no block is under way
--   miscounted_line n  what offer prints of n numbers that are no block
--   report_line n m b  what report prints: the number that is next, the number in turn and the part block
-- Assumes nothing.
use Rattle.std.specs.Prelude.{ℕ, cond, List, [], ◌∷◌, ◌++◌, ◌≡◌, refl, ltb, codes}
use Rattle.answer.specs.declared.Answer.{Answer}
use Rattle.answer.specs.Number.{number_of}
use Rattle.report.specs.declared.Push.{Push}
use Rattle.report.specs.declared.Pull.{Pull}
use Rattle.report.specs.declared.Take.{Take}
use Rattle.text.specs.Printed.{decimal_of, hex_of}

unfoldable pub digits_of : List ℕ → List ℕ
digits_of [] = []
digits_of (x ∷ b) = hex_of 2 x ++ digits_of b

-- "idle", "waits", "empty"; "part ", "out ", "block "; "next ", "-", " turn "; a newline
abbrev pub idle : List ℕ
idle = 0x69 ∷ 0x64 ∷ 0x6C ∷ 0x65 ∷ []

abbrev pub waits : List ℕ
waits = 0x77 ∷ 0x61 ∷ 0x69 ∷ 0x74 ∷ 0x73 ∷ []

abbrev pub empty : List ℕ
empty = 0x65 ∷ 0x6D ∷ 0x70 ∷ 0x74 ∷ 0x79 ∷ []

abbrev pub part : List ℕ
part = 0x70 ∷ 0x61 ∷ 0x72 ∷ 0x74 ∷ 0x20 ∷ []

abbrev pub out : List ℕ
out = 0x6F ∷ 0x75 ∷ 0x74 ∷ 0x20 ∷ []

abbrev pub block : List ℕ
block = 0x62 ∷ 0x6C ∷ 0x6F ∷ 0x63 ∷ 0x6B ∷ 0x20 ∷ []

abbrev pub next : List ℕ
next = 0x6E ∷ 0x65 ∷ 0x78 ∷ 0x74 ∷ 0x20 ∷ []

abbrev pub dash : List ℕ
dash = 0x2D ∷ []

abbrev pub turn : List ℕ
turn = 0x20 ∷ 0x74 ∷ 0x75 ∷ 0x72 ∷ 0x6E ∷ 0x20 ∷ []

abbrev pub newline : List ℕ
newline = 0x0A ∷ []

abbrev pub said : List ℕ → ℕ → List ℕ
said w n = (w ++ decimal_of n) ++ newline

abbrev pub answer_line : Answer → List ℕ
answer_line a = said [] (number_of a)

abbrev pub push_line : Push → List ℕ
push_line Push.Idle = idle ++ newline
push_line Push.Waits = waits ++ newline
push_line (Push.Refused a) = answer_line a
push_line (Push.Part n) = said part n

abbrev pub took_line : Take → List ℕ → List ℕ
took_line (Take.Part n) b = said part n
took_line (Take.Out n) b = said out n
took_line Take.Whole b = (block ++ digits_of b) ++ newline

abbrev pub pull_line : Pull → List ℕ → List ℕ
pull_line (Pull.Refused a) b = answer_line a
pull_line Pull.Empty b = empty ++ newline
pull_line (Pull.Took t) b = took_line t b

abbrev pub next_of : ℕ → List ℕ
next_of n = next ++ cond (ltb n 16) (decimal_of n) dash

abbrev pub miscounted_line : ℕ → List ℕ
miscounted_line n = (codes "? " ++ decimal_of n) ++ codes " bytes, not 128\n"

abbrev pub report_line : ℕ → ℕ → List ℕ → List ℕ
report_line n m b = (((next_of n ++ (turn ++ decimal_of m)) ++ (0x20 ∷ part)) ++ digits_of b) ++ newline

-- 0AF5 and the lines "part 15", "next - turn 0 part FF", with their newlines
two_bytes : digits_of (0x0A ∷ 0xF5 ∷ []) ≡ 0x30 ∷ 0x41 ∷ 0x46 ∷ 0x35 ∷ []
unfolding digits_of
two_bytes = refl

last_part : push_line (Push.Part 15) ≡ 0x70 ∷ 0x61 ∷ 0x72 ∷ 0x74 ∷ 0x20 ∷ 0x31 ∷ 0x35 ∷ 0x0A ∷ []
last_part = refl

none_under_way : report_line 16 0 (0xFF ∷ [])
    ≡ 0x6E ∷ 0x65 ∷ 0x78 ∷ 0x74 ∷ 0x20 ∷ 0x2D ∷ 0x20 ∷ 0x74 ∷ 0x75 ∷ 0x72 ∷ 0x6E ∷ 0x20 ∷ 0x30
    ∷ 0x20 ∷ 0x70 ∷ 0x61 ∷ 0x72 ∷ 0x74 ∷ 0x20 ∷ 0x46 ∷ 0x46 ∷ 0x0A ∷ []
unfolding digits_of
none_under_way = refl
