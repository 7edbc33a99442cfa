-- What the commands on lists print, a line each.
--   largest_of c    the largest number of a list of the command c
--   bytes_of l      the lowest eight bits of each number of l
--   failed_of r     why a frame failed, behind the answer
--   check_line l, find_line l  the lines of the list l
--   crc_line l      the CRC of the ten bytes l, low byte first
--   symbols_of n l  the first n of the twelve symbols l: three digits each, a newline behind the last, else a space
--   build_line l    the frame of the ten bytes l
--   Takes c l       the list l has as many numbers as the command c asks for: any number, or ten
--   line_of c l     the line of the command c on the list l
-- Assumes nothing.
use Rattle.std.specs.Prelude.{ℕ, zero, suc, ◌/◌, ◌%◌, List, [], ◌∷◌, ◌++◌, ◌≡◌, refl, eqb, length, get_or, map, codes}
use Rattle.answer.specs.Number.{number_of}
use Rattle.benchcommands.specs.declared.lists.ListCommand.{ListCommand}
use Rattle.finder.specs.Finder.{find_of, stretch_of}
use Rattle.frame.specs.Frame.{crc_of, build}
use Rattle.frame.specs.Reason.{checked_of}
use Rattle.frame.specs.declared.reason.Reason.{Reason}
use Rattle.text.specs.Printed.{closing_of, decimal_of, hex_of}

abbrev pub largest_of : ListCommand → ℕ
largest_of ListCommand.Check = 65535
largest_of ListCommand.Find = 65535
largest_of ListCommand.Crc = 255
largest_of ListCommand.Build = 255

abbrev pub bytes_of : List ℕ → List ℕ
bytes_of l = map (λ x. x % 256) l

abbrev pub failed_of : Reason → List ℕ
failed_of Reason.Nothing = []
failed_of Reason.Accepted = []
failed_of Reason.Crc = codes " crc"
failed_of (Reason.Marked k) = codes " marked " ++ decimal_of k
failed_of (Reason.Parity k) = codes " parity " ++ decimal_of k

abbrev pub check_line : List ℕ → List ℕ
check_line l = (decimal_of (number_of (checked_of l).answer) ++ failed_of (checked_of l).reason) ++ (10 ∷ [])

abbrev pub find_line : List ℕ → List ℕ
find_line l =
    ((decimal_of (number_of (find_of l).answer) ++ (32 ∷ decimal_of (find_of l).place))
    ++ (32 ∷ decimal_of (length (stretch_of l))))
    ++ (10 ∷ [])

abbrev pub crc_line : List ℕ → List ℕ
crc_line l = ((hex_of 2 (crc_of l % 256) ++ (32 ∷ [])) ++ hex_of 2 (crc_of l / 256)) ++ (10 ∷ [])

unfoldable pub symbols_of : ℕ → List ℕ → List ℕ
symbols_of zero l = []
symbols_of (suc n) l = (symbols_of n l ++ hex_of 3 (get_or l n 0)) ++ (closing_of (eqb n 11) ∷ [])

abbrev pub build_line : List ℕ → List ℕ
build_line l = symbols_of 12 (build l)

abbrev pub Takes : ListCommand → List ℕ → Type 0
Takes ListCommand.Check l = Unit {0}
Takes ListCommand.Find l = Unit {0}
Takes ListCommand.Crc l = length l ≡ 10
Takes ListCommand.Build l = length l ≡ 10

abbrev pub line_of : ListCommand → List ℕ → List ℕ
line_of ListCommand.Check l = check_line l
line_of ListCommand.Find l = find_line l
line_of ListCommand.Crc l = crc_line (bytes_of l)
line_of ListCommand.Build l = build_line (bytes_of l)

-- "0A5 ", of twelve symbols the first one
first_symbol : symbols_of 1 (0xA5 ∷ 0x1FF ∷ []) ≡ 0x30 ∷ 0x41 ∷ 0x35 ∷ 0x20 ∷ []
unfolding symbols_of
first_symbol = refl
