-- Lines of a text that comes piece by piece, of which a buffer holds some.
--   newline_of l h      where the newline stands that ends the open line; at the end of what is held where none does
--   stop_of l a e       the end of the line from a to e, without one carriage return
--   passed_of p         what the end of a line is that was passed over; quietly, an empty line
--   found_of p l a e    what the newline at e ends, where the open line begins at a and p says whether it is passed over
--   after_of h a         what is held behind a line, when the next one begins at a
--   open_of h           what is held when no newline was found
--   line_by l h e       the next line, where newline_of l h is e
--   line_of l h          the next line of the text l, of which h is held: a whole one, the end of one that was too long,
--                       or one that is still open
--   Holds h n           what is held of a text in a buffer of n bytes: the open line begins where it was looked at or
--                       before, and that is within what is held
--   Within f n          a whole line that was found stands in a text of n bytes
-- Assumes nothing.
use Rattle.std.specs.Prelude.{ℕ, ◌+◌, ◌-◌, ◌≤◌, Option, Some, None, cond, List, [], ◌∷◌, ◌≡◌, refl, eqb, ltb, get_or}
use Rattle.text.specs.Bytes.{index_of, slice}
use Rattle.text.specs.declared.lines.Found.{Found}
use Rattle.text.specs.declared.lines.Held.{Held}
use Rattle.text.specs.declared.lines.Line.{Line}
use Rattle.text.specs.declared.lines.Passing.{Passing}

abbrev pub newline_of : List ℕ → Held → ℕ
newline_of l h = h.looked + index_of 10 (slice h.looked h.filled l)

abbrev pub stop_of : List ℕ → ℕ → ℕ → ℕ
stop_of l a e = cond (ltb a e) (cond (eqb (get_or l (e - 1) 0) 13) (e - 1) e) e

abbrev pub passed_of : Passing → Found
passed_of Passing.Told = Found.TooLong
passed_of Passing.Quiet = Found.Whole 0 0

abbrev pub found_of : Option Passing → List ℕ → ℕ → ℕ → Found
found_of None l a e = Found.Whole a (stop_of l a e)
found_of (Some p) l a e = passed_of p

abbrev pub after_of : Held → ℕ → Held
after_of h a = record { filled = h.filled; start = a; looked = a; passing = None }

abbrev pub open_of : Held → Held
open_of h = record { filled = h.filled; start = h.start; looked = h.filled; passing = h.passing }

unfoldable pub line_by : List ℕ → Held → ℕ → Line
line_by l h e =
    cond (ltb e h.filled)
    (record { found = found_of h.passing l h.start e; held = after_of h (e + 1) })
    (record { found = Found.Open; held = open_of h })

abbrev pub line_of : List ℕ → Held → Line
line_of l h = line_by l h (newline_of l h)

pub record Holds (h : Held) (n : ℕ) : Type 0 where
  pub begun : h.start ≤ h.looked
  pub order : h.looked ≤ h.filled
  pub inside : h.filled ≤ n

abbrev pub Within : Found → ℕ → Type 0
Within (Found.Whole s e) n = (s ≤ e) × (e ≤ n)
Within Found.TooLong n = Unit {0}
Within Found.Open n = Unit {0}

-- Computed cases. The text is "ab", a carriage return, a newline, "c", a carriage return twice, a newline, "de": twelve
-- bytes are room for it, and ten of them are held.
abbrev text : List ℕ
text = 0x61 ∷ 0x62 ∷ 0x0D ∷ 0x0A ∷ 0x63 ∷ 0x0D ∷ 0x0D ∷ 0x0A ∷ 0x64 ∷ 0x65 ∷ 0x0A ∷ 0x0A ∷ []

-- of ten bytes that are held the open line begins at a, and was looked at up to b
abbrev at : ℕ → ℕ → Option Passing → Held
at a b p = record { filled = 10; start = a; looked = b; passing = p }

abbrev next : Found → Held → Line
next f h = record { found = f; held = h }

-- "ab": the newline and the carriage return before it are no part of the line, and the next one begins behind them
first : line_of text (at 0 0 None) ≡ next (Found.Whole 0 2) (at 4 4 None)
unfolding index_of slice line_by
first = refl

-- it begins where it began, however far it was looked at
looked_at : line_of text (at 0 3 None) ≡ next (Found.Whole 0 2) (at 4 4 None)
unfolding index_of slice line_by
looked_at = refl

-- of two carriage returns the first stays
two_returns : line_of text (at 4 4 None) ≡ next (Found.Whole 4 6) (at 8 8 None)
unfolding index_of slice line_by
two_returns = refl

-- "de" is open: what stands behind what is held does not end it
left_open : line_of text (at 8 8 None) ≡ next Found.Open (at 8 10 None)
unfolding index_of slice line_by
left_open = refl

-- a line that was passed over, told and quietly, and one that still is
told : line_of text (at 0 0 (Some Passing.Told)) ≡ next Found.TooLong (at 4 4 None)
unfolding index_of slice line_by
told = refl

quiet : line_of text (at 0 0 (Some Passing.Quiet)) ≡ next (Found.Whole 0 0) (at 4 4 None)
unfolding index_of slice line_by
quiet = refl

still : line_of text (at 8 8 (Some Passing.Told)) ≡ next Found.Open (at 8 10 (Some Passing.Told))
unfolding index_of slice line_by
still = refl
