-- What a line's answer and a console's turn have to themselves.
--   turn_room  the most of the output that a turn takes
--   Room out   the output has room for a line's answer
-- Assumes nothing.
use Rattle.std.specs.Prelude.{ℕ, ◌+◌, ◌≤◌, length}
use Rattle.text.specs.declared.output.Output.{Output}

-- 32 bytes for a line that was too long, or 4,096 for an answer
abbrev pub turn_room : ℕ
turn_room = 4128

abbrev pub Room : Output → Type 0
Room out = out.at + 4096 ≤ length out.bytes.now
