-- Request #107: presence that lapses.
--   lasting         presence lapses with this many symbols after the one that completes an accepted frame
--   left_after a n  what is left of n after a symbol taken: all of it where a frame was accepted with the symbol (a),
--                   else one less, and 0 stays 0
-- Assumes nothing.
use Rattle.std.specs.Prelude.{ℕ, ◌-◌, Bool, cond}

abbrev pub lasting : ℕ
lasting = 768

abbrev pub left_after : Bool → ℕ → ℕ
left_after a n = cond a lasting (n - 1)
