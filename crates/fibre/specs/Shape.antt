-- What Rust's types say of an end's words and of a block's: eight of them, of sixteen bits each.
--   Eight l     eight numbers, each below 65,536
--   Shaped e    the words to send, the words being sent and the words received
-- Assumes nothing.
use Rattle.std.specs.Prelude.{ℕ, false, List, ◌≡◌, length}
use Rattle.laws.specs.Above.{above}
use Rattle.fibre.specs.declared.End.{End}

abbrev pub Eight : List ℕ → Type 0
Eight l = (length l ≡ 8) × (above 65535 l ≡ false)

pub record Shaped (e : End) : Type 0 where
  pub transmit : Eight e.transmit.words
  pub sent : Eight e.sent.words
  pub receive : Eight e.receive.words
