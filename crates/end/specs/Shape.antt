-- What Rust's types say of an end's arrays and counts: how long the arrays are, that a byte is a byte, and that a count
-- has sixteen bits.
--   Typed s c o i k  twelve symbols in s and c, eight bytes in o and i, four counts in k
--   Shaped e         the arrays of the end e (symbols being sent, symbols collected, bytes to send, bytes received),
--                    and its counts
-- Assumes nothing.
use Rattle.std.specs.Prelude.{ℕ, false, List, ◌≡◌, length}
use Rattle.end.specs.declared.End.{End}
use Rattle.receiver.specs.Counting.{most, listed}
use Rattle.laws.specs.Above.{above}

pub record Typed (s c o i k : List ℕ) : Type 0 where
  pub sending : length s ≡ 12
  pub collecting : length c ≡ 12
  pub eight_out : length o ≡ 8
  pub eight_in : length i ≡ 8
  pub bytes_out : above 255 o ≡ false
  pub bytes_in : above 255 i ≡ false
  pub counts : above most k ≡ false

abbrev pub Shaped : End → Type 0
Shaped e =
    Typed e.sender.symbols e.collector.symbols e.outbox.bytes e.inbox.bytes (listed e.counts)
