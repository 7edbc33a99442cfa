-- `message::message_of` meets its contract. The invariant: the bytes before i are those of the symbols.
-- Assumes nothing.
use mathlib.Core.List.{map}
use mathlib.Core.Path.{◌≡◌}
use lib.ListN.{length, take, drop}
use Rattle.frame.specs.Frame.{data_of}
use Rattle.receiver.proofs.message.message_of.Given as goal

abbrev pub invariant-loop-i : goal.invariant-loop-i
invariant-loop-i l =
    (length l.byte-items ≡ 8) × (take l.i l.byte-items ≡ map data_of (take l.i (drop 2 l.symbols)))
