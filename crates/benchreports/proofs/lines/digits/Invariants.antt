-- `benchreports::lines::digits` meets its contract. What is printed, and the digits of the bytes to come, are those of
-- the whole block.
-- Assumes nothing.
use Rattle.std.proofs.Common.{◌++◌, ◌≡◌, ◌+◌, ◌*◌, length, take, drop}
use Rattle.benchreports.specs.Told.{digits_of}
use Rattle.benchreports.proofs.lines.digits.Given as goal

abbrev pub invariant-loop-byte : goal.invariant-loop-byte
invariant-loop-byte l = record {
  place : l.out.at ≡ l.initial.out.at + 2 * l.byte-index;
  same_reference : l.out.bytes.ghost_name ≡ l.initial.out.bytes.ghost_name;
  room : length l.out.bytes.now ≡ length l.initial.out.bytes.now;
  written : take l.out.at l.out.bytes.now ++ digits_of (drop l.byte-index l.byte-items)
      ≡ take l.initial.out.at l.initial.out.bytes.now ++ digits_of l.byte-items;
}
