-- `benchcommands::bytes::bytes_of` meets its contract: each number's lowest eight bits stand in its place.
-- Assumes nothing.
use Rattle.std.proofs.Common.{◌%◌, ◌≡◌, map, length, take}
use Rattle.benchcommands.proofs.bytes.bytes_of.Given as goal

abbrev pub invariant-loop-i : goal.invariant-loop-i
invariant-loop-i g l = record {
  room : length l.bytes ≡ length l.list;
  filled : take l.i l.bytes ≡ map (λ x. x % 256) (take l.i l.list);
}
