-- Request #106: what the counts of an end are after calls.
--   is_crc, is_marked, is_early  what a reason says: failed by the CRC, broken by a mark, broken by an early even symbol
--   how_many bs    how many of bs are true
--   times p rs     how many of the reasons rs say so
--   up_to m n       n, or m where n is more
--   grown k rs     each count of k with as many more as rs has reasons of its kind, or 65,535 where that is more
-- Assumes nothing.
use Rattle.std.specs.Prelude.{ℕ, ◌+◌, Bool, true, false, cond, List, [], ◌∷◌, map, ltb}
use Rattle.frame.specs.declared.reason.Reason.{Reason}
use Rattle.frame.specs.declared.reason.Reason.TheVariants.{Nothing, Accepted, Crc, Marked, Parity}
use Rattle.frame.specs.Reason.{is_accepted}
use Rattle.receiver.specs.declared.Counts.{Counts}

abbrev pub is_crc : Reason → Bool
is_crc Nothing = false
is_crc Accepted = false
is_crc Crc = true
is_crc (Marked n) = false
is_crc (Parity n) = false

abbrev pub is_marked : Reason → Bool
is_marked Nothing = false
is_marked Accepted = false
is_marked Crc = false
is_marked (Marked n) = true
is_marked (Parity n) = false

abbrev pub is_early : Reason → Bool
is_early Nothing = false
is_early Accepted = false
is_early Crc = false
is_early (Marked n) = false
is_early (Parity n) = true

unfoldable pub how_many : List Bool → ℕ
how_many [] = 0
how_many (b ∷ bs) = cond b 1 0 + how_many bs

abbrev pub times : (Reason → Bool) → List Reason → ℕ
times p rs = how_many (map p rs)

abbrev pub up_to : ℕ → ℕ → ℕ
up_to m n = cond (ltb m n) m n

abbrev pub grown : Counts → List Reason → Counts
grown k rs = record {
  accepted = up_to 65535 (k.accepted + times is_accepted rs);
  crc = up_to 65535 (k.crc + times is_crc rs);
  marked = up_to 65535 (k.marked + times is_marked rs);
  early = up_to 65535 (k.early + times is_early rs);
}
