-- Request #106: the counts of an end. What is counted is how collections end, by the reasons of #105.
--   no_counts     all four 0
--   most          where a count stops
--   more n        one more, on a count of n
--   tallied r k   the counts k after a symbol of which the reason r was given
--   listed k      the four counts in the order of the record
-- Assumes nothing.
use Rattle.std.specs.Prelude.{ℕ, ◌+◌, cond, List, [], ◌∷◌, ltb}
use Rattle.frame.specs.declared.reason.Reason.{Reason}
use Rattle.frame.specs.declared.reason.Reason.TheVariants.{Nothing, Accepted, Crc, Marked, Parity}
use Rattle.receiver.specs.declared.Counts.{Counts}

abbrev pub no_counts : Counts
no_counts = record { accepted = 0; crc = 0; marked = 0; early = 0 }

abbrev pub most : ℕ
most = 65535

abbrev pub more : ℕ → ℕ
more n = cond (ltb n most) (n + 1) n

unfoldable pub tallied : Reason → Counts → Counts
tallied Nothing k = k
tallied Accepted k = record { accepted = more k.accepted; crc = k.crc; marked = k.marked; early = k.early }
tallied Crc k = record { accepted = k.accepted; crc = more k.crc; marked = k.marked; early = k.early }
tallied (Marked n) k = record { accepted = k.accepted; crc = k.crc; marked = more k.marked; early = k.early }
tallied (Parity n) k = record { accepted = k.accepted; crc = k.crc; marked = k.marked; early = more k.early }

abbrev pub listed : Counts → List ℕ
listed k = k.accepted ∷ k.crc ∷ k.marked ∷ k.early ∷ []
