-- The counts as C gets them, by the call.
--   counts_offsets   of a record that is not refused: the numbers that stand in its bytes from 91 on, two bytes each
--   all_of k rs       done, and each count of k with as many more as the reasons rs have of its kind, or 65,535 where
--                    that is more
--   reset_told, upgrade_told   after reset or an upgrade and any calls: so many more as reasons were given in them
--   upgrade_one_told   after the upgrade of version 1: so many, as each count is 0 before
-- Assumes nothing.
use Prim.Native.Nat.{ℕ, ◌+◌, ◌*◌}
use mathlib.Core.Bool.{false}
use mathlib.Core.List.{List}
use mathlib.Core.Path.{◌≡◌, ap, ◌∙◌}
use lib.ListN.{length, get_or}
use Rattle.frame.specs.declared.reason.Reason.{Reason}
use Rattle.frame.specs.Reason.{is_accepted}
use Rattle.receiver.specs.declared.Counts.{Counts}
use Rattle.receiver.specs.Counting.{no_counts}
use Rattle.end.specs.Good.{reset_of}
use Rattle.end.specs.Calls.{Call}
use Rattle.endlaws.specs.Counted.{is_crc, is_marked, is_early, times, up_to}
use Rattle.endlaws.specs.Reasons.{reasons}
use Rattle.recordspec.specs.Record.{size, size_one, version_one, end_of, end_before, refused, refused_before, neither}
use Rattle.recordspec.proofs.Before.{one_uncounted}
use Rattle.record.specs.Calls.{resetting, upgrading, counts_by}
use Rattle.record.specs.Runs.{bytes}
use Rattle.record.proofs.Versions.{counts_record, reset_counts, upgrade_counts}
use Rattle.simhadol.specs.Numbered.{counted}
use Rattle.simhadol.specs.declared.SimhadolCounted.{SimhadolCounted}

pub counts_offsets : (r : List ℕ) → refused r ≡ false
    → counted (counts_by r)
    ≡ record {
      answer = 0;
      accepted = 256 * get_or r 91 0 + get_or r 92 0;
      crc = 256 * get_or r 93 0 + get_or r 94 0;
      marked = 256 * get_or r 95 0 + get_or r 96 0;
      early = 256 * get_or r 97 0 + get_or r 98 0;
    }
unfolding end_of
counts_offsets r h = ap counted (counts_record r h)

abbrev pub all_of : Counts → List Reason → SimhadolCounted
all_of k rs = record {
  answer = 0;
  accepted = up_to 65535 (k.accepted + times is_accepted rs);
  crc = up_to 65535 (k.crc + times is_crc rs);
  marked = up_to 65535 (k.marked + times is_marked rs);
  early = up_to 65535 (k.early + times is_early rs);
}

pub reset_told : (cs : List Call) (a : List ℕ) → length a ≡ size
    → counted (counts_by (bytes cs (resetting a).bytes)) ≡ all_of no_counts (reasons cs reset_of)
reset_told cs a l = ap counted (reset_counts cs a l)

pub upgrade_told : (cs : List Call) (r a : List ℕ) → neither r ≡ false → length a ≡ size
    → counted (counts_by (bytes cs (upgrading r a).bytes)) ≡ all_of (end_before r).counts (reasons cs (end_before r))
upgrade_told cs r a h l = ap counted (upgrade_counts cs r a h l)

pub upgrade_one_told : (cs : List Call) (r a : List ℕ) → refused_before size_one version_one r ≡ false → length a ≡ size
    → counted (counts_by (bytes cs (upgrading r a).bytes)) ≡ all_of no_counts (reasons cs (end_before r))
upgrade_one_told cs r a h l =
    upgrade_told cs r a (rw h) l ∙ ap (λ (k : Counts). all_of k (reasons cs (end_before r))) (one_uncounted r h)
