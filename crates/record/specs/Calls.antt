-- The calls on a record: each is the call on the record's end.
--   Called            what a call on a record gives: the reply, and every byte of the record after it
--   bad_record r      answer 11, and the bytes as they were; stored x, the answer of x, and the record of its end
--   through f r       the call f on the record r: answer 11 and the bytes as they were, or the call on its end
--   Made r b P o      a call on the record r that leaves the bytes b and says o: nothing, and the bytes as they were, where
--                     r is refused; else some x with P x n, and the record of the end n
--   reason_through s r  request #105: what becomes of the collection of the record r with the symbol s; nothing is said
--                     of a record that is refused
--   told_by s r       that, with the answer of taking s
--   filled e a        the area a filled with the record of e, where it has the right size
--   resetting a       reset, which asks only for an area of the right size
--   upgrading r a     requests #106 and #107: the area a filled with the record of the end of r, a record of version 1
--                     or 2
--   counts_by r       the counts of the record r; all 0 where it is refused
-- Assumes nothing.
use Rattle.std.specs.Prelude.{ℕ, ◌≡◌, true, false, cond, List, eqb, length, Option, MatchOption}
use Rattle.answer.specs.declared.Answer.TheVariants.{Done, BadRecord}
use Rattle.frame.specs.declared.reason.Reason.{Reason}
use Rattle.frame.specs.declared.reason.Reason.TheVariants.{Nothing}
use Rattle.end.specs.declared.End.{End}
use Rattle.receiver.specs.Counting.{no_counts}
use Rattle.end.specs.Good.{reset_of}
use Rattle.end.specs.Taking.{take_of}
use Rattle.recordspec.specs.Record.{size, record_of, end_of, end_before, refused, neither}
use Rattle.recordspec.specs.Results.{Result, taking}
use Rattle.record.specs.declared.Reply.{Reply}
use Rattle.record.specs.declared.Told.{Told}
use Rattle.record.specs.declared.Counted.{Counted}

pub record Called : Type 0 where
  pub reply : Reply
  pub bytes : List ℕ

abbrev pub bad_reply : Reply
bad_reply = record { answer = BadRecord; value = 0 }

abbrev pub bad_record : List ℕ → Called
bad_record r = record { reply = bad_reply; bytes = r }

abbrev pub stored : Result → Called
stored x = record { reply = record { answer = x.answer; value = x.value }; bytes = record_of x.end }

unfoldable pub through : (End → Result) → List ℕ → Called
through f r = cond (refused r) (bad_record r) (stored (f (end_of r)))

abbrev pub Made : {T : Type 0} → (r b : List ℕ) → (T → End → Type 0) → Option T → Type 0
Made r b P o =
    MatchOption o ((refused r ≡ true) × (b ≡ r))
    (λ x. (refused r ≡ false) × ((n : End) × P x n × (b ≡ record_of n)))

unfoldable pub reason_through : ℕ → List ℕ → Reason
reason_through s r = cond (refused r) Nothing (take_of (end_of r) s).reason

abbrev pub told_by : ℕ → List ℕ → Told
told_by s r = record { answer = (through (taking s) r).reply.answer; reason = reason_through s r }

abbrev pub filled : End → List ℕ → Called
filled e a = cond (eqb (length a) size) (stored (record { answer = Done; value = 0; end = e })) (bad_record a)

unfoldable pub resetting : List ℕ → Called
resetting a = filled reset_of a

unfoldable pub upgrading : List ℕ → List ℕ → Called
upgrading r a = cond (neither r) (bad_record a) (filled (end_before r) a)

unfoldable pub counts_by : List ℕ → Counted
counts_by r =
    cond (refused r)
    (record { answer = BadRecord; counts = no_counts })
    (record { answer = Done; counts = (end_of r).counts })
