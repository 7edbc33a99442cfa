-- What the C side gets of a reply.
--   numbered r      the answer's number, and the value
--   told t          of a take that says why: the answer's number, the reason's, and the symbols of a broken collection
--   counted c       of asking for the counts: the answer's number, and the counts
-- Assumes nothing.
use Rattle.answer.specs.Number.{number_of}
use Rattle.frame.specs.Reason.{reason_number, place_of}
use Rattle.record.specs.declared.Counted.{Counted}
use Rattle.record.specs.declared.Reply.{Reply}
use Rattle.record.specs.declared.Told.{Told}
use Rattle.simhadol.specs.declared.SimhadolCounted.{SimhadolCounted}
use Rattle.simhadol.specs.declared.SimhadolReply.{SimhadolReply}
use Rattle.simhadol.specs.declared.SimhadolTaken.{SimhadolTaken}

abbrev pub numbered : Reply → SimhadolReply
numbered r = record { answer = number_of r.answer; value = r.value }

abbrev pub told : Told → SimhadolTaken
told t = record {
  answer = number_of t.answer;
  reason = reason_number t.reason;
  symbols = place_of t.reason;
}

abbrev pub counted : Counted → SimhadolCounted
counted c = record {
  answer = number_of c.answer;
  accepted = c.counts.accepted;
  crc = c.counts.crc;
  marked = c.counts.marked;
  early = c.counts.early;
}
