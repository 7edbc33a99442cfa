-- Document 01, "Taking, one symbol": the steps of crate receiver on the parts of an end.
--   settled e      step 1: the receive register with expected toggle and acknowledge settled
--   received o e   the end e with the parts of the receiving side as o has them
--   taken s e      the three steps
--   took_of s e    what they give
--   take_of e s     what take gives
-- Assumes nothing.
use Rattle.std.specs.Prelude.{ℕ, cond, ltb}
use Rattle.answer.specs.declared.Answer.TheVariants.{Done, BadEnd, BadSymbol}
use Rattle.frame.specs.declared.reason.Reason.TheVariants.{Nothing}
use Rattle.receiver.specs.declared.Inbox.{Inbox}
use Rattle.receiver.specs.Receiving.{settled_by, reason_by, Outcome, steps_of}
use Rattle.end.specs.declared.End.{End}
use Rattle.end.specs.declared.Taken.{Taken}
use Rattle.end.specs.Good.{bad}

abbrev pub settled : End → Inbox
settled e = settled_by e.heard e.inbox

abbrev pub received : Outcome → End → End
received o e = record {
  sender = e.sender;
  outbox = e.outbox;
  collector = o.collector;
  heard = o.heard;
  inbox = o.inbox;
  counts = o.counts;
  presence = o.presence;
}

unfoldable pub taken : ℕ → End → End
taken s e = received (steps_of s e.collector e.heard e.inbox e.counts e.presence) e

abbrev pub took_of : ℕ → End → Taken
took_of s e = record { answer = Done; reason = reason_by s e.collector; end = taken s e }

unfoldable pub take_of : End → ℕ → Taken
take_of e s =
    cond (bad e)
    (record { answer = BadEnd; reason = Nothing; end = e })
    (cond (ltb 1023 s)
    (record { answer = BadSymbol; reason = Nothing; end = e })
    (took_of s e))
