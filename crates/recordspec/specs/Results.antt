-- What each call of document 01 gives on an end, in one shape for all.
--   Result           the answer; the symbol of a send, the value of a read, 1 for present, else 0; and the next end
--   sending, taking, reading, writing, setting_health, presenting  the calls in that shape; moved, where there is no
--                    value
--   result c e       what the call c gives on the end e
--   asks c           the call c is present, which alone looks at presence
-- Assumes nothing.
use Rattle.std.specs.Prelude.{ℕ, Bool, true, false}
use Rattle.answer.specs.declared.Answer.{Answer}
use Rattle.answer.specs.declared.Answer.TheVariants.{Done}
use Rattle.end.specs.declared.End.{End}
use Rattle.end.specs.declared.Next.{Next}
use Rattle.end.specs.Good.{present_of}
use Rattle.end.specs.Sending.{send_of}
use Rattle.end.specs.Taking.{take_of}
use Rattle.end.specs.Registers.{read_of, write_of, health_of}
use Rattle.end.specs.Calls.{Call, send, take, read, write, health, present}
use Rattle.recordspec.specs.Record.{flag}

pub record Result : Type 0 where
  pub answer : Answer
  pub value : ℕ
  pub end : End

abbrev pub moved : Next → Result
moved n = record { answer = n.answer; value = 0; end = n.end }

abbrev pub sending : End → Result
sending e = record { answer = (send_of e).answer; value = (send_of e).symbol; end = (send_of e).end }

abbrev pub taking : ℕ → End → Result
taking s e = record { answer = (take_of e s).answer; value = 0; end = (take_of e s).end }

abbrev pub reading : ℕ → End → Result
reading r e = record { answer = (read_of e r).answer; value = (read_of e r).value; end = (read_of e r).end }

abbrev pub writing : ℕ → ℕ → End → Result
writing r v e = moved (write_of e r v)

abbrev pub setting_health : ℕ → End → Result
setting_health h e = moved (health_of e h)

abbrev pub presenting : End → Result
presenting e = record { answer = Done; value = flag (present_of e); end = e }

abbrev pub result : Call → End → Result
result send = sending
result (take s) = taking s
result (read r) = reading r
result (write r v h) = writing r v
result (health h) = setting_health h
result present = presenting

abbrev pub asks : Call → Bool
asks send = false
asks (take s) = false
asks (read r) = false
asks (write r v h) = false
asks (health h) = false
asks present = true
