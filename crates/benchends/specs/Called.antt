-- What a call on an end does to it, and what it prints.
--   end_after c e  the end e after the call c
--   ended_of r     what became of the collection, behind the answer of a take: nothing where none ended
--   answer_line a  the line of the answer a alone
--   line_of c e    the line of the call c on the end e
-- Assumes nothing.
use Rattle.std.specs.Prelude.{ℕ, cond, List, [], ◌∷◌, ◌++◌, ◌≡◌, refl, codes}
use Rattle.answer.specs.declared.Answer.{Answer}
use Rattle.answer.specs.Number.{number_of}
use Rattle.benchcommands.specs.declared.call.Call.{Call}
use Rattle.end.specs.declared.End.{End}
use Rattle.end.specs.Good.{present_of, reset_of}
use Rattle.end.specs.Registers.{read_of, write_of, health_of}
use Rattle.end.specs.Sending.{send_of}
use Rattle.end.specs.Taking.{take_of}
use Rattle.frame.specs.declared.reason.Reason.{Reason}
use Rattle.text.specs.Printed.{decimal_of, valued_of}

abbrev pub end_after : Call → End → End
end_after Call.Reset e = reset_of
end_after Call.Send e = (send_of e).end
end_after (Call.Take s) e = (take_of e s).end
end_after (Call.Read r) e = (read_of e r).end
end_after (Call.Write r v) e = (write_of e r v).end
end_after (Call.Health h) e = (health_of e h).end
end_after Call.Present e = e

abbrev pub ended_of : Reason → List ℕ
ended_of Reason.Nothing = []
ended_of Reason.Accepted = codes " accepted"
ended_of Reason.Crc = codes " crc"
ended_of (Reason.Marked n) = codes " marked " ++ decimal_of n
ended_of (Reason.Parity n) = codes " early " ++ decimal_of n

abbrev pub answer_line : Answer → List ℕ
answer_line a = decimal_of (number_of a) ++ (10 ∷ [])

abbrev pub line_of : Call → End → List ℕ
line_of Call.Reset e = codes "0" ++ (10 ∷ [])
line_of Call.Send e = decimal_of (number_of (send_of e).answer) ++ valued_of 3 (send_of e).symbol
line_of (Call.Take s) e =
    (decimal_of (number_of (take_of e s).answer) ++ ended_of (take_of e s).reason) ++ (10 ∷ [])
line_of (Call.Read r) e = decimal_of (number_of (read_of e r).answer) ++ valued_of 4 (read_of e r).value
line_of (Call.Write r v) e = answer_line (write_of e r v).answer
line_of (Call.Health h) e = answer_line (health_of e h).answer
line_of Call.Present e = cond (present_of e) (codes "yes") (codes "no") ++ (10 ∷ [])

-- after reset, whatever the end was, and after a write of no register: "0" and "2", with their newlines
reset_line : (e : End) → line_of Call.Reset e ≡ 0x30 ∷ 0x0A ∷ []
reset_line e = refl

no_register : answer_line Answer.NoRegister ≡ 0x32 ∷ 0x0A ∷ []
no_register = refl
