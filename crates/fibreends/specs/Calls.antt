-- What a call does to an end.
--   performed_of e c   the end e after the call c
--   Answers e r        r is the end e as it was, or after a call that keeps within what lines can ask
-- Assumes nothing.
use Rattle.std.specs.Prelude.{◌≡◌, ◌⊎◌, ◌%◌}
use Rattle.fibre.specs.Good.{reset_of}
use Rattle.fibre.specs.Sending.{send_of}
use Rattle.fibre.specs.Taking.{take_of}
use Rattle.fibre.specs.Words.{read_of, write_of}
use Rattle.fibre.specs.declared.End.{End}
use Rattle.fibrecommands.specs.Calls.{Within}
use Rattle.fibrecommands.specs.declared.call.Call.{Call}
use Rattle.fibrecommands.specs.declared.call.Call.TheVariants.{Reset, Send, Take, Read, Write, Dump, Set}
use Rattle.fibrefields.specs.Fields.{written_of}
use Rattle.fibrefields.specs.Numbers.{block_of, marked_of}

abbrev pub performed_of : End → Call → End
performed_of e Reset = reset_of
performed_of e Send = (send_of e).end
performed_of e (Take l) = (take_of e (marked_of l) (block_of l)).end
performed_of e (Read w) = (read_of e w).end
performed_of e (Write w v) = (write_of e w v).end
performed_of e Dump = e
performed_of e (Set s) = written_of e s.field (s.element % 8) s.value

abbrev pub Answers : End → End → Type 0
Answers e r = (r ≡ e) ⊎ ((c : Call) × Within c × (r ≡ performed_of e c))
