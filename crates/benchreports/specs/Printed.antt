-- What a call on the reporting host of an end prints, request #110: its line, behind what was printed before.
--   offer_line h l        what offer prints of the list l
--   PrintsOffer h x u v   offer with the list x behind it printed v, and u was printed before; of a list with a fault
--                         what is wrong with it
--   Prints k h e x u v    the same of the call k on the host h and the end e
-- Assumes nothing.
use Rattle.std.specs.Prelude.{cond, List, ◌++◌, ◌≡◌, eqb, length, ℕ}
use Rattle.benchcommands.specs.declared.call.HostCall.{HostCall}
use Rattle.end.specs.declared.End.{End}
use Rattle.report.specs.Sending.{offer_of, push_of}
use Rattle.report.specs.Taking.{pull_of}
use Rattle.text.specs.Numbers.{Numbers, these, wrong}
use Rattle.text.specs.Written.{Told}
use Rattle.benchreports.specs.declared.Host.{Host}
use Rattle.benchreports.specs.Called.{bytes_of}
use Rattle.benchreports.specs.Told.{answer_line, miscounted_line, push_line, pull_line, report_line}

abbrev pub offer_line : Host → List ℕ → List ℕ
offer_line h l =
    cond (eqb (length l) 128) (answer_line (offer_of h.sending (bytes_of l)).answer) (miscounted_line (length l))

abbrev pub PrintsOffer : Host → Numbers → List ℕ → List ℕ → Type 0
PrintsOffer h (these l) u v = v ≡ u ++ offer_line h l
PrintsOffer h (wrong f) u v = Told u v

abbrev pub Prints : HostCall → Host → End → Numbers → List ℕ → List ℕ → Type 0
Prints HostCall.Offer h e x u v = PrintsOffer h x u v
Prints HostCall.Push h e x u v = v ≡ u ++ push_line (push_of h.sending e).what
Prints HostCall.Pull h e x u v = v ≡ u ++ pull_line (pull_of h.taking e).what (pull_of h.taking e).block
Prints HostCall.Report h e x u v = v ≡ u ++ report_line h.sending.next h.taking.turn h.taking.block
