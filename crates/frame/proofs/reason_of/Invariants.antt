-- `frame::reason_of` meets its contract: the first fault of the symbols still to come is the whole's. Assumes nothing.
use mathlib.Core.Path.{◌≡◌}
use lib.ListN.{drop}
use Rattle.frame.specs.Reason.{fault_from, reason_of}
use Rattle.frame.proofs.ReasonLaws.{by_crc}
use Rattle.frame.proofs.reason_of.Given as goal

abbrev pub invariant-loop-place : goal.invariant-loop-place
invariant-loop-place l = fault_from l.place (drop l.place l.fn.symbols) (by_crc l.fn.symbols) ≡ reason_of l.fn.symbols
