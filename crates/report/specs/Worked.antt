-- Hosts and a message for computed cases: all bytes are different.
--   sending_at n   a sending host with a block of the bytes 0 to 127, where number n is next
--   taking_at t    a taking host with such a part block, where number t is in turn
--   worked         the bytes of a message: 200 to 207
-- Assumes nothing.
use Rattle.std.specs.Prelude.{ℕ, List}
use Rattle.report.specs.declared.SendingHost.{SendingHost}
use Rattle.report.specs.declared.TakingHost.{TakingHost}
use Rattle.report.specs.Counting.{counting}

abbrev pub sending_at : ℕ → SendingHost
sending_at n = record { block = counting 0 128; next = n }

abbrev pub taking_at : ℕ → TakingHost
taking_at t = record { block = counting 0 128; turn = t }

abbrev pub worked : List ℕ
worked = counting 200 8
