-- The runs of Cases.antt, computed with the real ends, frames and CRC.
--   cases     what Cases.antt says of its runs
-- Assumes nothing.
use mathlib.Core.Bool.{xor}
use mathlib.Core.Path.{refl}
use Rattle.crc.specs.Bits.{odd, bits, number, odd_ones}
use Rattle.crc.specs.Crc.{plus, times, shift, run as fed, crc}
use Rattle.frame.specs.Frame.{generator, stream, crc_of, even, even_symbol, odd_symbol, symbols, build, crc_right}
use Rattle.laws.specs.Above.{above}
use Rattle.end.specs.Good.{bad}
use Rattle.end.specs.Sending.{acked, frame_start, send_of}
use Rattle.end.specs.Taking.{taken, take_of}
use Rattle.end.specs.Registers.{read_of, write_of, health_of}
use Rattle.link.specs.Link.{bytes_of, taking}
use Rattle.report.specs.Sending.{offer_of, push_of}
use Rattle.report.specs.Taking.{take_of as taken_of, pull_of}
use Rattle.reportlink.specs.Reporting.{puts, gets, run_by}
use Rattle.reportlink.specs.Cases.{Cases}

pub cases : Cases
unfolding run_by taking bytes_of puts gets offer_of push_of taken_of pull_of
    above bad read_of write_of health_of send_of acked frame_start taken take_of
    odd xor bits number odd_ones plus times shift fed crc
    generator stream crc_of even even_symbol odd_symbol symbols build crc_right
cases = record {
  fresh_hosts = (refl, refl);
  asked = refl;
  not_offered = refl;
  offered = refl;
  accepted = refl;
  next = refl;
  still_to_send = refl;
  control = refl;
  waits = refl;
  refused = refl;
  goes_on = refl;
  one_offered = refl;
  too_soon = refl;
  none_taken = refl;
  part = refl;
  taken = refl;
  not_handed = refl;
  empty = refl;
  marked = refl;
  marked_then = refl;
  back = refl;
  may_look = refl;
  may_read = refl;
  not_first = refl;
  not_last = refl;
  may_ping = refl;
  not_ask = refl;
  may_write = refl;
  may_health = refl;
  may_ask = refl;
  other_bytes = refl;
  other_ping = refl;
  other_health = refl;
  other_between = refl;
}
