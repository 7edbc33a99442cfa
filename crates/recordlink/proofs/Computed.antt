-- The run of Restored.antt, computed on bytes.
--   twice    a restored record brings a message up twice
-- Assumes nothing.
use mathlib.Core.Bool.{xor}
use mathlib.Core.List.{List, [], ◌∷◌}
use mathlib.Core.Path.{◌≡◌, refl, ap}
use native.Mathlib.Omega.{arith}
use lib.ListN.{length}
use Rattle.crc.specs.Bits.{odd, bits, number, odd_ones}
use Rattle.crc.specs.Crc.{plus, times, shift, run as fed, crc}
use Rattle.frame.specs.Frame.{generator, stream, crc_of, even, even_symbol, odd_symbol, symbols, build, crc_right}
use Rattle.laws.specs.Above.{above}
use Rattle.receiver.specs.Counting.{tallied}
use Rattle.end.specs.Good.{bad}
use Rattle.end.specs.Sending.{acked, frame_start, send_of}
use Rattle.end.specs.Taking.{taken, take_of}
use Rattle.end.specs.Registers.{read_of, write_of}
use Rattle.recordspec.specs.Record.{front_of, back_of, body_of, record_of, end_of, limits, exceeds, wrong_head, refused_by}
use Rattle.recordspec.specs.Record.{refused}
use Rattle.record.specs.Calls.{through, resetting}
use Rattle.link.specs.Link.{Message, bytes_of, run_by, every}
use Rattle.link.specs.Cases.{five}
use Rattle.recordlink.specs.Joined.{taking}
use Rattle.recordlink.specs.Restored.{arrived, took_it, took_again, Twice}

-- one message is no beginning of two
one_less : (l : List Message) → length (five ∷ []) ≡ length (five ∷ five ∷ l) → ⊥
one_less l e = omega arith

pub twice : Twice
unfolding arrived took_it took_again run_by every taking bytes_of through resetting
    front_of back_of body_of record_of end_of limits exceeds wrong_head refused_by refused
    tallied above bad read_of write_of send_of acked frame_start taken take_of
    odd xor bits number odd_ones plus times shift fed crc
    generator stream crc_of even even_symbol odd_symbol symbols build crc_right
twice = record {
  once = refl;
  by_rule = refl;
  accepted = refl;
  taken = refl;
  not_in_turn = λ t. one_less t.rest (ap length t.whole);
}
