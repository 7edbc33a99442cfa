-- Each case of document 01's table, P1 to P11, and each of More.antt comes out as the page says: both sides compute to the
-- same numbers.
-- Assumes nothing.
use Prim.{tt}
use mathlib.Core.Bool.{xor}
use mathlib.Core.Path.{refl}
use Rattle.crc.specs.Bits.{odd, bits, number, odd_ones}
use Rattle.frame.specs.Check.{check_of}
use Rattle.crc.specs.Crc.{plus, times, shift, run as feed, crc}
use Rattle.frame.specs.Frame.{generator, stream, crc_of, even, even_symbol, odd_symbol, symbols, build, crc_right}
use Rattle.frame.specs.Frame.{none_marked, all_odd, parities_right, acceptable}
use Rattle.laws.specs.Above.{above}
use Rattle.end.specs.Good.{bad}
use Rattle.end.specs.Sending.{acked, frame_start, send_of}
use Rattle.end.specs.Taking.{taken, take_of}
use Rattle.end.specs.Registers.{read_of, write_of, health_of}
use Rattle.link.specs.Link.{run_by, taking as taking_side}
use Rattle.cases.specs.Cases.{Case, P1, P2, P3, P4, P5, P6, P7, P8, P9, P10, P11, Agree, table}
use Rattle.cases.specs.More.{Extra, Health, Ping, Toggles, Settling, ReadOnlyBits, taking, more}

pub table_agrees : (c : Case) → Agree (table c)
unfolding table odd bits number odd_ones plus times shift feed crc generator stream crc_of even even_symbol odd_symbol
    symbols build crc_right none_marked all_odd parities_right acceptable xor check_of above bad acked frame_start send_of
    taken take_of read_of write_of run_by taking_side
table_agrees P1 = (refl, (refl, tt))
table_agrees P2 = (refl, tt)
table_agrees P3 = (refl, tt)
table_agrees P4 = (refl, tt)
table_agrees P5 = (refl, tt)
table_agrees P6 = (refl, tt)
table_agrees P7 = (refl, (refl, (refl, tt)))
table_agrees P8 = (refl, (refl, tt))
table_agrees P9 = (refl, tt)
table_agrees P10 = (refl, (refl, (refl, (refl, tt))))
table_agrees P11 = (refl, (refl, tt))

pub more_agrees : (c : Extra) → Agree (more c)
unfolding more taking odd bits number odd_ones plus times shift feed crc generator stream crc_of even even_symbol odd_symbol
    symbols build crc_right none_marked all_odd parities_right acceptable xor check_of above bad acked frame_start send_of
    taken take_of read_of write_of health_of run_by taking_side
more_agrees Health = (refl, (refl, (refl, (refl, tt))))
more_agrees Ping = (refl, (refl, (refl, tt)))
more_agrees Toggles = (refl, (refl, tt))
more_agrees Settling = (refl, (refl, (refl, (refl, tt))))
more_agrees ReadOnlyBits = (refl, (refl, (refl, (refl, (refl, (refl, (refl, (refl, tt))))))))
