-- What simhadol_slots runs: two ends joined with delays 0, a message now and then, and a sum over what is seen.
--   plus s n      the sum s with one number more
--   slot l        both ends send, then both take what arrives
--   reported l n  the host at a writes a message made of the number n
--   emptied l     the host at b reads 3.2313 and 3.2317
--   turn k l      a slot, with host calls before it where k is a multiple of 48
--   run n l       n slots from l on
-- Assumes nothing.
use Rattle.std.specs.Prelude.{ℕ, zero, suc, ◌+◌, ◌*◌, ◌%◌, cond, eqb}
use Rattle.end.specs.Good.{reset_of}
use Rattle.end.specs.Sending.{send_of}
use Rattle.end.specs.Taking.{take_of}
use Rattle.end.specs.Registers.{read_of, write_of}
use Rattle.speed.specs.declared.pair.Pair.{Pair}

abbrev pub plus : ℕ → ℕ → ℕ
plus s n = s % 4294967296 * 31 + n

abbrev pub slot : Pair → Pair
slot l = record {
  a = (take_of (send_of l.a).end (send_of l.b).symbol).end;
  b = (take_of (send_of l.b).end (send_of l.a).symbol).end;
  sum = plus (plus l.sum (send_of l.a).symbol) (send_of l.b).symbol;
}

abbrev pub reported : Pair → ℕ → Pair
reported l n = record {
  a = (write_of (write_of l.a 2309 n).end 2308 (n % 16 * 256 + 32768)).end;
  b = l.b;
  sum = l.sum;
}

abbrev pub emptied : Pair → Pair
emptied l = record {
  a = l.a;
  b = (read_of (read_of l.b 2313).end 2317).end;
  sum = plus (plus l.sum (read_of l.b 2313).value) (read_of (read_of l.b 2313).end 2317).value;
}

abbrev pub turn : ℕ → Pair → Pair
turn k l = cond (eqb (k % 48) 0) (slot (emptied (reported l (k % 65536)))) (slot l)

unfoldable pub run : ℕ → Pair → Pair
run zero l = l
run (suc n) l = run n (turn (suc n) l)

abbrev pub start : Pair
start = record { a = reset_of; b = reset_of; sum = 0 }
