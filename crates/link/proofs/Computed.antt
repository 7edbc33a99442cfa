-- The runs of Cases.antt and Tight.antt, computed with the real ends, frames and CRC.
--   cases         what Cases.antt says of its runs
--   too_soon      the run with one slot too few
--   bound_tight   hence the bound cannot be smaller
--   most_tight    and neither can the number of messages held
-- Assumes nothing.
use mathlib.Core.Bool.{xor, false≢true}
use mathlib.Core.List.{List, [], ◌∷◌, ◌++◌}
use mathlib.Core.Path.{◌≡◌, refl, sym, ap, ◌∙◌}
use Prim.Native.Nat.{ℕ}
use native.Mathlib.Nat.{le_of_eq}
use native.Mathlib.Omega.{arith}
use lib.ListN.{length, get_or}
use lib.Seq.{get_or-append_seam}
use Rattle.crc.specs.Bits.{odd, bits, number, odd_ones}
use Rattle.crc.specs.Crc.{plus, times, shift, run as fed, crc}
use Rattle.frame.specs.Frame.{generator, stream, crc_of, even, even_symbol, odd_symbol, symbols, build, crc_right}
use Rattle.frame.specs.Frame.{none_marked}
use Rattle.laws.specs.Above.{above}
use Rattle.end.specs.Good.{bad}
use Rattle.end.specs.Sending.{acked, frame_start, send_of}
use Rattle.end.specs.Taking.{taken, take_of}
use Rattle.end.specs.Registers.{read_of, write_of, health_of}
use Rattle.link.specs.Link.{Message, Side, a_to_b, bytes_of, message_written, taking, run_by, every}
use Rattle.link.specs.Demand.{slots, Landed}
use Rattle.link.specs.Tight.{quiet, sixteen, one_slot, asked, short, late, TooSoon, BoundTight, crowded}
use Rattle.link.specs.Tight.{MostTight}
use Rattle.joined.specs.Rule.{reads_from, looked, took, begun}
use Rattle.link.specs.Cases.{five, Cases}

-- message 1 is not five
second_other : {near far : Side} → (get_or far.log.entered 1 five).number ≡ 0 → Landed 1 five near far → ⊥
second_other {far = far} e t = five_zero (sym (ap (λ (m : Message). m.number) at_one) ∙ e)
  where
    five_zero : five.number ≡ 0 → ⊥
    five_zero e = omega arith

    at_one : get_or far.log.entered 1 five ≡ five
    at_one =
        ap (λ (l : List Message). get_or l 1 five) t.entered.2
        ∙ ap (λ (n : ℕ). get_or (t.entered.0 ++ five ∷ t.entered.1) n five) (sym t.entered.3)
        ∙ get_or-append_seam t.entered.0 five t.entered.1 five

pub cases : Cases
unfolding run_by every taking bytes_of reads_from slots none_marked
    above bad read_of write_of health_of send_of acked frame_start taken take_of
    odd xor bits number odd_ones plus times shift fed crc
    generator stream crc_of even even_symbol odd_symbol symbols build crc_right
cases = record {
  accepted = refl;
  not_entered = refl;
  entered = refl;
  status = refl;
  four_reads = refl;
  five_reads = refl;
  not_entered_late = refl;
  entered_late = refl;
  marked = refl;
  marked_next = refl;
  marked_high = refl;
  marked_other = refl;
  marked_at_a = refl;
  marked_at_b = refl;
  early_mark = refl;
  early_counts = refl;
  calls_unmarked = refl;
  not_acknowledged = refl;
  acknowledged = refl;
  untaken = refl;
  refused = refl;
  refused_bytes = refl;
  refused_bits = refl;
  last_written = refl;
  four_bits = refl;
  as_written = refl;
  not_shown = refl;
  shown = refl;
  looked_at = refl;
  second_shown = refl;
  idle_again = record { pending = refl; acknowledged = refl; empty = refl };
  near_full = refl;
  landed_first = record { entered = ([], _, refl, refl); acknowledged = omega arith; shown = λ q. refl };
  not_second = second_other refl;
  not_unseen = λ t. false≢true (t.shown (omega arith));
  take_ruled = refl;
  looks_ruled = refl;
  no_message = refl;
  out_of_order = refl;
  others_ruled = refl;
  others_between = refl;
  by_document =
      took 0x8500 (1 ∷ 2 ∷ 3 ∷ 4 ∷ []) refl refl (looked 0x500 refl (begun 0x8500 (1 ∷ []) refl (omega arith)));
  not_asked = refl;
  near_free = refl;
  near_asked = refl;
  anew_ruled = refl;
  anew = refl;
}

pub too_soon : TooSoon
unfolding one_slot asked late run_by every taking slots none_marked bytes_of
    above bad read_of write_of send_of acked frame_start taken take_of
    odd xor bits number odd_ones plus times shift fed crc
    generator stream crc_of even even_symbol odd_symbol symbols build crc_right
too_soon = record {
  idle = record { pending = refl; acknowledged = refl; empty = refl };
  accepted = refl;
  none_marked = refl;
  slots_are = refl;
  not_yet = refl;
  one_more = refl;
}

pub bound_tight : BoundTight
unfolding one_slot asked late
bound_tight promise = omega (arith, too_soon.not_yet, landed.acknowledged)
  where
    landed : Landed (length one_slot.a.host.accepted) (message_written 0x8000 one_slot.a.host) late.a late.b
    landed =
        promise a_to_b 1 1 (quiet 1) one_slot refl too_soon.idle
        0x8000 sixteen too_soon.accepted asked refl
        (quiet (short 1 1)) too_soon.none_marked (le_of_eq (sym too_soon.slots_are))
        late refl

pub most_tight : MostTight
unfolding crowded run_by taking
    above bad read_of write_of send_of acked frame_start taken take_of
    odd xor bits number odd_ones plus times shift fed crc
    generator stream crc_of even even_symbol odd_symbol symbols build crc_right
most_tight = refl
