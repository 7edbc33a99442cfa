-- The runs of Runs.antt, computed.
--   two_fewer     two blocks offered are not handed over yet
--   reported_tight   so at most one fewer is false
--   splices       direct writes splice two blocks
-- Assumes nothing.
use mathlib.Core.Bool.{xor}
use Prim.Native.Nat.{ℕ, ◌-◌, ◌≤◌}
use mathlib.Core.Bool.{true}
use mathlib.Core.List.{List, ◌++◌}
use mathlib.Core.Path.{◌≡◌, refl, sym, ap, ◌∙◌}
use native.Mathlib.Omega.{arith}
use lib.ListN.{length}
use Rattle.crc.specs.Bits.{odd, bits, number, odd_ones}
use Rattle.crc.specs.Crc.{plus, times, shift, run as fed, crc}
use Rattle.frame.specs.Frame.{generator, stream, crc_of, even, even_symbol, odd_symbol, symbols, build, crc_right}
use Rattle.laws.specs.Above.{above}
use Rattle.joined.specs.Joined.{Direction, a_to_b, b_to_a, run_by, every}
use Rattle.end.specs.Good.{bad}
use Rattle.end.specs.Sending.{acked, frame_start, send_of}
use Rattle.end.specs.Taking.{taken, take_of}
use Rattle.end.specs.Registers.{read_of, write_of}
use Rattle.link.specs.Link.{bytes_of, taking}
use Rattle.link.specs.Link as link
use Rattle.report.specs.Sending.{offer_of, push_of}
use Rattle.report.specs.Taking.{take_of as taken_of, pull_of}
use Rattle.reportblocks.specs.Blocks.{given_by}
use Rattle.reportblocks.specs.Carried.{most_missing}
use Rattle.reportlink.specs.Reporting.{puts, gets}
use Rattle.reportruns.specs.Runs.{cycles, crowding, crowded, later, TwoFewer, ReportedTight, by_hand, direct, spliced}
use Rattle.reportruns.specs.Runs.{Splices}

pub two_fewer : TwoFewer
unfolding run_by taking bytes_of puts gets offer_of push_of taken_of pull_of cycles crowding crowded later
    above bad read_of write_of send_of acked frame_start taken take_of
    odd xor bits number odd_ones plus times shift fed crc
    generator stream crc_of even even_symbol odd_symbol symbols build crc_right
two_fewer = record { offered = refl; handed = refl; handed_later = refl }

-- two blocks, and none: at most one fewer is false
pub reported_tight : ReportedTight
unfolding crowded
reported_tight r =
    let t = r a_to_b 0 0 crowding crowded refl in
    two_more _ (ap length (sym two_fewer.offered ∙ (t.whole ∙ ap (λ (l : List (List ℕ)). l ++ t.rest) two_fewer.handed)))
    t.few
  where
    two_more : (n : ℕ) → 2 ≡ n → n ≤ most_missing - 1 → ⊥
    two_more n e k = omega arith

pub splices : Splices
unfolding run_by every taking bytes_of taken_of given_by by_hand direct spliced
    above bad read_of write_of send_of acked frame_start taken take_of
    odd xor bits number odd_ones plus times shift fed crc
    generator stream crc_of even even_symbol odd_symbol symbols build crc_right
splices = record { ruled = both; handed = refl }
  where
    both : (d : Direction) → link.ruled d 0 0 direct link.reset_world ≡ true
    both a_to_b = refl
    both b_to_a = refl
