-- `frame::words::crc_of` meets its contract, by the parity that its remainder lacks. Assumes nothing.
use mathlib.Core.Bool.{true, false}
use mathlib.Core.Path.{sym, ◌∙◌}
use Rattle.frame.proofs.QuickLaws.{crc_widened}
use Rattle.frame.proofs.words.crc_of.Goals as goal

pub returns-then-odd : goal.returns-then-odd
returns-then-odd c =
    crc_widened c.args.first c.args.second c.args.third _ _ _ _ _ true c.ranges.first.fits c.ranges.second.fits
    c.ranges.third.fits c.from-a.ensures c.from-b.ensures c.from-c.ensures c.from.ensures c.from-2.ensures
    (sym c.if-odd.true ∙ c.odd.ensures)

pub returns-else-odd : goal.returns-else-odd
returns-else-odd c =
    crc_widened c.args.first c.args.second c.args.third _ _ _ _ _ false c.ranges.first.fits c.ranges.second.fits
    c.ranges.third.fits c.from-a.ensures c.from-b.ensures c.from-c.ensures c.from.ensures c.from-2.ensures
    (sym c.if-odd.false ∙ c.odd.ensures)
