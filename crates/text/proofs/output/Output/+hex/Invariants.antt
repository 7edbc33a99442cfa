-- `text::output::Output::hex` meets its contract: the digits but the last one are put by a call of itself, with one
-- digit less, which is the measure.
-- Assumes nothing.
use Rattle.text.proofs.output.Output.+hex.Given as goal

abbrev pub decreases-hex : goal.decreases-hex
decreases-hex l = l.digits
