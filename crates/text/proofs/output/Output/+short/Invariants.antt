-- `text::output::Output::short` meets its contract: the digits but the last one are put by a call of itself, with room
-- for one digit less, which is the measure.
-- Assumes nothing.
use Rattle.text.proofs.output.Output.+short.Given as goal

abbrev pub decreases-short : goal.decreases-short
decreases-short l = l.most
