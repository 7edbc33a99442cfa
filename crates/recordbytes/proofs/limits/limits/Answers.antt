-- `limits::limits` meets its contract: both sides compute to the same bytes.
-- Assumes nothing.
use mathlib.Core.Path.{refl}
use Rattle.recordspec.specs.Record.{front_of, back_of, limits}
use Rattle.recordbytes.proofs.limits.limits.Goals as goal

pub returns : goal.returns
unfolding limits front_of back_of
returns c = refl
