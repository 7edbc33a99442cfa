-- `writing::put_presence` meets its contract: two bytes, up to the end.
-- Assumes nothing.
use mathlib.Core.Path.{sym, ◌∙◌}
use Rattle.recordspec.specs.Record.{size}
use Rattle.laws.proofs.Pieces.{whole}
use Rattle.recordbytes.proofs.writing.put_presence.Goals as goal

pub returns : goal.returns
returns c = sym (whole size c.put_numbers.new.area c.put_numbers.array_long) ∙ c.put_numbers.ensures
