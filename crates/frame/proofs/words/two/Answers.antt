-- `frame::words::two` meets its contract. Assumes nothing.
use borrow.Author.Rules.{rules}
use mathlib.Core.Path.{ap, ◌∙◌}
use Rattle.crc.specs.Bits.{bits}
use Rattle.frame.proofs.WordLaws.{two_bytes}
use Rattle.frame.proofs.words.two.Goals as goal

pub returns : goal.returns
returns c = ap (bits 16) c.from_le_bytes.ensures ∙ two_bytes c.args.bytes (search rules) (search rules)
