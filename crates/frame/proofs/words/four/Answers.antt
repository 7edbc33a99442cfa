-- `frame::words::four` meets its contract. Assumes nothing.
use borrow.Author.Rules.{rules}
use mathlib.Core.Path.{ap, ◌∙◌}
use Rattle.crc.specs.Bits.{bits}
use Rattle.frame.proofs.WordLaws.{four_bytes}
use Rattle.frame.proofs.words.four.Goals as goal

pub returns : goal.returns
returns c = ap (bits 32) c.from_le_bytes.ensures ∙ four_bytes c.args.bytes (search rules) (search rules)
