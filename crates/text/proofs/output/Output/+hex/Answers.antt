-- `text::output::Output::hex` meets its contract: the digits but the last one are put by a call of itself, with one
-- digit less.
-- Assumes nothing.
use lib.ListN.{take}
use Rattle.text.proofs.PrintLaws.{hex_put}
use Rattle.text.proofs.output.Output.+hex.Goals as goal

pub returns-then-digits-gt0-clause-written : goal.returns-then-digits-gt0-clause-written
returns-then-digits-gt0-clause-written t c =
    let s = c.args in
    hex_put (take s.self.now.at s.self.now.bytes.now) s.digits s.value c.if-digits-gt0.true c.hex.ensures.written
    c.glyph.ensures c.byte.ensures.written
