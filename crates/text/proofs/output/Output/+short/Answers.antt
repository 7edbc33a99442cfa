-- `text::output::Output::short` meets its contract: the digits but the last one are put by a call of itself, with room
-- for one digit less.
-- Assumes nothing.
use lib.ListN.{take}
use Rattle.text.proofs.PrintLaws.{short_put}
use Rattle.text.proofs.output.Output.+short.Goals as goal

pub returns-clause-written : goal.returns-clause-written
returns-clause-written t c =
    let s = c.args in
    short_put (take s.self.now.at s.self.now.bytes.now) s.base s.most s.value c.if-most-eq0.false
    c.if-value-base.false c.short.ensures.written c.glyph-2.ensures c.byte-2.ensures.written
