-- `finder::stands` meets its contract, by its two tests. Assumes nothing.
use mathlib.Core.Path.{◌∙◌}
use borrow.Author.Tests.{le-ltb}
use Rattle.frame.proofs.RightLaws.{right_marked}
use Rattle.finder.proofs.SearchLaws.{right_compared}
use Rattle.finder.proofs.stands.Goals as goal

pub returns-then-symbol-lt-MARKED : goal.returns-then-symbol-lt-MARKED
returns-then-symbol-lt-MARKED c =
    right_compared c.args.k c.args.symbol c.parity.result c.if-symbol-lt-MARKED.true c.parity.ensures

pub returns-else-symbol-lt-MARKED : goal.returns-else-symbol-lt-MARKED
returns-else-symbol-lt-MARKED c =
    le-ltb c.args.symbol 512 c.if-symbol-lt-MARKED.false
    ∙ right_marked c.args.k c.args.symbol c.if-symbol-lt-MARKED.false
