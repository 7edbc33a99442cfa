-- `frame::above` meets its contract: the list has a number above the limit where one of those passed is, or what is left
-- of it has one. Assumes nothing.
use mathlib.Core.Bool.{◌||◌}
use mathlib.Core.Path.{◌≡◌}
use lib.ListN.{drop}
use Rattle.laws.specs.Above.{above}
use Rattle.frame.proofs.above.Given as goal

abbrev pub invariant-loop-number : goal.invariant-loop-number
invariant-loop-number l = (l.found || above l.limit (drop l.number-index l.list)) ≡ above l.limit l.list
