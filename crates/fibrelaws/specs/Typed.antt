-- What Rust's types say of calls.
--   Typed c       a block that is taken has eight words of sixteen bits (a value that is written has sixteen bits by
--                 Call itself)
--   AllTyped cs   each of the calls cs is such
-- Assumes nothing.
use Rattle.std.specs.Prelude.{List, [], ◌∷◌}
use Rattle.fibre.specs.Calls.{Call}
use Rattle.fibre.specs.Shape.{Eight}

abbrev pub Typed : Call → Type 0
Typed Call.send = Unit {0}
Typed (Call.take m b) = Eight b.words
Typed (Call.read w) = Unit {0}
Typed (Call.write w v h) = Unit {0}

abbrev pub AllTyped : List Call → Type 0
AllTyped [] = Unit {0}
AllTyped (c ∷ cs) = Typed c × AllTyped cs
