-- `writing::put_inbox` meets its contract: one part behind the other.
-- Assumes nothing.
use Prim.Native.Nat.{ℕ}
use mathlib.Core.List.{List, [], ◌∷◌}
use mathlib.Core.Path.{refl}
use lib.ListN.{take}
use Rattle.laws.proofs.Pieces.{known, chained}
use Rattle.recordspec.specs.Record.{flag}
use borrow.Author.Rules.{rules}
use Rattle.recordbytes.proofs.writing.put_inbox.Goals as goal

pub returns : goal.returns
returns c =
    let o = c.args.inbox in
    let first : List ℕ = flag o.expected ∷ flag o.acknowledge ∷ flag o.full ∷ flag o.toggle ∷ o.number ∷ [] in
    chained _ _ (take 78 c.args.area.now) first o.bytes
    (known 78 5 _ _ _ first refl (search rules) c.put.ensures)
    (known 83 8 _ _ o.bytes o.bytes (search rules) refl c.put-2.ensures)
