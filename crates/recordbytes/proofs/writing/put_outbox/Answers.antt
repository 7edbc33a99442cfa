-- `writing::put_outbox` meets its contract: one part behind the other.
-- Assumes nothing.
use Prim.Native.Nat.{ℕ}
use mathlib.Core.List.{List, [], ◌∷◌}
use mathlib.Core.Path.{refl}
use lib.ListN.{take}
use Rattle.laws.proofs.Pieces.{known, chained}
use Rattle.recordspec.specs.Record.{flag}
use borrow.Author.Rules.{rules}
use Rattle.recordbytes.proofs.writing.put_outbox.Goals as goal

pub returns : goal.returns
returns c =
    let o = c.args.outbox in
    let first : List ℕ = flag o.pending ∷ flag o.toggle ∷ flag o.received ∷ flag o.confirmed ∷ o.number ∷ flag o.ping ∷ [] in
    chained _ _ (take 32 c.args.area.now) first o.bytes
    (known 32 6 _ _ _ first refl (search rules) c.put.ensures)
    (known 38 8 _ _ o.bytes o.bytes (search rules) refl c.put-2.ensures)
