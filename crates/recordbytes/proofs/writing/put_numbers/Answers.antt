-- `writing::put_numbers` meets its contract: two bytes for each number.
-- Assumes nothing.
use Prim.Native.Nat.{ℕ, ◌<◌, ◌*◌}
use mathlib.Core.List.{[]}
use mathlib.Core.Path.{◌≡◌, ◌∙◌}
use lib.ListN.{length, get_or}
use native.Mathlib.Omega.{arith}
use borrow.Author.Rules.{rules}
use Rattle.laws.proofs.Pieces.{known}
use Rattle.recordspec.specs.Record.{two, twos}
use Rattle.recordspec.proofs.Bytes.{twos_all}
use Rattle.recordbytes.proofs.writing.put_numbers.Goals as goal

pub returns : goal.returns
returns g c =
    let numbers = c.args.numbers in
    let long : length numbers ≡ g.row.N = search rules in
    let each : (i : ℕ) → i < length numbers → get_or c.map.result i [] ≡ two (get_or numbers i 0) =
    λ i h. let e = c.map.ensures.items.at i 0 [] (omega arith) in search rules
    in
    let bytes = c.as_flattened.ensures.value ∙ twos_all c.map.result numbers (omega arith) each in
    known c.args.at (2 * g.row.N) _ _ _ (twos numbers) (search rules) bytes c.put.ensures
