-- `reading::symbols_at` meets its contract: each symbol is the number of the two bytes in its place.
-- Assumes nothing.
use Prim.Native.Nat.{ℕ, ◌<◌, ◌+◌, ◌*◌}
use mathlib.Core.Path.{◌≡◌, refl, sym, ap, ap₂, ◌∙◌}
use native.Mathlib.Omega.{arith}
use lib.ListN.{length, get_or, take, drop, length-drop}
use lib.Seq.{length-take-le}
use Rattle.std.proofs.lemmas.List.{get_or-take, get_or-drop}
use Rattle.recordspec.specs.Record.{two_at}
use Rattle.recordspec.proofs.Bytes.{pairs_all}
use Rattle.recordbytes.proofs.reading.symbols_at.Goals as goal
use borrow.Author.Rules.{rules}

pub returns : goal.returns
returns c =
    let area = c.args.area.now in
    let at = c.args.at in
    let symbol : (i : ℕ) → i < 12 → get_or c.from_fn.result i 0 ≡ two_at area (at + 2 * i) =
    λ i h. search (rules, c.from_fn.ensures.items.at i 0 h)
    in
    let byte : (k j : ℕ) → k ≡ at + j → j < 24 → get_or area k 0 ≡ get_or (take 24 (drop at area)) j 0 =
    λ k j e h.
    ap (λ (n : ℕ). get_or area n 0) e ∙ sym (get_or-take 24 (drop at area) j 0 h ∙ get_or-drop at area j 0)
    in
    let long = c.from_fn.ensures.items.long in
    let twice : length (take 24 (drop at area)) ≡ 24 = length-take-le 24 (drop at area) (rw length-drop (omega arith)) in
    pairs_all _ _ (omega arith) (λ i h.
    symbol i (omega arith)
    ∙ ap₂ (λ (x y : ℕ). 256 * x + y) (byte _ (2 * i) refl (omega arith))
    (byte _ (2 * i + 1) (omega arith) (omega arith)))
