-- `reading::eight_at` meets its contract: each byte is the one in its place.
-- Assumes nothing.
use Prim.Native.Nat.{ℕ, ◌<◌, ◌+◌}
use mathlib.Core.Path.{◌≡◌, sym, ◌∙◌}
use native.Mathlib.Omega.{arith}
use lib.ListN.{get_or, drop, length-drop}
use lib.Seq.{length-take-le}
use Rattle.std.proofs.lemmas.Grind.{same_number_lists}
use Rattle.std.proofs.lemmas.List.{get_or-take, get_or-drop}
use Rattle.recordbytes.proofs.reading.eight_at.Goals as goal
use borrow.Author.Rules.{rules}

pub returns : goal.returns
returns c =
    let area = c.args.area.now in
    let at = c.args.at in
    let byte : (i : ℕ) → i < 8 → get_or c.from_fn.result i 0 ≡ get_or area (at + i) 0 =
    λ i h. search (rules, c.from_fn.ensures.items.at i 0 h)
    in
    let long = c.from_fn.ensures.items.long in
    same_number_lists _ _ (long ∙ sym (length-take-le 8 (drop at area) (rw length-drop (omega arith))))
    (λ i h. byte i (omega arith) ∙ sym (get_or-take 8 (drop at area) i 0 (omega arith) ∙ get_or-drop at area i 0))
