-- `refusing::exceeds` meets its contract. The invariant: found so far, or found in what is left.
-- Assumes nothing.
use Prim.Native.Nat.{ℕ}
use mathlib.Core.Bool.{◌||◌}
use mathlib.Core.List.{List}
use mathlib.Core.Path.{sym, ap₂, ◌∙◌}
use Rattle.std.proofs.lemmas.Slice.Zip.{Zip-more, either_empty_from_Zip}
use Rattle.recordspec.specs.Record.{exceeds}
use Rattle.recordspec.proofs.Bytes.{exceeds_next, exceeds_ended}
use Rattle.recordbytes.proofs.refusing.exceeds.Goals as goal

pub loop-byte-preserved : goal.loop-byte-preserved
loop-byte-preserved c =
    let pair = Zip-more c.loop-byte.byte-iterator c.next.new.self _ _ c.in-Some.is c.next.ensures.steps in
    exceeds_next c.loop-byte.found _ _ _ _
    ∙ (ap₂ (λ (l m : List ℕ). c.loop-byte.found || exceeds l m) (sym pair.0) (sym pair.1) ∙ c.loop-byte.invariant)

pub returns : goal.returns
returns c =
    exceeds_ended _ _ _ (either_empty_from_Zip c.loop-byte.byte-iterator c.next.new.self _ c.in-None.is c.next.ensures.steps) ∙ c.loop-byte.invariant
