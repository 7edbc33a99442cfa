-- `writing::put_each` meets its contract. Assumes nothing.
use Prim.Native.Nat.{ℕ, suc, ◌+◌, ◌<◌}
use native.Mathlib.Nat.{add-zero, add-suc}
use native.Mathlib.Numerals.{add-one}
use native.Mathlib.Omega.{arith}
use mathlib.Core.List.{List, [], ◌∷◌, ◌++◌, append_assoc, append-nil}
use mathlib.Core.Path.{◌≡◌, refl, sym, ap, ◌∙◌}
use lib.ListN.{length, take, set, get_or, length-set}
use lib.Seq.{take-suc, take-suc-set, take_all}
use Rattle.recordbytes.proofs.writing.put_each.Goals as goal

-- Storing the next of l behind what is copied of it already.
one_more : (d p l : List ℕ) (k i : ℕ) → k < length d → i < length l → take k d ≡ p ++ take i l
    → take (suc k) (set d k (get_or l i 0)) ≡ p ++ take (suc i) l
one_more d p l k i h j t =
    take-suc-set d k (get_or l i 0) h
    ∙ (ap (λ (t : List ℕ). t ++ (get_or l i 0 ∷ [])) t
    ∙ (append_assoc p (take i l) (get_or l i 0 ∷ []) ∙ ap (λ (t : List ℕ). p ++ t) (sym (take-suc l i 0 j))))

pub loop-i-init : goal.loop-i-init
loop-i-init c = (c.told-area, rw (add-zero, append-nil) refl)

pub loop-i-preserved : goal.loop-i-preserved
loop-i-preserved c =
    let at = c.loop-i in (
      length-set at.area (c.args.at + at.i) _ ∙ at.invariant.0,
      rw (add-one, add-suc)
          (one_more at.area (take c.args.at c.args.area.now) c.args.bytes.now (c.args.at + at.i) at.i
          (omega (arith, at.invariant.0, c.requires, c.loop-i-test.true)) c.loop-i-test.true at.invariant.1),
    )

pub returns : goal.returns
returns c =
    let bytes = c.args.bytes.now in
    let n : c.loop-i.i ≡ length bytes = omega (arith, c.loop-i-test.false, c.loop-i.auto.i-end) in
    rw (sym n)
    (c.loop-i.invariant.1
    ∙ ap (λ (t : List ℕ). take c.args.at c.args.area.now ++ t) (take_all c.loop-i.i bytes (omega arith)))
