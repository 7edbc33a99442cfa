-- What a symbol at fault rules out, with `left` symbols still to come: fault_next of SearchLaws, in the code's own words.
-- Assumes nothing.
use Prim.Native.Nat.{ℕ, suc, ◌+◌, ◌-◌, ◌≤◌, ◌<◌}
use native.Mathlib.Omega.{arith}
use mathlib.Core.Bool.{false}
use mathlib.Core.List.{List}
use mathlib.Core.Path.{◌≡◌, subst}
use lib.ListN.{length, get_or}
use Rattle.frame.specs.Check.{right_at}
use Rattle.finder.specs.Search.{ruled_out}
use Rattle.finder.proofs.SearchLaws.{window, Matching, RuledOut, fault_next}

module _ (l : List ℕ) (at : ℕ) (h : at + 12 ≤ length l) (s : List ℕ) where
  pub fault_rules_out : (left : ℕ) → 0 < left → left ≤ 12 → Matching (window l at) s left
      → right_at (left - 1) (get_or l (at + (left - 1)) 0) ≡ false
      → (n : ℕ) → n ≡ ruled_out (get_or l (at + (left - 1)) 0) (left - 1) → RuledOut l at n
  fault_rules_out left p g m f n e =
      let last : left ≡ suc (left - 1) = omega arith in
      rw e (fault_next l at h s (left - 1) (omega arith) (subst (Matching (window l at) s) last m) f)
