-- Laws on which the proofs of writing part by part stand.
--   built     eight parts, one behind the other
--   built_newer   a record of before as one of now
-- Assumes nothing.
use Prim.Native.Nat.{ℕ, ◌+◌, ◌-◌, ◌≤◌}
use mathlib.Core.List.{List, ◌++◌, append_assoc}
use mathlib.Core.Path.{◌≡◌, sym, ap, ap₂, ◌∙◌}
use native.Mathlib.Omega.{arith}
use lib.ListN.{length, take, drop, replicate, length-drop, length-replicate}
use lib.Seq.{length-take-le}
use Rattle.recordspec.specs.Record.{size, version, size_one, size_two, head_of, without, newer}
use Rattle.laws.proofs.Pieces.{behind, whole}

pub built : {x1 x2 x3 x4 x5 x6 x7 x8 : List ℕ} (h s o c e i k p : List ℕ) → x1 ≡ h → x2 ≡ x1 ++ s → x3 ≡ x2 ++ o
    → x4 ≡ x3 ++ c → x5 ≡ x4 ++ e → x6 ≡ x5 ++ i → x7 ≡ x6 ++ k → x8 ≡ x7 ++ p
    → x8 ≡ h ++ ((s ++ (o ++ c)) ++ ((e ++ (i ++ k)) ++ p))
built h s o c e i k p a1 a2 a3 a4 a5 a6 a7 a8 =
    behind p (behind k (behind i (behind e (behind c (behind o (behind s a1 a2) a3) a4) a5) a6) a7) a8
    ∙ flat h s o c e i k p
  where
    flat : (h s o c e i k p : List ℕ)
        → ((((((h ++ s) ++ o) ++ c) ++ e) ++ i) ++ k) ++ p ≡ h ++ ((s ++ (o ++ c)) ++ ((e ++ (i ++ k)) ++ p))
    flat h s o c e i k p = simp append_assoc

-- a record of before as one of now: its head, its bytes without the bool, and zeros
pub built_newer : (r x1 x2 x3 x4 a b z : List ℕ) → size_one ≤ length r → length r ≤ size_two → length x4 ≡ size
    → a ≡ take 68 (drop 3 r) → b ≡ drop 72 r → z ≡ replicate (102 - length r) 0
    → take 3 x1 ≡ head_of size version → take (3 + length a) x2 ≡ take 3 x1 ++ a
    → take (71 + length b) x3 ≡ take 71 x2 ++ b
    → take (length r - 1 + length z) x4 ≡ take (length r - 1) x3 ++ z → x4 ≡ newer r
unfolding newer without
built_newer r x1 x2 x3 x4 a b z low high long p q s e1 e2 e3 e4 =
    let la : length a ≡ 68 = ap length p ∙ length-take-le 68 (drop 3 r) (rw length-drop (omega arith)) in
    let lb : length b ≡ length r - 72 = ap length q ∙ length-drop 72 r in
    let lz : length z ≡ 102 - length r = ap length s ∙ length-replicate (102 - length r) 0 in
    let at_b : 71 ≡ 3 + length a = omega arith in
    let at-z : length r - 1 ≡ 71 + length b = omega arith in
    let all : length r - 1 + length z ≡ size = omega arith in
    sym (whole size x4 long)
    ∙ (ap (λ (n : ℕ). take n x4) (sym all)
    ∙ (behind z (ap (λ (n : ℕ). take n x3) at-z ∙ behind b (ap (λ (n : ℕ). take n x2) at_b ∙ behind a e1 e2) e3) e4
    ∙ (ap₂ (λ (t u : List ℕ). ((head_of size version ++ t) ++ u) ++ z) p q
    ∙ (ap (λ (t : List ℕ). ((head_of size version ++ take 68 (drop 3 r)) ++ drop 72 r) ++ t) s
    ∙ three (head_of size version) (take 68 (drop 3 r)) (drop 72 r) (replicate (102 - length r) 0)))))
  where
    three : (h a b z : List ℕ) → ((h ++ a) ++ b) ++ z ≡ h ++ ((a ++ b) ++ z)
    three h a b z = simp append_assoc
