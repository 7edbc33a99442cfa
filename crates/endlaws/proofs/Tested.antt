-- The tests of the definitions decide the rows of the answer table.
--   met, outside_row, received_row, read_only_row, pending_row   rows 1, 2, 3, 10 and 4 (for rows 5 and 6, a number
--                                                                above a limit: above_row of crate laws)
-- Assumes nothing.
use Prim.Native.Nat.{ℕ, ◌+◌, ◌<◌, ◌≤◌, ◌/◌, ◌%◌}
use mathlib.Core.Bool.{Bool, true, false, not, ◌||◌, true≢false}
use mathlib.Core.List.{List}
use mathlib.Core.Logic.{◌⊎◌, inl, inr, ⊎_elim}
use mathlib.Core.Path.{◌≡◌, refl, subst}
use native.Mathlib.Omega.{arith}
use lib.Dec.{eqb, ltb}
use lib.ListN.{get_or}
use borrow.Author.Tests.{ltb-true, leb-true, leb-false, eqb-true, eqb-false}
use Rattle.crc.specs.Bits.{odd}
use Rattle.end.specs.declared.End.{End}
use Rattle.laws.specs.Above.{above}
use Rattle.end.specs.Good.{bad}
use Rattle.end.specs.Registers.{outside, read_only, read_only_bits, blocked}
use Rattle.endlaws.specs.Rows.{Met, Outside, Received, ReadOnlyBit, SetsReadOnly, Pending}
use Rattle.laws.proofs.AboveLaws.{above_get_d, above_some}
use Rattle.laws.proofs.Bools.{or_cases}
use Rattle.laws.proofs.Decide.{Decides, decides_or, decides_and, above_not, above_row, eq_row, set_row}
use Rattle.endlaws.proofs.Goods.{good}
use Rattle.laws.proofs.Stretch.{Bit, stretch_row}

-- a stored symbol above 511 stands somewhere
some_at : {C : Type 0} (l : List ℕ) → ((i : ℕ) → 511 < get_or l i 0 → C) → above 511 l ≡ true → C
some_at l f h = let (i, _, k) = above_some 511 l h in f i k

met_holds : (e : End) → bad e ≡ true → Met e
unfolding bad
met_holds e =
    or_cases _ _ (λ t. Met.position (ltb-true _ _ t))
    (or_cases _ _ (λ t. Met.count (ltb-true _ _ t))
    (or_cases _ _ (some_at _ Met.sending)
    (or_cases _ _ (some_at _ Met.collecting)
    (or_cases _ _ (λ t. Met.health (ltb-true _ _ t))
    (or_cases _ _ (λ t. Met.loaded (ltb-true _ _ t))
    (or_cases _ _ (λ t. Met.partner (ltb-true _ _ t))
    (or_cases _ _ (λ t. Met.number (ltb-true _ _ t))
    (or_cases _ _ (λ t. Met.received (ltb-true _ _ t)) (λ t. Met.presence (ltb-true _ _ t))))))))))

met_fails : (e : End) → bad e ≡ false → ¬ Met e
met_fails e h (Met.position k) = above_not k (good e h).position
met_fails e h (Met.count k) = above_not k (good e h).count
met_fails e h (Met.sending i k) = above_not k (above_get_d 511 e.sender.symbols i (good e h).sending)
met_fails e h (Met.collecting i k) = above_not k (above_get_d 511 e.collector.symbols i (good e h).collecting)
met_fails e h (Met.health k) = above_not k (good e h).health
met_fails e h (Met.loaded k) = above_not k (good e h).loaded
met_fails e h (Met.partner k) = above_not k (good e h).partner
met_fails e h (Met.number k) = above_not k (good e h).number
met_fails e h (Met.received k) = above_not k (good e h).number_in
met_fails e h (Met.presence k) = above_not k (good e h).presence

pub met : (e : End) → Decides (bad e) (Met e)
met e = record { holds = met_holds e; fails = met_fails e }

pub outside_row : (r : ℕ) → Decides (outside r) (Outside r)
outside_row r = decides_or (ltb r 2308) (ltb 2317 r) (above_row r 2308) (above_row 2317 r)

within : (r : ℕ) → ¬ Outside r → (2308 ≤ r) × (r ≤ 2317)
within r h =
    let low : ¬ (r < 2308) = λ k. h (inl k) in
    let high : ¬ (2317 < r) = λ k. h (inr k) in
    omega arith

pub received_row : (r : ℕ) → ¬ Outside r → Decides (read_only r) (Received r)
received_row r h = record {
  holds = λ t. (omega (arith, leb-true 2313 r t), (within r h).1);
  fails = λ t k. above_not (leb-false 2313 r t) k.0;
}

-- bits 14:12, bits 7:3 and bits 1:0
abbrev Stretches : ℕ → Type 0
Stretches v = Bit v 12 3 ⊎ (Bit v 3 5 ⊎ Bit v 0 2)

pub read_only_row : (r v : ℕ) → Decides (read_only_bits r v) (SetsReadOnly r v)
read_only_row r v = record { holds = λ t. sets (d.holds t); fails = λ t s. d.fails t (found s) }
  where
    lowest : v / 1 ≡ v
    lowest = omega arith

    d : Decides (read_only_bits r v) ((r ≡ 2308) × Stretches v)
    d =
        decides_and (eqb r 2308) _ (eq_row r 2308)
        (decides_or _ _ (stretch_row v 12 3)
        (decides_or _ _ (stretch_row v 3 5)
        (subst (λ (n : ℕ). Decides (ltb 0 (n % 4)) (Bit v 0 2)) lowest (stretch_row v 0 2))))

    sets : (r ≡ 2308) × Stretches v → SetsReadOnly r v
    sets (q, s) = at s
      where
        one : {k w : ℕ} (b : Bit v k w) → ReadOnlyBit b.at → SetsReadOnly r v
        one b h = record { control = q; bit = b.at; read_only = h; set = b.set }

        at : Stretches v → SetsReadOnly r v
        at (inl b) = one b (inl (omega (arith, b.from), omega (arith, b.below)))
        at (inr (inl b)) = one b (inr (inl (omega (arith, b.from), omega (arith, b.below))))
        at (inr (inr b)) = one b (inr (inr (omega (arith, b.below))))

    found : SetsReadOnly r v → (r ≡ 2308) × Stretches v
    found s = (s.control, at s.read_only)
      where
        bit : (k w : ℕ) → k ≤ s.bit → s.bit < k + w → Bit v k w
        bit k w f b = record { at = s.bit; from = f; below = b; set = s.set }

        at : ReadOnlyBit s.bit → Stretches v
        at (inl h) = inl (bit 12 3 (omega (arith, h.0)) (omega (arith, h.1)))
        at (inr (inl h)) = inr (inl (bit 3 5 (omega (arith, h.0)) (omega (arith, h.1))))
        at (inr (inr h)) = inr (inr (bit 0 2 (omega arith) (omega (arith, h))))

bit_row : (n : ℕ) → Decides (odd n) (n % 2 ≡ 1)
unfolding odd
bit_row n = eq_row (n % 2) 1

-- of the registers that can be written: bit 15 of what is written to 3.2308, or another register
blocked_row : (r v : ℕ) (t : Bool) → eqb r 2308 ≡ t → (2308 ≤ r) × (r ≤ 2317) → ¬ Received r
    → Decides (not t || odd (v / 32768)) (((r ≡ 2308) × (v / 32768 % 2 ≡ 1)) ⊎ ((2309 ≤ r) × (r ≤ 2312)))
blocked_row r v true h w n = record {
  holds = λ t. inl (eqb-true r 2308 h, (bit_row (v / 32768)).holds t);
  fails = λ t. ⊎_elim (λ x. (bit_row (v / 32768)).fails t x.1) (λ y. above_not y.0 (same (eqb-true r 2308 h)));
}
  where
    same : r ≡ 2308 → r ≤ 2308
    same e = omega arith
blocked_row r v false h w n = record {
  holds = λ t. inr (next (eqb-false r 2308 h) (λ k. n (k, w.1)));
  fails = λ t. absurd (true≢false t);
}
  where
    next : ¬ (r ≡ 2308) → ¬ (2313 ≤ r) → (2309 ≤ r) × (r ≤ 2312)
    next a b = omega arith

pub pending_row : (e : End) (r v : ℕ) → ¬ Outside r → ¬ Received r → Decides (blocked e r v) (Pending e r v)
pending_row e r v h k =
    decides_and e.outbox.pending (not (eqb r 2308) || odd (v / 32768))
    (set_row e.outbox.pending)
    (blocked_row r v (eqb r 2308) refl (within r h) k)
