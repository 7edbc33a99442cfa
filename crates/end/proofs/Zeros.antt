-- The array that a derived Default gives: each element is 0, so it is n times 0.
-- Assumes nothing.
use Prim.Native.Nat.{ℕ, ◌<◌}
use mathlib.Core.List.{List}
use mathlib.Core.Path.{◌≡◌, sym, subst, ◌∙◌}
use Rattle.std.specs.Prelude.{replicate}
use Rattle.std.specs.Array.{AllOfLen}
use Rattle.std.proofs.lemmas.List.{ext_get_or, length-replicate, get_or-replicate}

pub zeros : (xs : List ℕ) (n : ℕ) → AllOfLen (λ (x : ℕ). x ≡ 0) xs n → xs ≡ replicate n 0
zeros xs n z =
    ext_get_or 0 xs (replicate n 0) (z.long ∙ sym (length-replicate n 0))
    (λ i p.
    let below = subst (λ (k : ℕ). i < k) z.long p in
    z.at i 0 below ∙ sym (get_or-replicate n i 0 0 below))
