-- Laws of the receiving side on which the proofs of its functions stand.
--   count_is         a collection whose count is known
--   accepts_reason   the reason is accepted exactly where step 3's test holds
-- Assumes nothing.
use Prim.Native.Nat.{ℕ}
use mathlib.Core.Bool.{Bool, true, false, not, cond, ◌&&◌}
use mathlib.Core.List.{List}
use mathlib.Core.Path.{◌≡◌, refl}
use native.Mathlib.Omega.{arith}
use lib.Dec.{eqb}
use borrow.Author.Tests.{eqb-true}
use Rattle.frame.specs.declared.reason.Reason.TheVariants.{Nothing, Accepted, Crc, Marked, Parity}
use Rattle.frame.specs.Frame.{marked, even, crc_right}
use Rattle.frame.specs.Reason.{is_accepted}
use Rattle.receiver.specs.declared.Collector.{Collector}
use Rattle.receiver.specs.Receiving.{ended_by}

pub count_is : (c : Collector) (n : ℕ) → c.count ≡ n → c ≡ record { symbols = c.symbols; count = n }
count_is c n h = rw (← h)

pub accepts_reason : (s n : ℕ) (l : List ℕ)
    → is_accepted (ended_by s n l) ≡ ((not (marked s) && (not (even s) && eqb n 11)) && crc_right l)
accepts_reason s n l = go (eqb n 0) (marked s) (even s) (eqb n 11) (crc_right l) refl refl
  where
    none : (m v b : Bool) → false ≡ ((not m && (not v && false)) && b)
    none true v b = refl
    none false true b = refl
    none false false b = refl

    go : (z m v f b : Bool) → eqb n 0 ≡ z → eqb n 11 ≡ f
        → is_accepted (cond z Nothing (cond m (Marked n) (cond v (Parity n) (cond f (cond b Accepted Crc) Nothing))))
        ≡ ((not m && (not v && f)) && b)
    go true m v true b y e = absurd (omega (arith, eqb-true n 0 y, eqb-true n 11 e))
    go true m v false b y e = none m v b
    go false true v f b y e = refl
    go false false true f b y e = refl
    go false false false true true y e = refl
    go false false false true false y e = refl
    go false false false false b y e = refl
