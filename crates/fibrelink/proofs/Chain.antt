-- The counts of one direction, from what the near side has heard to what it has loaded: no count is below the one
-- before it, and the last is at most one above the first. So a toggle tells which it is.
--   L H N T M    how many messages the near side has loaded and has heard received, how many entered at the far side,
--                were read out there, and are heard read
--   Toggles b n  the toggle b is that of the count n
--   Carries L m  a block's MSGT is that of its count of loads, and with the last count it carries the message m; answer
--                1 does not meet it
--   Tells        a block's PHYT and MERT are those of its counts; answer 1 does not meet it
--   Chain        the counts with what is in flight: fa to the far side, fb back
--   hold, load   the near side sends, without and with a new message
--   tell         the far side sends
--   hear, enter  a block arrives at the near side; one with a new message at the far side
--   lose_back, lose_forth   a block arrives, and nothing comes of it
--   leave        the far host reads the last word
-- Assumes nothing.
use Prim.Native.Nat.{ℕ, suc, ◌%◌, ◌≤◌}
use mathlib.Core.Bool.{Bool, false}
use mathlib.Core.List.{List, [], ◌∷◌, ◌++◌}
use mathlib.Core.Path.{◌≡◌, sym, subst}
use native.Mathlib.Omega.{arith}
use lib.Dec.{ltb}
use Rattle.fibre.specs.Good.{largest}
use Rattle.protocol.specs.Steps.{num}
use Rattle.fibrelink.specs.Link.{Message, message_of}
use Rattle.fibrelink.proofs.Flight.{Stamp, Down, All, down_within, down_from, down_last}
use Rattle.fibrelink.proofs.Flight.{down_lose, down_all, all_both, all_last}

abbrev pub Toggles : Bool → ℕ → Type 0
Toggles b n = num b ≡ n % 2

pub record Carries (L : ℕ) (m : Message) (x : Stamp) : Type 0 where
  pub msgt : Toggles x.block.msgt x.loads
  pub last : x.loads ≡ L → message_of x.block ≡ m
  pub fine : ltb largest x.block.control ≡ false

pub record Tells (y : Stamp) : Type 0 where
  pub phyt : Toggles y.block.phyt y.entered
  pub mert : Toggles y.block.mert y.gone
  pub most : y.gone ≤ y.entered
  pub least : y.entered ≤ suc y.gone
  pub fine : ltb largest y.block.control ≡ false

pub record Chain (L H N T M : ℕ) (m : Message) (fa fb : List Stamp) : Type 0 where
  pub forth : Down (λ x. x.loads) L N fa
  pub carried : All (Carries L m) fa
  pub back : Down (λ y. y.entered) N H fb
  pub back_gone : Down (λ y. y.gone) T M fb
  pub told : All Tells fb
  pub few : L ≤ suc H
  pub gone_most : T ≤ N
  pub gone_least : N ≤ suc T
  pub read_most : M ≤ H
  pub read_least : H ≤ suc M

module _ {L H N T M : ℕ} {m : Message} {fa fb : List Stamp} (c : Chain L H N T M m fa fb) where
  pub heard_entered : H ≤ N
  heard_entered = down_within (λ y. y.entered) N H fb c.back

  pub entered_loaded : N ≤ L
  entered_loaded = down_within (λ x. x.loads) L N fa c.forth

  pub read_gone : M ≤ T
  read_gone = down_within (λ y. y.gone) T M fb c.back_gone

  -- The near side sends

  pub hold : (x : Stamp) → x.loads ≡ L → Carries L m x → Chain L H N T M m (x ∷ fa) fb
  hold x e k = record {
    forth = (omega (arith, e), subst (λ (n : ℕ). Down (λ x. x.loads) n N fa) (sym e) c.forth);
    carried = (k, c.carried);
    back = c.back;
    back_gone = c.back_gone;
    told = c.told;
    few = c.few;
    gone_most = c.gone_most;
    gone_least = c.gone_least;
    read_most = c.read_most;
    read_least = c.read_least;
  }

  -- what was in flight has an older count
  older : (l : Message) (x : Stamp) → Carries L m x → x.loads ≤ L → Carries (suc L) l x
  older l x k h = record { msgt = k.msgt; last = λ e. absurd (omega (arith, e, h)); fine = k.fine }

  pub load : (l : Message) (x : Stamp) → H ≡ L → x.loads ≡ suc L → Carries (suc L) l x
      → Chain (suc L) H N T M l (x ∷ fa) fb
  load l x q e k = record {
    forth = (omega (arith, e), down_from (λ x. x.loads) L x.loads N fa (omega (arith, e)) c.forth);
    carried = (
      k,
      all_both (Carries L m) (λ x. x.loads ≤ L) (Carries (suc L) l) fa (older l) c.carried
          (down_all (λ x. x.loads) L N fa c.forth),
    );
    back = c.back;
    back_gone = c.back_gone;
    told = c.told;
    few = omega (arith, q);
    gone_most = c.gone_most;
    gone_least = c.gone_least;
    read_most = c.read_most;
    read_least = c.read_least;
  }

  -- The far side sends

  pub tell : (y : Stamp) → y.entered ≡ N → y.gone ≡ T → Tells y → Chain L H N T M m fa (y ∷ fb)
  tell y e g t = record {
    forth = c.forth;
    carried = c.carried;
    back = (omega (arith, e), subst (λ (n : ℕ). Down (λ y. y.entered) n H fb) (sym e) c.back);
    back_gone = (omega (arith, g), subst (λ (n : ℕ). Down (λ y. y.gone) n M fb) (sym g) c.back_gone);
    told = (t, c.told);
    few = c.few;
    gone_most = c.gone_most;
    gone_least = c.gone_least;
    read_most = c.read_most;
    read_least = c.read_least;
  }

  -- The far host reads the last word

  pub leave : suc T ≡ N → Chain L H N N M m fa fb
  leave e = record {
    forth = c.forth;
    carried = c.carried;
    back = c.back;
    back_gone = down_from (λ y. y.gone) T N M fb c.gone_most c.back_gone;
    told = c.told;
    few = c.few;
    gone_most = omega arith;
    gone_least = omega arith;
    read_most = c.read_most;
    read_least = c.read_least;
  }

-- A block arrives at the near side

module _ {L H N T M : ℕ} {m : Message} {fa : List Stamp} (fb : List Stamp) (y : Stamp)
    (c : Chain L H N T M m fa (fb ++ (y ∷ []))) where
  pub hear : Chain L y.entered N T y.gone m fa fb
  hear = record {
    forth = c.forth;
    carried = c.carried;
    back = last.0;
    back_gone = (down_last (λ y. y.gone) T M fb y c.back_gone).0;
    told = (all_last Tells fb y c.told).0;
    few = omega (arith, c.few, last.1);
    gone_most = c.gone_most;
    gone_least = c.gone_least;
    read_most = tells.most;
    read_least = tells.least;
  }
    where
      last : Down (λ y. y.entered) N y.entered fb × (H ≤ y.entered)
      last = down_last (λ y. y.entered) N H fb y c.back

      tells : Tells y
      tells = (all_last Tells fb y c.told).1

  pub told_last : Tells y
  told_last = (all_last Tells fb y c.told).1

  -- it was sent with the count last heard, or with the next one
  pub heard_next : (H ≤ y.entered) × (y.entered ≤ suc H)
  heard_next =
      let last = down_last (λ y. y.entered) N H fb y c.back in
      let upto = down_within (λ y. y.entered) N y.entered fb last.0 in
      let loaded = entered_loaded c in
      (last.1, omega (arith, upto, loaded, c.few))

  pub lose_back : Chain L H N T M m fa fb
  lose_back = record {
    forth = c.forth;
    carried = c.carried;
    back = down_lose (λ y. y.entered) N H fb y c.back;
    back_gone = down_lose (λ y. y.gone) T M fb y c.back_gone;
    told = (all_last Tells fb y c.told).0;
    few = c.few;
    gone_most = c.gone_most;
    gone_least = c.gone_least;
    read_most = c.read_most;
    read_least = c.read_least;
  }

-- A block arrives at the far side

module _ {L H N T M : ℕ} {m : Message} (fa : List Stamp) {fb : List Stamp} (x : Stamp)
    (c : Chain L H N T M m (fa ++ (x ∷ [])) fb) where
  pub carried_last : Carries L m x
  carried_last = (all_last (Carries L m) fa x c.carried).1

  -- it was sent with the count that entered last, or with the next one, which is the last
  pub loads_next : (N ≤ x.loads) × (x.loads ≤ L) × (L ≤ suc N)
  loads_next =
      let last = down_last (λ x. x.loads) L N fa x c.forth in
      let upto = down_within (λ x. x.loads) L x.loads fa last.0 in
      let heard = heard_entered c in
      (last.1, upto, omega (arith, heard, c.few))

  pub lose_forth : Chain L H N T M m fa fb
  lose_forth = record {
    forth = down_lose (λ x. x.loads) L N fa x c.forth;
    carried = (all_last (Carries L m) fa x c.carried).0;
    back = c.back;
    back_gone = c.back_gone;
    told = c.told;
    few = c.few;
    gone_most = c.gone_most;
    gone_least = c.gone_least;
    read_most = c.read_most;
    read_least = c.read_least;
  }

  pub enter : x.loads ≡ suc N → T ≡ N → Chain L H (suc N) T M m fa fb
  enter e g = record {
    forth = subst (λ (n : ℕ). Down (λ x. x.loads) L n fa) e (down_last (λ x. x.loads) L N fa x c.forth).0;
    carried = (all_last (Carries L m) fa x c.carried).0;
    back = down_from (λ y. y.entered) N (suc N) H fb (omega arith) c.back;
    back_gone = c.back_gone;
    told = c.told;
    few = c.few;
    gone_most = omega (arith, g);
    gone_least = omega (arith, g);
    read_most = c.read_most;
    read_least = c.read_least;
  }
