-- Laws of ends on which the proofs of the calls stand.
--   Good, good, good_not   an end is Good, each of its three controls within its limit, exactly when answer 1 does not
--                          meet it
-- Assumes nothing.
use Prim.Native.Nat.{◌≤◌}
use mathlib.Core.Bool.{false}
use mathlib.Core.Path.{◌≡◌}
use borrow.Author.Tests.{le-ltb, ltb-false}
use Rattle.laws.proofs.Bools.{or_no, or_none}
use Rattle.fibre.specs.declared.End.{End}
use Rattle.fibre.specs.Good.{largest, bad}

pub record Good (e : End) : Type 0 where
  pub transmit : e.transmit.control ≤ largest
  pub sent : e.sent.control ≤ largest
  pub receive : e.receive.control ≤ largest

pub good : (e : End) → bad e ≡ false → Good e
unfolding bad
good e h =
    let a = or_no _ _ h in
    let b = or_no _ _ a.1 in
    record { transmit = ltb-false _ _ a.0; sent = ltb-false _ _ b.0; receive = ltb-false _ _ b.1 }

pub good_not : (e : End) → Good e → bad e ≡ false
unfolding bad
good_not e g =
    or_none _ _ (le-ltb _ _ g.transmit) (or_none _ _ (le-ltb _ _ g.sent) (le-ltb _ _ g.receive))
