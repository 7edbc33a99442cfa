-- What every run keeps, for one direction: the counts of Chain.antt with what the two sides have.
--   places i t m o   the message in flight where i, and the one that is requested where t
--   Way fa fb        of the near side and the far one, with what is in flight between them: fa to the far side, fb back
--   reset_way        before anything is called or sent
--   same_num, other_num, flipped   toggles as numbers
--   control_fine     what an end that answer 1 does not meet sends, answer 1 does not meet
-- Assumes nothing.
use Prim.{tt}
use Prim.Native.Nat.{ℕ, suc, ◌+◌}
use mathlib.Core.Bool.{Bool, true, false, not, beq, false≢true}
use mathlib.Core.List.{List, [], ◌++◌}
use mathlib.Core.Path.{◌≡◌, refl, sym}
use native.Mathlib.Omega.{arith}
use lib.Dec.{ltb}
use lib.ListN.{length}
use borrow.Author.Tests.{le-ltb}
use Rattle.fibre.specs.declared.End.{End}
use Rattle.fibre.specs.Good.{largest, bad}
use Rattle.fibre.proofs.Laws.{good}
use Rattle.joined.specs.Joined.{also}
use Rattle.protocol.specs.Steps.{num}
use Rattle.fibrelink.specs.Link.{Message, message_of, Side, reset_side}
use Rattle.fibrelink.specs.Demand.{in_flight, pending_in}
use Rattle.fibrelink.proofs.Flight.{Stamp}
use Rattle.fibrelink.proofs.Chain.{Toggles, Chain}

abbrev pub places : Bool → Bool → Message → Message → List Message
places i t m o = also i m [] ++ also t o []

pub record Way (fa fb : List Stamp) (near far : Side) : Type 0 where
  pub near_good : bad near.end ≡ false
  pub far_good : bad far.end ≡ false
  pub gone : ℕ
  pub read : ℕ
  pub chain :
      Chain near.log.load_count near.log.ack_count (length far.log.entered) gone read
      (message_of near.end.sent) fa fb
  pub msgt : Toggles near.end.sent.msgt near.log.load_count
  pub phyt : Toggles near.end.transmit.phyt near.log.ack_count
  pub mert : Toggles near.end.transmit.mert read
  pub sent_phyt : Toggles far.end.sent.phyt (length far.log.entered)
  pub sent_mert : Toggles far.end.sent.mert gone
  pub toggle : far.end.receive.rxval ≡ true → Toggles far.end.receive.toggle (length far.log.entered)
  pub full : length far.log.entered ≡ gone + num far.end.receive.rxval
  pub accepted : near.host.accepted ≡ far.log.entered ++ (in_flight near far ++ pending_in near)
  pub written : near.host.written ≡ near.end.transmit.words

pub reset_way : Way [] [] reset_side reset_side
unfolding bad
reset_way = record {
  near_good = refl;
  far_good = refl;
  gone = 0;
  read = 0;
  chain = record {
    forth = omega arith;
    carried = tt;
    back = omega arith;
    back_gone = omega arith;
    told = tt;
    few = omega arith;
    gone_most = omega arith;
    gone_least = omega arith;
    read_most = omega arith;
    read_least = omega arith;
  };
  msgt = refl;
  phyt = refl;
  mert = refl;
  sent_phyt = refl;
  sent_mert = refl;
  toggle = λ h. absurd (false≢true h);
  full = refl;
  accepted = refl;
  written = refl;
}

-- Toggles and counts

pub same_num : (x y : Bool) → beq x y ≡ true → num x ≡ num y
same_num true true e = refl
same_num true false e = absurd (false≢true e)
same_num false true e = absurd (false≢true e)
same_num false false e = refl

pub other_num : (x y : Bool) → beq x y ≡ false → num x + num y ≡ 1
other_num true true e = absurd (false≢true (sym e))
other_num true false e = refl
other_num false true e = refl
other_num false false e = absurd (false≢true (sym e))

pub flipped : (b : Bool) (n : ℕ) → Toggles b n → Toggles (not b) (suc n)
flipped true n e = omega (arith, e)
flipped false n e = omega (arith, e)

pub control_fine : (e : End) → bad e ≡ false → ltb largest e.sent.control ≡ false
control_fine e g = le-ltb _ _ (good e g).sent
