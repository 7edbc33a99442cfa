-- Laws of ends on which the proofs of the calls stand.
--   Limits, Good, good      an end that answer 1 does not meet has each number within its limit
--   slot_position           making a frame leaves the position
-- Assumes nothing.
use Prim.Native.Nat.{ℕ, ◌≤◌}
use mathlib.Core.Bool.{Bool, true, false}
use mathlib.Core.List.{List}
use mathlib.Core.Path.{◌≡◌, refl}
use lib.Dec.{eqb}
use borrow.Author.Tests.{ltb-false}
use Rattle.laws.proofs.Bools.{or_no}
use Rattle.end.specs.declared.End.{End}
use Rattle.laws.specs.Above.{above}
use Rattle.end.specs.Good.{bad}
use Rattle.receiver.specs.Presence.{lasting}
use Rattle.end.specs.Sending.{frame_start, started, slot_of}

-- Ends

pub record Limits (p c : ℕ) (sent collected : List ℕ) (h l q n m left : ℕ) : Type 0 where
  pub position : p ≤ 11
  pub count : c ≤ 11
  pub sending : above 511 sent ≡ false
  pub collecting : above 511 collected ≡ false
  pub health : h ≤ 3
  pub loaded : l ≤ 3
  pub partner : q ≤ 3
  pub number : n ≤ 15
  pub number_in : m ≤ 15
  pub presence : left ≤ lasting

abbrev pub Good : End → Type 0
Good e =
    Limits e.sender.position e.collector.count e.sender.symbols e.collector.symbols
    e.sender.health e.sender.loaded e.heard.health e.outbox.number e.inbox.number
    e.presence

pub good : (e : End) → bad e ≡ false → Good e
unfolding bad
good e h =
    let a = or_no _ _ h in
    let b = or_no _ _ a.1 in
    let c = or_no _ _ b.1 in
    let d = or_no _ _ c.1 in
    let f = or_no _ _ d.1 in
    let g = or_no _ _ f.1 in
    let i = or_no _ _ g.1 in
    let j = or_no _ _ i.1 in
    let k = or_no _ _ j.1 in
    record {
      position = ltb-false _ _ a.0;
      count = ltb-false _ _ b.0;
      sending = c.0;
      collecting = d.0;
      health = ltb-false _ _ f.0;
      loaded = ltb-false _ _ g.0;
      partner = ltb-false _ _ i.0;
      number = ltb-false _ _ j.0;
      number_in = ltb-false _ _ k.0;
      presence = ltb-false _ _ k.1;
    }

started_position : (n : Bool) (e : End) → (started n e).sender.position ≡ e.sender.position
unfolding frame_start
started_position true e = refl
started_position false e = refl

pub slot_position : (e : End) → (slot_of e).sender.position ≡ e.sender.position
slot_position e = started_position (eqb e.sender.position 0) e
