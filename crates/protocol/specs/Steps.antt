-- The steps of document 01's "Sending" and "Taking" that carry messages over, on bits alone: no layout of an end, no
-- frame.
--   num b              1 where b is set, else 0
--   Out                the sending half: pending, ready, sending toggle, register toggle
--   acks, step_one     step 1's test and step 1
--   loads, step_three  step 3's test and step 3
--   In                 the receiving half: expected toggle, acknowledge, full, the register's toggle
--   releases, settle   settling's test and settling
--   enters, enter      whether a frame's message enters the receive register, and its entering
--   emptied            the host has read 3.2317
--   placed, count_with  the collection's symbols and count after one more symbol s, marked where m, even where v; the
--                      count was n
--   completes          that symbol is the twelfth
-- Assumes nothing.
use Rattle.std.specs.Prelude.{ℕ, ◌+◌, Bool, true, false, not, cond, ◌&&◌, ◌||◌, List, eqb, set}
use Rattle.std.specs.Bool.{beq}

abbrev pub num : Bool → ℕ
num b = cond b 1 0

pub record Out : Type 0 where
  pub pending : Bool
  pub ready : Bool
  pub toggle : Bool
  pub register : Bool

abbrev pub acks : Bool → Bool → Bool → Bool
acks ack togack toggle = ack && beq togack toggle

abbrev pub step_one : Bool → Out → Out
step_one a o = record {
  pending = o.pending;
  ready = cond a true o.ready;
  toggle = cond a o.register o.toggle;
  register = o.register;
}

abbrev pub loads : Out → Bool
loads o = o.pending && o.ready

abbrev pub step_three : Bool → Out → Out
step_three l o = record {
  pending = cond l false o.pending;
  ready = cond l false o.ready;
  toggle = o.toggle;
  register = cond l (not o.register) o.register;
}

pub record In : Type 0 where
  pub expected : Bool
  pub acknowledge : Bool
  pub full : Bool
  pub toggle : Bool

abbrev pub releases : Bool → In → Bool
releases valid i = not valid || not i.acknowledge

abbrev pub settle : Bool → Bool → In → In
settle r toggle i = record {
  expected = cond r toggle i.expected;
  acknowledge = cond r false i.acknowledge;
  full = i.full;
  toggle = i.toggle;
}

abbrev pub enters : Bool → Bool → In → Bool
enters valid toggle i = not i.full && (valid && beq toggle i.expected)

abbrev pub enter : Bool → Bool → In → In
enter b toggle i = record {
  expected = cond b (not toggle) i.expected;
  acknowledge = cond b true i.acknowledge;
  full = cond b true i.full;
  toggle = cond b toggle i.toggle;
}

abbrev pub emptied : In → In
emptied i = record { expected = i.expected; acknowledge = i.acknowledge; full = false; toggle = i.toggle }

abbrev pub placed : {S : Type 0} → Bool → Bool → S → List S → ℕ → List S
placed m v s l n = cond m l (cond v (set l 0 s) (cond (eqb n 0) l (set l n s)))

abbrev pub count_with : Bool → Bool → ℕ → ℕ
count_with m v n = cond m 0 (cond v 1 (cond (eqb n 0) 0 (cond (eqb n 11) 0 (n + 1))))

abbrev pub completes : Bool → Bool → ℕ → Bool
completes m v n = not m && (not v && eqb n 11)
