-- What the steps of the protocol keep, as facts on counts. Of the messages of one direction, acc were accepted, ld
-- loaded, ackd acknowledged, ent entered at the far end and tk taken out there.
--   Sending    what the sending half says of acc, ld and ackd
--   Hearing    what the acknowledgement last heard says: he messages had entered when it was made
--   Receiving  what the receiving half says of ent and tk; the frame last heard was made when ha were acknowledged
-- and for each step, that these are kept. Assumes nothing.
use Prim.Native.Nat.{ℕ, ◌+◌, ◌-◌, ◌*◌, ◌%◌, ◌≤◌, ◌<◌}
use mathlib.Core.Bool.{Bool, true, false, not, cond, false≢true}
use mathlib.Core.Path.{◌≡◌, refl, ap}
use mathlib.Core.Logic.{◌≢◌}
use native.Mathlib.Omega.{arith}
use Rattle.protocol.specs.Steps.{num, Out, acks, step_one, loads, step_three}
use Rattle.protocol.specs.Steps.{In, releases, settle, enters, enter, emptied}

pub record Sending (acc ld ackd : ℕ) (o : Out) : Type 0 where
  pub accepted : acc ≡ ld + num o.pending
  pub loaded : ld + num o.ready ≡ ackd + 1
  pub toggle : num o.toggle ≡ ackd % 2
  pub register : num o.register ≡ ld % 2

pub record Hearing (ackd he : ℕ) (ack togack : Bool) : Type 0 where
  pub from : ackd ≤ he
  pub upto : he ≤ ackd + num ack
  pub some : num ack ≤ he
  pub toggle : num togack ≡ (he - 1) % 2

pub record Receiving (ent tk ha : ℕ) (valid toggle : Bool) (i : In) : Type 0 where
  pub taken : ent ≡ tk + num i.full
  pub expected : num i.expected ≡ ent % 2
  pub register : num i.toggle ≡ (ent - 1) % 2
  pub some : num i.acknowledge ≤ ent
  pub heard : num toggle ≡ ha % 2
  pub entered : 2 * ent ≤ 2 * ha + num valid + num i.acknowledge

pub num_le : (b : Bool) → num b ≤ 1
num_le true = omega arith
num_le false = omega arith

-- numbers of unlike parity are apart
apart : (x y : ℕ) → (x % 2 ≡ y % 2 → ⊥) → x ≤ y → x < y
apart x y f l = let z : x ≢ y = λ e. f (ap (λ (n : ℕ). n % 2) e) in omega arith

-- The sending half

-- step 1 acts exactly where the acknowledgement last heard is newer than the last one acted on
pub acks_heard : (ack togack toggle : Bool) {ackd he : ℕ} → Hearing ackd he ack togack → num toggle ≡ ackd % 2
    → num (acks ack togack toggle) + ackd ≡ he
acks_heard true true true {ackd} {he} h t = let f : he ≤ ackd + 1 = h.upto in omega arith
acks_heard true true false h t = omega arith
acks_heard true false true h t = omega arith
acks_heard true false false h t = omega arith
acks_heard false true true h t = omega arith
acks_heard false true false h t = omega arith
acks_heard false false true h t = omega arith
acks_heard false false false h t = omega arith

pub step_one_sending : (a : Bool) {o : Out} {acc ld ackd he : ℕ} → Sending acc ld ackd o → num a + ackd ≡ he → he ≤ ld
    → Sending acc ld he (step_one a o)
step_one_sending true s e l = omega arith
step_one_sending false s e l = omega arith

abbrev out_of : Bool → Bool → Bool → Bool → Out
out_of p r t g = record { pending = p; ready = r; toggle = t; register = g }

pub step_three_sending : {o : Out} {acc ld ackd : ℕ} → Sending acc ld ackd o
    → Sending acc (ld + num (loads o)) ackd (step_three (loads o) o)
step_three_sending {o} {acc} {ld} {ackd} s = go o.pending o.ready o.toggle o.register s
  where
    go : (p r t g : Bool) → Sending acc ld ackd (out_of p r t g)
        → Sending acc (ld + num (loads (out_of p r t g))) ackd (step_three (loads (out_of p r t g)) (out_of p r t g))
    go true true t true s = omega arith
    go true true t false s = omega arith
    go true false t g s = omega arith
    go false true t g s = omega arith
    go false false t g s = omega arith

-- Valid stands in the frame exactly while the sender is not ready: kept by steps 1 and 3
pub valid_sent : (a : Bool) (o : Out) → cond (loads (step_one a o)) true (cond a false (not o.ready))
    ≡ not (step_three (loads (step_one a o)) (step_one a o)).ready
valid_sent a o = go a o.pending o.ready o.toggle o.register
  where
    go : (a p r t g : Bool) → cond (loads (step_one a (out_of p r t g))) true (cond a false (not r))
        ≡ not (step_three (loads (step_one a (out_of p r t g))) (step_one a (out_of p r t g))).ready
    go true true r t g = refl
    go true false r t g = refl
    go false true true t g = refl
    go false true false t g = refl
    go false false true t g = refl
    go false false false t g = refl

-- what a frame made by the sending half says: its Valid and the counts
pub valid_counts : {acc ld ackd : ℕ} {o : Out} → Sending acc ld ackd o → num (not o.ready) + ackd ≡ ld
valid_counts {acc} {ld} {ackd} {o} s = go o.ready s.loaded
  where
    go : (r : Bool) → ld + num r ≡ ackd + 1 → num (not r) + ackd ≡ ld
    go true e = omega arith
    go false e = omega arith

-- a message that is accepted, and next, is loaded by step 3 at the latest
pub loads_must : {acc ld ackd : ℕ} {o : Out} (k : ℕ) → Sending acc ld ackd o → k ≤ ackd → k < acc
    → k < ld + num (loads o)
loads_must {acc} {ld} {ackd} {o} k s a b = go o.pending o.ready o.toggle o.register s
  where
    go : (p r t g : Bool) → Sending acc ld ackd (out_of p r t g) → k < ld + num (loads (out_of p r t g))
    go true true t g s = omega arith
    go true false t g s = omega arith
    go false true t g s = omega arith
    go false false t g s = omega arith

-- what is in the sender was accepted, and so was what is pending
pub sent_below : {acc ld ackd : ℕ} {o : Out} → Sending acc ld ackd o → o.ready ≡ false → ackd < acc
sent_below {o = o} s q = let r : num o.ready ≡ 0 = ap num q in omega arith

pub pending_below : {acc ld ackd : ℕ} {o : Out} → Sending acc ld ackd o → o.pending ≡ true → ld < acc
pending_below {o = o} s q = let r : num o.pending ≡ 1 = ap num q in omega arith

-- The receiving half

abbrev in_of : Bool → Bool → Bool → Bool → In
in_of x k f g = record { expected = x; acknowledge = k; full = f; toggle = g }

pub settle_receiving : {valid toggle : Bool} {i : In} {ent tk ha : ℕ} → ha ≤ ent → Receiving ent tk ha valid toggle i
    → Receiving ent tk ha valid toggle (settle (releases valid i) toggle i)
settle_receiving {valid} {toggle} {i} {ent} {tk} {ha} l r =
    go valid i.acknowledge i.expected i.full i.toggle r
  where
    go : (v k x f g : Bool) → Receiving ent tk ha v toggle (in_of x k f g)
        → Receiving ent tk ha v toggle (settle (releases v (in_of x k f g)) toggle (in_of x k f g))
    go true true x f g r = r
    go true false x f g r = omega arith
    go false true x f g r = omega arith
    go false false x f g r = omega arith

-- A frame with Valid v and Toggle t, made when a were acknowledged, is heard: no older than the one heard before
module _ {ent tk ha : ℕ} {valid toggle : Bool} (a : ℕ) (upto : a ≤ ent) (v t : Bool) (i : In) (parity : num t ≡ a % 2)
    (newer : 2 * ha + num valid ≤ 2 * a + num v) (r : Receiving ent tk ha valid toggle i) where
  pub enter_receiving : Receiving (ent + num (enters v t i)) tk a v t (enter (enters v t i) t i)
  enter_receiving = go v t i.full i.expected i.acknowledge i.toggle parity newer r
    where
      go : (v t f x k g : Bool) → num t ≡ a % 2 → 2 * ha + num valid ≤ 2 * a + num v
          → Receiving ent tk ha valid toggle (in_of x k f g)
          → Receiving (ent + num (enters v t (in_of x k f g))) tk a v t
          (enter (enters v t (in_of x k f g)) t (in_of x k f g))
      go true true false true true g h n r = omega arith
      go true true false true false g h n r = omega arith
      go true true false false k g h n r = omega (arith, num_le k)
      go true false false true k g h n r = omega (arith, num_le k)
      go true false false false true g h n r = omega arith
      go true false false false false g h n r = omega arith
      go true t true x k g h n r = omega (arith, num_le k)
      go false t true x k g h n r = omega (arith, num_le k)
      go false t false x k g h n r = omega (arith, num_le k)

  -- what enters is the next message, and the register was empty
  pub enters_next : enters v t i ≡ true → (a ≡ ent) × (tk ≡ ent) × (v ≡ true)
  enters_next = go v t i.full i.expected i.acknowledge i.toggle parity newer r
    where
      go : (v t f x k g : Bool) → num t ≡ a % 2 → 2 * ha + num valid ≤ 2 * a + num v
          → Receiving ent tk ha valid toggle (in_of x k f g) → enters v t (in_of x k f g) ≡ true
          → (a ≡ ent) × (tk ≡ ent) × (v ≡ true)
      go true true false true true g h n r e = (omega arith, omega arith, refl)
      go true true false true false g h n r e = (omega arith, omega arith, refl)
      go true true false false k g h n r e = absurd (false≢true e)
      go true false false true k g h n r e = absurd (false≢true e)
      go true false false false true g h n r e = (omega arith, omega arith, refl)
      go true false false false false g h n r e = (omega arith, omega arith, refl)
      go true t true x k g h n r e = absurd (false≢true e)
      go false t true x k g h n r e = absurd (false≢true e)
      go false t false x k g h n r e = absurd (false≢true e)

  -- a frame that carries message k, the register being empty while k is the next one, leaves k entered
  pub enters_must : (k : ℕ) → k ≤ tk → 2 * k + 1 ≤ 2 * a + num v → k < ent + num (enters v t i)
  enters_must k b w = go v t i.full i.expected i.acknowledge i.toggle parity r w
    where
      go : (v t f x n g : Bool) → num t ≡ a % 2 → Receiving ent tk ha valid toggle (in_of x n f g)
          → 2 * k + 1 ≤ 2 * a + num v → k < ent + num (enters v t (in_of x n f g))
      go true true false true n g h r w = omega arith
      go true true false false n g h r w = let z : a < ent = apart a ent (omega arith) upto in omega arith
      go true false false true n g h r w = let z : a < ent = apart a ent (omega arith) upto in omega arith
      go true false false false n g h r w = omega arith
      go true t true x n g h r w = omega arith
      go false t true x n g h r w = omega arith
      go false t false x n g h r w = omega arith

-- the host has read the register out
pub emptied_receiving : {ent tk ha : ℕ} {valid toggle : Bool} {i : In} → i.full ≡ true
    → Receiving ent tk ha valid toggle i → Receiving ent (tk + 1) ha valid toggle (emptied i)
emptied_receiving {ent} {tk} {ha} {valid} {toggle} {i} f r = go i.full f r
  where
    go : (f : Bool) → f ≡ true → Receiving ent tk ha valid toggle (in_of i.expected i.acknowledge f i.toggle)
        → Receiving ent (tk + 1) ha valid toggle (emptied i)
    go true e r = omega arith
    go false e r = absurd (false≢true e)

-- what a frame made by the receiving half acknowledges
pub acknowledge_made : {ent tk ha : ℕ} {valid toggle : Bool} {i : In} (ackd ld : ℕ) → Receiving ent tk ha valid toggle i
    → 2 * ha + num valid ≤ ackd + ld → ent ≤ ld → ld ≤ ackd + 1 → ent ≤ ackd + num i.acknowledge
acknowledge_made {ent} {tk} {ha} {valid} {toggle} {i} ackd ld r n u w = go i.acknowledge r.entered
  where
    go : (k : Bool) → 2 * ent ≤ 2 * ha + num valid + num k → ent ≤ ackd + num k
    go true e = omega arith
    go false e = omega arith
