-- Demand 3 for two records that are only ever reset and given to calls, over the runs of Joined.antt. Messages go from
-- the near area to the far one. Offsets are those of docs/RECORD.md.
--   ByRule, Always   true after every run from two areas of the right size, with whatever bytes, both reset: of each
--                 direction, where the host that takes keeps the rule; whatever the hosts do
--   RecordsOf     an area holds the record of an end, and has its host, what it sent, and its log
--   Mirrored      after every run both areas do, of the ends that the same run leads to
--   NothingLost   the first part: the messages taken are the first so many of those accepted, and at most three fewer
--   side_of        an area with the end of its record
--   HeldThere     accepted = taken + held, in the three places
--   Idle          nothing is pending, nothing is unacknowledged, the far register is empty: three bytes
--   control_value  what C gets for 3.2308
--   Landed        message n of the near area has entered the far register, is acknowledged, and its host can see it
--   Delivered     the second part
--   Alike, AskedAlike   after every run the rule, the marks, idle and landed are those of the ends: nothing more is
--                 asked of records, and nothing less is said
-- Assumes nothing.
use Rattle.std.specs.Prelude.{ℕ, ◌≤◌, ◌<◌, true, List, ◌∷◌, ◌++◌, ◌↔◌, ◌≡◌, length}
use Rattle.end.specs.Calls.{Call}
use Rattle.recordspec.specs.Record.{size, record_of, end_of, at}
use Rattle.record.specs.Runs.{called}
use Rattle.joined.specs.Joined.{InTurn, Direction, near, far, at_near, slots}
use Rattle.link.specs.Link.{Message, Side, write, accepts, message_written, Event, reset_world}
use Rattle.link.specs.Link.{World, run as run_ends}
use Rattle.link.specs.Link as ends
use Rattle.link.specs.Demand as demand
use Rattle.link.specs.Demand.{most_held, held, bound, bit13}
use Rattle.recordlink.specs.Joined.{Area, Areas, both_started, done, step, run, ruled, unmarked}

abbrev pub ByRule : (Area → Area → Type 0) → Type 0
ByRule P =
    (d : Direction) (p q : List ℕ) → length p ≡ size → length q ≡ size
    → (D E : ℕ) (es : List Event) → ruled d D E es (both_started p q) ≡ true
    → (w : Areas) → w ≡ run D E es (both_started p q) → P (near d w) (far d w)

abbrev pub Always : (ℕ → ℕ → List Event → Areas → Type 0) → Type 0
Always P =
    (p q : List ℕ) → length p ≡ size → length q ≡ size
    → (D E : ℕ) (es : List Event) (w : Areas) → w ≡ run D E es (both_started p q) → P D E es w

-- The records

pub record RecordsOf (x : Area) (s : Side) : Type 0 where
  pub bytes : x.bytes ≡ record_of s.end
  pub sent : x.sent ≡ s.sent
  pub host : x.host ≡ s.host
  pub log : x.log ≡ s.log

abbrev pub Mirrored : Type 0
Mirrored =
    Always (λ D E es w.
    RecordsOf w.a (run_ends D E es reset_world).a × RecordsOf w.b (run_ends D E es reset_world).b)

-- The first part

abbrev pub NothingLost : Type 0
NothingLost = ByRule (λ near far. InTurn most_held near.host.accepted far.host.taken)

abbrev pub side_of : Area → Side
side_of x = record { end = end_of x.bytes; sent = x.sent; host = x.host; log = x.log }

abbrev pub HeldThere : Type 0
HeldThere = ByRule (λ near far. near.host.accepted ≡ far.host.taken ++ held (side_of near) (side_of far))

-- The second part

pub record Idle (near far : Area) : Type 0 where
  -- nothing is pending, and the sender is ready: all that was accepted is acknowledged
  pub pending : at near.bytes 32 ≡ 0
  pub ready : at near.bytes 29 ≡ 1
  -- the receive register is not full
  pub empty : at far.bytes 80 ≡ 0

abbrev pub control_value : Area → ℕ
control_value x = (called (Call.read 2308) x.bytes).reply.value

pub record Landed (n : ℕ) (m : Message) (near far : Area) : Type 0 where
  pub entered : (older newer : List Message) × (far.log.entered ≡ older ++ m ∷ newer) × (length older ≡ n)
  pub acknowledged : n < near.log.ack_count
  pub shown : near.log.seen_count ≤ n → bit13 (control_value near) ≡ true

abbrev pub Delivered : Type 0
Delivered =
    (d : Direction) (p q : List ℕ) → length p ≡ size → length q ≡ size
    → (D E : ℕ) (es : List Event) (w : Areas) → w ≡ run D E es (both_started p q) → Idle (near d w) (far d w)
    → (v : ℕ) (h : v < 65536) → accepts 2308 v (done (called (Call.write 2308 v h) (near d w).bytes).reply) ≡ true
    → (x : Areas) → x ≡ step D E (at_near d (write 2308 v h)) w
    → (fs : List Event) → unmarked D E fs x ≡ true → bound D E ≤ slots fs
    → (y : Areas) → y ≡ run D E fs x
    → Landed (length (near d w).host.accepted) (message_written v (near d w).host) (near d y) (far d y)

-- Beside the ends

pub record Alike (D E : ℕ) (w : Areas) (v : World) : Type 0 where
  pub rule : (d : Direction) (fs : List Event) → ruled d D E fs w ≡ ends.ruled d D E fs v
  pub marks : (fs : List Event) → unmarked D E fs w ≡ demand.unmarked D E fs v
  pub idle : (d : Direction) → Idle (near d w) (far d w) ↔ demand.Idle (near d v) (far d v)
  pub landed : (d : Direction) (n : ℕ) (m : Message)
      → Landed n m (near d w) (far d w) ↔ demand.Landed n m (near d v) (far d v)

abbrev pub AskedAlike : Type 0
AskedAlike = Always (λ D E es w. Alike D E w (run_ends D E es reset_world))
