-- Demand 3 of document 01, over the runs of Link.antt. Messages go from the near side to the far one.
--   ByRule        true after every run in which the host that takes the messages keeps the rule, both ways
--   Always        true after every run, both ways; no rule is asked of any host
--   most_held     how many accepted messages may be not taken yet
--   NothingLost   the first part of demand 3: the messages taken are the first so many of those accepted; it speaks of
--                 the hosts' lists alone
--   pending_in, sender_holds, register_holds  the three named places, each with one message or none; message_out and
--                 message_sent: the messages in the transmit registers and in the frame being sent
--   held          what the three hold, the oldest message first
--   HeldThere     accepted = taken + held: where those are that were not taken yet
--   Idle          nothing is pending, nothing is unacknowledged, the far register is empty
--   unmarked      no symbol that arrives at either end is marked; unmarked_step: in one event
--   bound D E     58 + D + E
--   control_value, bit13, bit12  what a host would read in 3.2308: the value, Received, the received toggle
--   Landed        message n of the near side has entered the far register, is acknowledged, and its host can see it
--   Delivered     the second part of demand 3; DeliveredIn: the same with any number of slots
-- Acknowledged.antt has what a host sees of acknowledgements, LogFacts.antt what else is true of the log, Tight.antt
-- that no number here can be smaller. Assumes nothing.
use Rattle.std.specs.Prelude.{ℕ, ◌+◌, ◌/◌, ◌≤◌, ◌<◌, Bool, true, false, ◌&&◌, List, [], ◌∷◌, ◌++◌, ◌≡◌, ltb, length}
use Rattle.crc.specs.Bits.{odd}
use Rattle.frame.specs.Frame.{none_marked}
use Rattle.end.specs.declared.End.{End}
use Rattle.end.specs.Sending.{old_number, old_bytes}
use Rattle.end.specs.Registers.{read_of}
pub use Rattle.joined.specs.Joined.{InTurn, at_near}
unfoldable pub use Rattle.joined.specs.Joined.{slots}
use Rattle.link.specs.Link.{Message, Side, World, message_in, also, Direction, near, far}
use Rattle.link.specs.Link.{write}
use Rattle.link.specs.Link.{accepts_now, message_written, sends, arriving, Event, slot, at_a, at_b, reset_world, step}
use Rattle.link.specs.Link.{run, every, ruled}

abbrev pub ByRule : (Side → Side → Type 0) → Type 0
ByRule P =
    (d : Direction) (D E : ℕ) (es : List Event) → ruled d D E es reset_world ≡ true
    → (w : World) → w ≡ run D E es reset_world → P (near d w) (far d w)

abbrev pub Always : (Side → Side → Type 0) → Type 0
Always P =
    (d : Direction) (D E : ℕ) (es : List Event) (w : World) → w ≡ run D E es reset_world → P (near d w) (far d w)

-- Nothing lost, nothing twice, nothing out of turn

abbrev pub most_held : ℕ
most_held = 3

abbrev pub NothingLost : Type 0
NothingLost = ByRule (λ near far. InTurn most_held near.host.accepted far.host.taken)

-- Where the others are

abbrev pub message_out : End → Message
message_out e = record { number = e.outbox.number; bytes = e.outbox.bytes }

abbrev pub pending_in : Side → List Message
pending_in near = also near.end.outbox.pending (message_out near.end) []

-- the message in the frame being sent
abbrev pub message_sent : End → Message
message_sent e = record { number = old_number e; bytes = old_bytes e }

-- in the sender and not yet entered at the far end: more were loaded than entered
abbrev pub sender_holds : Side → Side → List Message
sender_holds near far = also (ltb (length far.log.entered) near.log.load_count) (message_sent near.end) []

abbrev pub register_holds : Side → List Message
register_holds far = also far.end.inbox.full (message_in far.end) []

abbrev pub held : Side → Side → List Message
held near far = register_holds far ++ (sender_holds near far ++ pending_in near)

abbrev pub HeldThere : Type 0
HeldThere = ByRule (λ near far. near.host.accepted ≡ far.host.taken ++ held near far)

-- In time

-- the first follows from the second (LogFacts.antt); document 01 names both
pub record Idle (near far : Side) : Type 0 where
  pub pending : near.end.outbox.pending ≡ false
  pub acknowledged : near.log.ack_count ≡ length near.host.accepted
  pub empty : far.end.inbox.full ≡ false

-- sa is what a has sent with this slot, sb what b has
abbrev pub unmarked_step : ℕ → ℕ → Event → List ℕ → List ℕ → Bool
unmarked_step D E (slot ha hb) sa sb = none_marked (arriving E ha sb) && none_marked (arriving D hb sa)
unmarked_step D E (at_a c) sa sb = true
unmarked_step D E (at_b c) sa sb = true

abbrev pub unmarked : ℕ → ℕ → List Event → World → Bool
unmarked D E es w = every (λ e w. unmarked_step D E e (sends w.a).sent (sends w.b).sent) (step D E) es w

abbrev pub bound : ℕ → ℕ → ℕ
bound D E = 58 + D + E

abbrev pub control_value : Side → ℕ
control_value s = (read_of s.end 2308).value

abbrev pub bit13 : ℕ → Bool
bit13 v = odd (v / 8192)

abbrev pub bit12 : ℕ → Bool
bit12 v = odd (v / 4096)

-- message n, counted from 0, is m. Received shows it to a host that has not read 3.2308 since it was acknowledged
pub record Landed (n : ℕ) (m : Message) (near far : Side) : Type 0 where
  pub entered : (older newer : List Message) × (far.log.entered ≡ older ++ m ∷ newer) × (length older ≡ n)
  pub acknowledged : n < near.log.ack_count
  pub shown : near.log.seen_count ≤ n → bit13 (control_value near) ≡ true

-- A run es leads to the world w, in which the direction d is idle. There a write of v to 3.2308 is accepted, which
-- leads to x. Then every continuation fs with enough slots, in which nothing that arrives is marked, leads to a world
-- y in which the message has landed
abbrev pub DeliveredIn : (ℕ → ℕ → ℕ) → Type 0
DeliveredIn enough =
    (d : Direction) (D E : ℕ) (es : List Event) (w : World) → w ≡ run D E es reset_world → Idle (near d w) (far d w)
    → (v : ℕ) (h : v < 65536) → accepts_now 2308 v (near d w).end ≡ true
    → (x : World) → x ≡ step D E (at_near d (write 2308 v h)) w
    → (fs : List Event) → unmarked D E fs x ≡ true → enough D E ≤ slots fs
    → (y : World) → y ≡ run D E fs x
    → Landed (length (near d w).host.accepted) (message_written v (near d w).host) (near d y) (far d y)

abbrev pub Delivered : Type 0
Delivered = DeliveredIn bound
