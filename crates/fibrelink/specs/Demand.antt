-- Demand 3's prefix part for fibre ends, over the runs of Link.antt, and a bound. Messages go from the near side to the
-- far one.
--   ByRule        true after every run in which the host that takes the messages keeps the rule, both ways
--   Always        true after every run, both ways; no rule is asked of any host
--   most_held     how many accepted messages may be not taken yet
--   NothingLost   the messages taken are the first so many of those accepted, at most three fewer: it speaks of the
--                 hosts' lists alone
--   pending_in, in_flight, register_holds  the three places, each with one message or none
--   held          what the three hold, the oldest message first
--   HeldThere     accepted = taken + register + in flight + pending
--   word_zero, bit_of  what a host would read in word 0; a bit of a value
--   AllSaid       PHYT and MERT both equal to MSGT, with TXREQ 0
--   AllTaken      that holds only if every accepted message was taken
--   Idle          nothing is requested, PHYT equals MSGT, and RXVAL is 0 at the far end
--   good          nothing that arrives at either end is marked bad; good_step: in one event; none_bad: of what arrives
--   away d        the delay of the direction d
--   Entered n m   message n of the near side, which is m, has entered the far receive words
--   Acknowledged n   its PHYT is back: PHYT has changed n + 1 times, and equals MSGT unless a later message was loaded
--   DeliveredIn   accepted into an idle direction, with nothing bad a message has entered after n slots and is
--                 acknowledged after m
--   enough, enough_back  1 + D, where D is the delay of the message's direction, and 2 + D + E
--   Delivered     it has entered after 1 + D slots and is acknowledged after 2 + D + E
--   Tight         and not sooner
-- Assumes nothing.
use Rattle.std.specs.Prelude.{ℕ, suc, ◌+◌, ◌-◌, ◌/◌, ◌≤◌, ◌<◌, ◌^◌, Bool, true, false, not, ◌&&◌, List, [], ◌∷◌, ◌++◌, ◌≡◌, ltb, length}
use Rattle.crc.specs.Bits.{odd}
use Rattle.fibre.specs.Words.{read_of}
use Rattle.fibre.specs.declared.Block.{Block}
use Rattle.joined.specs.Joined.{Direction, a_to_b, b_to_a, near, far, slot, at_a, at_b, every, slots, also, at_near, InTurn}
use Rattle.fibrelink.specs.Link.{Message, message_in, message_out, message_of, Side, World, reset_world, write}
use Rattle.fibrelink.specs.Link.{message_written, accepts_now, sends, Arrival, arriving, Event, step, run, ruled}

abbrev pub ByRule : (Side → Side → Type 0) → Type 0
ByRule P =
    (d : Direction) (D E : ℕ) (es : List Event) → ruled d D E es reset_world ≡ true
    → (w : World) → w ≡ run D E es reset_world → P (near d w) (far d w)

abbrev pub Always : (Side → Side → Type 0) → Type 0
Always P =
    (d : Direction) (D E : ℕ) (es : List Event) (w : World) → w ≡ run D E es reset_world → P (near d w) (far d w)

-- Nothing lost, nothing twice, nothing out of turn

abbrev pub most_held : ℕ
most_held = 3

abbrev pub NothingLost : Type 0
NothingLost = ByRule (λ near far. InTurn most_held near.host.accepted far.host.taken)

-- Where the others are

abbrev pub pending_in : Side → List Message
pending_in near = also near.end.transmit.txreq (message_out near.end) []

-- more were loaded than entered
abbrev pub in_flight : Side → Side → List Message
in_flight near far = also (ltb (length far.log.entered) near.log.load_count) (message_of near.end.sent) []

abbrev pub register_holds : Side → List Message
register_holds far = also far.end.receive.rxval (message_in far.end) []

abbrev pub held : Side → Side → List Message
held near far = register_holds far ++ (in_flight near far ++ pending_in near)

abbrev pub HeldThere : Type 0
HeldThere = ByRule (λ near far. near.host.accepted ≡ far.host.taken ++ held near far)

-- What word 0 says

abbrev pub word_zero : Side → ℕ
word_zero s = (read_of s.end 0).value

abbrev pub bit_of : ℕ → ℕ → Bool
bit_of k v = odd (v / 2 ^ k)

pub record AllSaid (v : ℕ) : Type 0 where
  pub no_request : bit_of 15 v ≡ false
  pub received : bit_of 14 v ≡ bit_of 12 v
  pub read : bit_of 13 v ≡ bit_of 12 v

abbrev pub AllTaken : Type 0
AllTaken = ByRule (λ near far. AllSaid (word_zero near) → near.host.accepted ≡ far.host.taken)

-- In time

pub record Idle (near far : Side) : Type 0 where
  pub no_request : bit_of 15 (word_zero near) ≡ false
  pub received : bit_of 14 (word_zero near) ≡ bit_of 12 (word_zero near)
  pub empty : far.end.receive.rxval ≡ false

unfoldable pub none_bad : List Arrival → Bool
none_bad [] = true
none_bad (y ∷ l) = not y.marked && none_bad l

-- sa is what a has sent with this slot, sb what b has
abbrev pub good_step : ℕ → ℕ → Event → List Block → List Block → Bool
good_step D E (slot ha hb) sa sb = none_bad (arriving E ha sb) && none_bad (arriving D hb sa)
good_step D E (at_a c) sa sb = true
good_step D E (at_b c) sa sb = true

abbrev pub good : ℕ → ℕ → List Event → World → Bool
good D E es w = every (λ e w. good_step D E e (sends w.a).sent (sends w.b).sent) (step D E) es w

-- the delay of a direction
abbrev pub away : Direction → ℕ → ℕ → ℕ
away a_to_b D E = D
away b_to_a D E = E

-- message n, counted from 0, is m
abbrev pub Entered : ℕ → Message → Side → Type 0
Entered n m far = (older newer : List Message) × (far.log.entered ≡ older ++ m ∷ newer) × (length older ≡ n)

pub record Acknowledged (n : ℕ) (near : Side) : Type 0 where
  pub changed : n < near.log.ack_count
  pub shown : near.log.load_count ≡ suc n → bit_of 14 (word_zero near) ≡ bit_of 12 (word_zero near)

-- A run es leads to the world w, in which the direction d is idle. There a write of v to word 0 is accepted, which
-- leads to x. Then every continuation fs in which nothing that arrives is bad leads to a world y in which the message
-- has entered, if fs has n slots, and is acknowledged, if it has m
abbrev pub DeliveredIn : ℕ → ℕ → Direction → ℕ → ℕ → Type 0
DeliveredIn n m d D E =
    (es : List Event) (w : World) → w ≡ run D E es reset_world → Idle (near d w) (far d w)
    → (v : ℕ) (h : v < 65536) → accepts_now 0 v (near d w).end ≡ true
    → (x : World) → x ≡ step D E (at_near d (write 0 v h)) w
    → (fs : List Event) → good D E fs x ≡ true
    → (y : World) → y ≡ run D E fs x
    → (n ≤ slots fs
    → Entered (length (near d w).host.accepted) (message_written v (near d w).host) (far d y))
    × (m ≤ slots fs → Acknowledged (length (near d w).host.accepted) (near d y))

abbrev pub enough : ℕ → ℕ
enough delay = 1 + delay

abbrev pub enough_back : ℕ → ℕ
enough_back round = 2 + round

abbrev pub Delivered : Type 0
Delivered = (d : Direction) (D E : ℕ) → DeliveredIn (enough (away d D E)) (enough_back (D + E)) d D E

-- with one slot less, neither holds, for any delays
abbrev pub Tight : Type 0
Tight =
    (d : Direction) (D E : ℕ) → (DeliveredIn (enough (away d D E) - 1) (enough_back (D + E)) d D E → ⊥)
    × (DeliveredIn (enough (away d D E)) (enough_back (D + E) - 1) d D E → ⊥)
