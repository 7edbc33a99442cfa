-- Two ends joined by two lines, each with its host, whatever kind of ends they are: what crates link and fibrelink
-- share. The delays are D slots from a to b and E slots from b to a.
--   Direction       from a to b, or from b to a
--   Pair            two sides; near, far: the one that sends the messages of a direction, the one that takes them
--   EventOf         a slot, with what harms what arrives at a and at b, or one host's call; at_near: the near host's
--   due d sent      what was sent d slots ago, one or none; what was sent stands newest first
--   step_by         the sides after an event, where a side sends, takes and is called by its host in a given way
--   run_by, every    after each of a list of events, by a step; each of them passes a test of what is there before it
--   slots           how many slots a list of events has
--   also b m l      the list l, with m behind it where b
--   HostOf          what a host did and was answered: the words of a message that it wrote, how far it is in taking
--                   a message, its messages that were accepted, and those that it took
--   bit15, within   of a register's value; of a register's number: one of those from first to last
--   may_read         the rule for taking a message: of the registers from first to last a host that has read n of them
--                   reads the next one, or the first, which begins anew; all others are free
--   did_read_of     what a host has after a read: the first register begins a take where bit 15 is set, the last one
--                   completes it; gathered says what the values make of a message
--   wrote_of        what a host has after a write: it accepts the message m where a, and stores the word v where s
--   ruled_by        one event is by the rule of the host that takes the messages of a direction
--   InTurn          the messages taken are the first so many of those accepted, and at most so many fewer
-- Assumes nothing.
use Rattle.std.specs.Prelude.{ℕ, suc, ◌+◌, ◌/◌, ◌≤◌, Bool, true, not, cond, ◌&&◌, ◌||◌, List, [], ◌∷◌, ◌++◌, ◌≡◌, eqb, leb, length, take, drop, set}
use Rattle.crc.specs.Bits.{odd}

-- Sides and lines

pub data Direction : Type 0 where
  a_to_b b_to_a : Direction

pub record Pair (S : Type 0) : Type 0 where
  pub a : S
  pub b : S

abbrev pub near : {S : Type 0} → Direction → Pair S → S
near a_to_b w = w.a
near b_to_a w = w.b

abbrev pub far : {S : Type 0} → Direction → Pair S → S
far a_to_b w = w.b
far b_to_a w = w.a

abbrev pub due : {B : Type 0} → ℕ → List B → List B
due d sent = take 1 (drop d sent)

-- Events and runs

pub data EventOf (H C : Type 0) : Type 0 where
  slot : H → H → EventOf H C
  at_a at_b : C → EventOf H C

abbrev pub at_near : {H C : Type 0} → Direction → C → EventOf H C
at_near a_to_b c = at_a c
at_near b_to_a c = at_b c

-- in a slot both send, then both take what arrives: a side takes what the other one sent d slots ago
abbrev pub step_by : {S H C : Type 0} → (S → S) → (ℕ → H → S → S → S) → (C → S → S)
    → ℕ → ℕ → EventOf H C → Pair S → Pair S
step_by sends takes hosted D E (slot ha hb) w = record {
  a = takes E ha (sends w.b) (sends w.a);
  b = takes D hb (sends w.a) (sends w.b);
}
step_by sends takes hosted D E (at_a c) w = record { a = hosted c w.a; b = w.b }
step_by sends takes hosted D E (at_b c) w = record { a = w.a; b = hosted c w.b }

unfoldable pub run_by : {X W : Type 0} → (X → W → W) → List X → W → W
run_by next [] w = w
run_by next (e ∷ es) w = run_by next es (next e w)

unfoldable pub every : {X W : Type 0} → (X → W → Bool) → (X → W → W) → List X → W → Bool
every test next [] w = true
every test next (e ∷ es) w = test e w && every test next es (next e w)

unfoldable pub slots : {H C : Type 0} → List (EventOf H C) → ℕ
slots [] = 0
slots (slot ha hb ∷ es) = suc (slots es)
slots (at_a c ∷ es) = slots es
slots (at_b c ∷ es) = slots es

-- Hosts

abbrev pub also : {M : Type 0} → Bool → M → List M → List M
also b m l = cond b (l ++ (m ∷ [])) l

pub record HostOf (M : Type 0) : Type 0 where
  -- the last values written to a message's registers that were answered 0
  pub written : List ℕ
  -- how many registers of a take it has read, and what they gave so far
  pub stage : ℕ
  pub so_far : M
  pub accepted : List M
  pub taken : List M

abbrev pub bit15 : ℕ → Bool
bit15 v = odd (v / 32768)

abbrev pub within : ℕ → ℕ → ℕ → Bool
within first last r = leb first r && leb r last

abbrev pub may_read : ℕ → ℕ → ℕ → ℕ → Bool
may_read first last n r = not (within first last r) || (eqb r first || eqb r (first + n))

-- register r, one of those from first to last, gave the value v
abbrev pub advance_of : {M : Type 0} → ℕ → ℕ → (ℕ → ℕ → M → M) → ℕ → ℕ → HostOf M → HostOf M
advance_of first last gathered r v h = record {
  written = h.written;
  stage = cond (eqb r first) (cond (bit15 v) 1 0) (cond (eqb r last) 0 (h.stage + 1));
  so_far = gathered r v h.so_far;
  accepted = h.accepted;
  taken = also (eqb r last) (gathered r v h.so_far) h.taken;
}

-- any other one is none of a take's
abbrev pub did_read_of : {M : Type 0} → ℕ → ℕ → (ℕ → ℕ → M → M) → ℕ → ℕ → HostOf M → HostOf M
did_read_of first last gathered r v h = cond (within first last r) (advance_of first last gathered r v h) h

-- the word v is the i-th of those written, counted from 0
abbrev pub wrote_of : {M : Type 0} → Bool → Bool → M → ℕ → ℕ → HostOf M → HostOf M
wrote_of a s m i v h = record {
  written = cond s (set h.written i v) h.written;
  stage = h.stage;
  so_far = h.so_far;
  accepted = also a m h.accepted;
  taken = h.taken;
}

-- the host of a has a, the host of b has b; allowed is the rule
abbrev pub ruled_by : {H C M : Type 0} → (C → HostOf M → Bool) → Direction → EventOf H C → HostOf M → HostOf M → Bool
ruled_by allowed d (slot ha hb) a b = true
ruled_by allowed a_to_b (at_a c) a b = true
ruled_by allowed a_to_b (at_b c) a b = allowed c b
ruled_by allowed b_to_a (at_a c) a b = allowed c a
ruled_by allowed b_to_a (at_b c) a b = true

-- Nothing lost, nothing twice, nothing out of turn

pub record InTurn {M : Type 0} (most : ℕ) (accepted taken : List M) : Type 0 where
  pub rest : List M
  pub whole : accepted ≡ taken ++ rest
  pub few : length rest ≤ most
