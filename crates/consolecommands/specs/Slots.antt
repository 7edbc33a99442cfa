-- A link, and what its slots do to it. What an end sends, takes and makes of a marked signal is said by relations.
--   State              the ends, the lines by where they lead, how many slots there were, and what was sent to each side
--   At l i s           s stands at the place i of l
--   Arrives t m v l e e'   the end e is e' after the arrival v: of nothing it stays, else it takes what was sent in that
--                      slot and is kept in l, or what a mark makes of it
--   Slot s t m x y     in a slot the link x becomes y: both ends send, what they send is kept, both take what arrives then,
--                      and the lines go on
--   Slots s t m n x y  in n slots it becomes y
-- Assumes nothing.
use Rattle.std.specs.Prelude.{ℕ, zero, suc, ◌+◌, ◌%◌, ◌^◌, ◌<◌, List, ◌≡◌, length, slice_set, get_or}
use Rattle.consolecommands.specs.Line.{after_of, arrival_of}
use Rattle.consolecommands.specs.declared.line.Arrival.{Arrival}
use Rattle.consolecommands.specs.declared.line.Line.{Line}

pub record State (E S : Type 0) : Type 0 where
  pub a : E
  pub b : E
  pub to_a : Line
  pub to_b : Line
  pub slots : ℕ
  pub kept_a : List S
  pub kept_b : List S

abbrev pub state : {E S : Type 0} → E → E → Line → Line → ℕ → List S → List S → State E S
state a b to_a to_b slots kept_a kept_b =
    record { a = a; b = b; to_a = to_a; to_b = to_b; slots = slots; kept_a = kept_a; kept_b = kept_b }

abbrev pub At : {S : Type 0} → List S → ℕ → S → Type 0
At l i s = (i < length l) × (s ≡ get_or l i s)

abbrev pub Arrives : {E S : Type 0} → (E → S → E → Type 0) → (S → S → Type 0) → Arrival → List S → E → E → Type 0
Arrives takes marks Arrival.Nothing l e e' = e' ≡ e
Arrives {S = S} takes marks (Arrival.Sound n) l e e' = (s : S) × At l (n % 8192) s × takes e s e'
Arrives {S = S} takes marks (Arrival.Marked n) l e e' = (s : S) × (m : S) × At l (n % 8192) s × marks s m × takes e m e'

pub record Slot {E S : Type 0} (sends : E → S → E → Type 0) (takes : E → S → E → Type 0) (marks : S → S → Type 0) (x y : State E S) : Type 0 where
  pub from_a : S
  pub from_b : S
  pub sender_a : E
  pub sender_b : E
  pub sent_a : sends x.a from_a sender_a
  pub sent_b : sends x.b from_b sender_b
  pub kept_a : y.kept_a ≡ slice_set x.kept_a (x.slots % 8192) from_b
  pub kept_b : y.kept_b ≡ slice_set x.kept_b (x.slots % 8192) from_a
  pub a : Arrives takes marks (arrival_of x.to_a x.slots) y.kept_a sender_a y.a
  pub b : Arrives takes marks (arrival_of x.to_b x.slots) y.kept_b sender_b y.b
  pub to_a : y.to_a ≡ after_of x.to_a x.slots
  pub to_b : y.to_b ≡ after_of x.to_b x.slots
  pub slots : y.slots ≡ (x.slots + 1) % 2 ^ 64

unfoldable pub Slots : {E S : Type 0} → (E → S → E → Type 0) → (E → S → E → Type 0) → (S → S → Type 0) → ℕ → State E S → State E S → Type 0
Slots sends takes marks zero x y = y ≡ x
Slots {E = E} {S = S} sends takes marks (suc n) x y = (z : State E S) × Slots sends takes marks n x z × Slot sends takes marks z y
