-- The rule for taking a message, in the words of document 01: "To take a message a host reads [the first register] and,
-- only if bit 15 is set, next of its receive_side reads [the others] in that order; the last completes it. Slots and
-- other calls may fall between." A host may also read the first one again before the last, which begins the take anew.
--   ReadOut       one receive_side read: the register, and the value that the host saw; gave r v
--   reads_from r vs  the reads of registers r, r + 1 and so on, which gave the values vs
--   Takes anew first more l   the reads l are takes by that sentence, one after the other, where so many more registers
--                 follow the first one; the last take may be unfinished. Where anew, the first register may be read
--                 again
--   messages_of m  the messages of the takes that are complete: m says what message the values make, that of the first
--                 register and those of the others
--   read_out first last r v  what a read of register r is of a take, that gave v: one receive_side read, or none
--   reads_in, reads_through  the receive_side reads, in one event and in a run, of the host that takes the messages of a
--                 direction; by says which of them a call is
-- Assumes nothing.
use Rattle.std.specs.Prelude.{ℕ, suc, ◌<◌, Bool, true, false, cond, List, [], ◌∷◌, ◌++◌, ◌≡◌, length}
use Rattle.joined.specs.Joined.{Direction, a_to_b, b_to_a, Pair, EventOf, slot, at_a, at_b, bit15, within}

pub record ReadOut : Type 0 where
  pub register : ℕ
  pub value : ℕ

abbrev pub gave : ℕ → ℕ → ReadOut
gave r v = record { register = r; value = v }

unfoldable pub reads_from : ℕ → List ℕ → List ReadOut
reads_from r [] = []
reads_from r (v ∷ vs) = gave r v ∷ reads_from (suc r) vs

pub data Takes (anew : Bool) (first more : ℕ) : List ReadOut → Type 0 where
  none : Takes anew first more []
  -- the first register said that there is no message
  looked : {l : List ReadOut} (v : ℕ) → bit15 v ≡ false → Takes anew first more l
      → Takes anew first more (gave first v ∷ l)
  -- it said that there is one, and it was taken
  took : {l : List ReadOut} (v : ℕ) (vs : List ℕ) → bit15 v ≡ true → length vs ≡ more → Takes anew first more l
      → Takes anew first more (gave first v ∷ (reads_from (suc first) vs ++ l))
  -- it said that there is one, and the take is unfinished
  begun : (v : ℕ) (vs : List ℕ) → bit15 v ≡ true → length vs < more
      → Takes anew first more (gave first v ∷ reads_from (suc first) vs)
  -- or it was begun anew
  again : {l : List ReadOut} (v : ℕ) (vs : List ℕ) (w : ℕ) → anew ≡ true → bit15 v ≡ true → length vs < more
      → Takes anew first more (gave first w ∷ l)
      → Takes anew first more (gave first v ∷ (reads_from (suc first) vs ++ (gave first w ∷ l)))

unfoldable pub messages_of : {M : Type 0} {anew : Bool} {first more : ℕ} {l : List ReadOut} → (ℕ → List ℕ → M)
    → Takes anew first more l → List M
messages_of m none = []
messages_of m (looked v e t) = messages_of m t
messages_of m (took v vs e n t) = m v vs ∷ messages_of m t
messages_of m (begun v vs e n) = []
messages_of m (again v vs w a e n t) = messages_of m t

abbrev pub read_out : ℕ → ℕ → ℕ → ℕ → List ReadOut
read_out first last r v = cond (within first last r) (gave r v ∷ []) []

abbrev pub reads_in : {S H C : Type 0} → (C → S → List ReadOut) → Direction → EventOf H C → Pair S → List ReadOut
reads_in by a_to_b (slot ha hb) w = []
reads_in by a_to_b (at_a c) w = []
reads_in by a_to_b (at_b c) w = by c w.b
reads_in by b_to_a (slot ha hb) w = []
reads_in by b_to_a (at_a c) w = by c w.a
reads_in by b_to_a (at_b c) w = []

unfoldable pub reads_through : {S H C : Type 0} → (C → S → List ReadOut) → (EventOf H C → Pair S → Pair S) → Direction
    → List (EventOf H C) → Pair S → List ReadOut
reads_through by next d [] w = []
reads_through by next d (e ∷ es) w = reads_in by d e w ++ reads_through by next d es (next e w)
