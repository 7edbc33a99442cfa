-- The rule of a run, in the words of document 01, over 3.2313 to 3.2317: crate joined has them, for a first register
-- and so many more.
--   reads_by      the receive_side read that a call is, with the value that the host saw, or none
--   reads d       those of a run, of the host that takes the messages of direction d
--   first_read, more_reads  3.2313, and the four after it
--   message_read  the message that the values make: the number out of 3.2313, the bytes out of the others
--   RuleIs        a run is ruled exactly when these reads are by the rule's words
--   DocumentIs    so it is where they are by document 01's sentence alone
--   NotAnew       which has 3.2313 once in a take
--   TakenIs       what a host has taken is exactly the messages of the takes that are complete
-- Assumes nothing.
use Rattle.std.specs.Prelude.{ℕ, ◌/◌, ◌%◌, true, false, List, [], ◌∷◌, ◌↔◌, ◌≡◌}
use Rattle.end.specs.Registers.{read_of}
use Rattle.joined.specs.Rule.{ReadOut, gave, read_out, Takes, messages_of, reads_through}
use Rattle.link.specs.Link.{Message, Side, World, reset_world, Direction, far, Access, read, write, health}
use Rattle.link.specs.Link.{present, bit15, bytes_of, Event, step, run, ruled}

abbrev pub reads_by : Access → Side → List ReadOut
reads_by (read r) s = read_out 2313 2317 r (read_of s.end r).value
reads_by (write r v l) s = []
reads_by (health k) s = []
reads_by present s = []

abbrev pub reads : Direction → ℕ → ℕ → List Event → World → List ReadOut
reads d D E es w = reads_through reads_by (step D E) d es w

abbrev pub first_read : ℕ
first_read = 2313

abbrev pub more_reads : ℕ
more_reads = 4

abbrev pub message_read : ℕ → List ℕ → Message
message_read v vs = record { number = v / 256 % 16; bytes = bytes_of vs }

abbrev pub RuleIs : Type 0
RuleIs =
    (d : Direction) (D E : ℕ) (es : List Event)
    → (ruled d D E es reset_world ≡ true) ↔ Takes true first_read more_reads (reads d D E es reset_world)

abbrev pub DocumentIs : Type 0
DocumentIs =
    (d : Direction) (D E : ℕ) (es : List Event)
    → Takes false first_read more_reads (reads d D E es reset_world) → ruled d D E es reset_world ≡ true

abbrev pub NotAnew : Type 0
NotAnew =
    (v w : ℕ) (l : List ReadOut) → bit15 v ≡ true
    → Takes false first_read more_reads (gave first_read v ∷ gave first_read w ∷ l) → ⊥

abbrev pub TakenIs : Type 0
TakenIs =
    (d : Direction) (D E : ℕ) (es : List Event) (t : Takes true first_read more_reads (reads d D E es reset_world))
    → (far d (run D E es reset_world)).host.taken ≡ messages_of message_read t
