-- The rule of a run, in the words of document 01, read over words 9 to 17: crate joined has them, for a first register
-- and so many more.
--   reads_by      the receive_side read that a call is, with the value that the host saw, or none
--   reads d       those of a run, of the host that takes the messages of direction d
--   first_word, more_words  word 9, and the eight after it
--   message_read  the message that the values make: the control out of word 9, the words out of the others
--   RuleIs        a run is ruled exactly when these reads are by the rule's words
--   DocumentIs    so it is where they are by document 01's sentence alone
--   NotAnew       which has word 9 once in a take
--   TakenIs       what a host has taken is exactly the messages of the takes that are complete
-- Assumes nothing.
use Rattle.std.specs.Prelude.{ℕ, ◌%◌, true, false, List, [], ◌∷◌, ◌↔◌, ◌≡◌}
use Rattle.fibre.specs.Words.{read_of}
use Rattle.joined.specs.Joined.{Direction, far, bit15}
use Rattle.joined.specs.Rule.{ReadOut, gave, read_out, Takes, messages_of, reads_through}
use Rattle.fibrelink.specs.Link.{Message, Side, World, reset_world, Access, read, write, Event, step, run, ruled}

abbrev pub reads_by : Access → Side → List ReadOut
reads_by (read w) s = read_out 9 17 w (read_of s.end w).value
reads_by (write w v l) s = []

abbrev pub reads : Direction → ℕ → ℕ → List Event → World → List ReadOut
reads d D E es w = reads_through reads_by (step D E) d es w

abbrev pub first_word : ℕ
first_word = 9

abbrev pub more_words : ℕ
more_words = 8

abbrev pub message_read : ℕ → List ℕ → Message
message_read v vs = record { control = v % 4096; words = vs }

abbrev pub RuleIs : Type 0
RuleIs =
    (d : Direction) (D E : ℕ) (es : List Event)
    → (ruled d D E es reset_world ≡ true) ↔ Takes true first_word more_words (reads d D E es reset_world)

abbrev pub DocumentIs : Type 0
DocumentIs =
    (d : Direction) (D E : ℕ) (es : List Event)
    → Takes false first_word more_words (reads d D E es reset_world) → ruled d D E es reset_world ≡ true

abbrev pub NotAnew : Type 0
NotAnew =
    (v w : ℕ) (l : List ReadOut) → bit15 v ≡ true
    → Takes false first_word more_words (gave first_word v ∷ gave first_word w ∷ l) → ⊥

abbrev pub TakenIs : Type 0
TakenIs =
    (d : Direction) (D E : ℕ) (es : List Event) (t : Takes true first_word more_words (reads d D E es reset_world))
    → (far d (run D E es reset_world)).host.taken ≡ messages_of message_read t
