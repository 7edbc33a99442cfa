-- The commands on two ends, as the words of a line ask for them.
--   at_side s x y       x where s is the side a, y where it is b
--   side_name s         the name of a side, as a line spells it
--   two_of b m c n ws   the numbers that the two words ws spell, the first in base b, not above m, the second in base c,
--                       not above n
--   Names w c           the word w is the name of the command c; of a link none of its delays is above the longest
--   Reads w ws r        r is what the word w asks with the words ws behind it, or what is wrong with them
--   Performs .. r e e' before after   where r was read on the ends e, they are e' then, as what follows says of a restart,
--                       of slots, of marks and of a call on an end; what was printed is `after`, and was `before`
-- Assumes nothing.
use Rattle.std.specs.Prelude.{ℕ, ◌≤◌, cond, List, [], ◌∷◌, ◌++◌, ◌≡◌, Result, Ok, Err, codes}
use Rattle.text.specs.Numbers.{first_of, last_of}
use Rattle.text.specs.Printed.{decimal_of}
use Rattle.text.specs.Words.{none_of, rest_of}
use Rattle.text.specs.declared.fault.Fault.{Fault}
use Rattle.consolecommands.specs.declared.Side.{Side}
use Rattle.consolecommands.specs.declared.command.Command.{Command}

abbrev pub at_side : {A : Type 0} → Side → A → A → A
at_side Side.A x y = x
at_side Side.B x y = y

abbrev pub side_name : Side → List ℕ
side_name Side.A = codes "a"
side_name Side.B = codes "b"

abbrev pub behind : ℕ → Result ℕ Fault → Result (ℕ × ℕ) Fault
behind x (Ok y) = Ok (x, y)
behind x (Err f) = Err f

abbrev pub both : Result ℕ Fault → Result ℕ Fault → Result (ℕ × ℕ) Fault
both (Ok x) r = behind x r
both (Err f) r = Err f

abbrev pub two_of : ℕ → ℕ → ℕ → ℕ → List (List ℕ) → Result (ℕ × ℕ) Fault
two_of b m c n ws = both (first_of b m ws) (last_of c n (rest_of ws))

abbrev pub Names : List ℕ → Command → Type 0
Names w (Command.Link to_b to_a) = (w ≡ codes "link") × (to_b ≤ 4096) × (to_a ≤ 4096)
Names w (Command.Slot count) = w ≡ codes "slot"
Names w (Command.Mark side count) = w ≡ codes "mark"
Names w (Command.On side) = w ≡ side_name side

abbrev pub link_of : Result (ℕ × ℕ) Fault → Result Command Fault
link_of (Ok d) = Ok (Command.Link d.0 d.1)
link_of (Err f) = Err f

abbrev pub slot_of : Result ℕ Fault → Result Command Fault
slot_of (Ok n) = Ok (Command.Slot n)
slot_of (Err f) = Err f

abbrev pub mark_of : Side → Result ℕ Fault → Result Command Fault
mark_of s (Ok n) = Ok (Command.Mark s n)
mark_of s (Err f) = Err f

-- one slot where no word stands
abbrev pub slots_of : List (List ℕ) → Result ℕ Fault
slots_of ws = cond (none_of ws) (Ok 1) (last_of 10 65535 ws)

pub record Reads (w : List ℕ) (ws : List (List ℕ)) (r : Result Command Fault) : Type 0 where
  pub link : w ≡ codes "link" → r ≡ link_of (two_of 10 4096 10 4096 ws)
  pub slot : w ≡ codes "slot" → r ≡ slot_of (slots_of ws)
  pub mark : (s : Side) (vs : List (List ℕ)) → w ≡ codes "mark" → ws ≡ side_name s ∷ vs → r ≡ mark_of s (last_of 10 65535 vs)
  pub mark_nowhere : w ≡ codes "mark" → ((s : Side) (vs : List (List ℕ)) → ¬ (ws ≡ side_name s ∷ vs)) → r ≡ Err Fault.Command
  pub on : (s : Side) → w ≡ side_name s → r ≡ Ok (Command.On s)
  pub other : ¬ (w ≡ codes "link") → ¬ (w ≡ codes "slot") → ¬ (w ≡ codes "mark") → ((s : Side) → ¬ (w ≡ side_name s)) → r ≡ Err Fault.Command

abbrev pub Performs : {E : Type 0}
    → (E → ℕ → ℕ → E → Type 0) → (E → ℕ → ℕ → E → Type 0) → (E → Side → ℕ → E → Type 0) → (E → Side → E → Type 0)
    → Result Command Fault → E → E → List ℕ → List ℕ → Type 0
Performs restarts runs marks calls (Err f) e e' before after = e' ≡ e
Performs restarts runs marks calls (Ok (Command.Link to_b to_a)) e e' before after =
    restarts e to_b to_a e' × (after ≡ before ++ codes "ok\n")
Performs restarts runs marks calls (Ok (Command.Slot n)) e e' before after =
    (k : ℕ) × runs e n k e' × (after ≡ ((before ++ codes "slot ") ++ decimal_of k) ++ (10 ∷ []))
Performs restarts runs marks calls (Ok (Command.Mark s n)) e e' before after =
    marks e s n e' × (after ≡ before ++ codes "ok\n")
Performs restarts runs marks calls (Ok (Command.On s)) e e' before after = calls e s e'
