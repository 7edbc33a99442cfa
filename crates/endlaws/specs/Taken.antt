-- What is taken and accepted in a list of calls.
--   takes cs, taken_by c               the symbols taken, in order: a symbol above 1,023 is refused and not taken
--   last_of n l, last_twelve l          the last n, the last twelve of l; all of l where there are fewer
--   acceptances cs e, accepted_by c e  for each symbol taken, whether a frame was accepted with it (step 3 of taking)
--   at_last, at_none                   of twelve symbols: a frame is accepted with the last one alone, with none
--   some bs                            one of bs is true
-- Assumes nothing.
use Rattle.std.specs.Prelude.{ℕ, ◌-◌, Bool, true, false, not, cond, ◌&&◌, ◌||◌, List, [], ◌∷◌, ◌++◌, leb, length, drop, replicate}
use Rattle.end.specs.declared.End.{End}
use Rattle.end.specs.Good.{bad}
use Rattle.receiver.specs.Receiving.{accepts}
use Rattle.end.specs.Calls.{Call, after}

abbrev pub taken_by : Call → List ℕ
taken_by Call.send = []
taken_by (Call.take s) = cond (leb s 1023) (s ∷ []) []
taken_by (Call.read r) = []
taken_by (Call.write r v h) = []
taken_by (Call.health h) = []
taken_by Call.present = []

unfoldable pub takes : List Call → List ℕ
takes [] = []
takes (c ∷ cs) = taken_by c ++ takes cs

abbrev pub last_of : {A : Type 0} → ℕ → List A → List A
last_of n l = drop (length l - n) l

unfoldable pub last_twelve : List ℕ → List ℕ
last_twelve l = last_of 12 l

abbrev pub accepted_by : Call → End → List Bool
accepted_by Call.send e = []
accepted_by (Call.take s) e = cond (leb s 1023) ((not (bad e) && accepts s e.collector) ∷ []) []
accepted_by (Call.read r) e = []
accepted_by (Call.write r v h) e = []
accepted_by (Call.health h) e = []
accepted_by Call.present e = []

unfoldable pub acceptances : List Call → End → List Bool
acceptances [] e = []
acceptances (c ∷ cs) e = accepted_by c e ++ acceptances cs (after c e)

abbrev pub at_last : List Bool
at_last = replicate 11 false ++ (true ∷ [])

abbrev pub at_none : List Bool
at_none = replicate 12 false

unfoldable pub some : List Bool → Bool
some [] = false
some (b ∷ bs) = b || some bs
