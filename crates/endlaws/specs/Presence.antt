-- Request #107: what presence is after calls, by the symbols taken.
--   left_by t n      what is left of n after a take that gave t: a refused one leaves it
--   lapses bs n      what is left of n after symbols taken, bs saying with which of them a frame was accepted
--   FrameWithin n ts   twelve symbols of ts in a row are acceptable, and fewer than n came later
--   Steady s ts      each of ts is the symbol s, or a marked one
-- Assumes nothing.
use Rattle.std.specs.Prelude.{ℕ, ◌<◌, Bool, true, cond, List, [], ◌∷◌, ◌++◌, ◌⊎◌, ◌≡◌, eqb, length}
use Rattle.answer.specs.Number.{number_of}
use Rattle.frame.specs.Frame.{marked, acceptable}
use Rattle.frame.specs.Reason.{is_accepted}
use Rattle.end.specs.declared.Taken.{Taken}
use Rattle.receiver.specs.Presence.{left_after}

abbrev pub left_by : Taken → ℕ → ℕ
left_by t n = cond (eqb (number_of t.answer) 0) (left_after (is_accepted t.reason) n) n

unfoldable pub lapses : List Bool → ℕ → ℕ
lapses [] n = n
lapses (b ∷ bs) n = lapses bs (left_after b n)

pub record FrameWithin (n : ℕ) (ts : List ℕ) : Type 0 where
  pub before : List ℕ
  pub frame : List ℕ
  pub later : List ℕ
  pub all : ts ≡ before ++ (frame ++ later)
  pub sound : acceptable frame ≡ true
  pub recent : length later < n

abbrev pub Steady : ℕ → List ℕ → Type 0
Steady s [] = Unit {0}
Steady s (t ∷ ts) = ((t ≡ s) ⊎ (marked t ≡ true)) × Steady s ts
