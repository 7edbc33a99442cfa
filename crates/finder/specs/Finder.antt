-- The finder of document 01, "The finder": the first place of a list where twelve symbols pass as an acceptable frame.
--   limit          the longest list that is searched, as request #102 has it
--   passes l k     the twelve symbols of l from place k on are an acceptable frame
--   somewhere l    there is a place of l that passes
--   first_place l  how many places of l stand before the first that passes
--   answer_of l     the answer: 7 over the limit, then 5 for a number that is no symbol, then 8 where no place passes
--   done l         none of these refuses
--   find_of l      the answer and the place, which is 0 on refusal
--   stretch_of l   the part of l that is found, empty on refusal
-- Assumes nothing.
use Rattle.std.specs.Prelude.{ℕ, suc, Bool, false, not, ◌&&◌, ◌||◌, cond, List, [], ◌∷◌, leb, length, take, drop}
use Rattle.answer.specs.declared.Answer.{Answer}
use Rattle.answer.specs.declared.Answer.TheVariants.{Done, BadSymbol, BadLength, NothingFound}
use Rattle.frame.specs.Check.{some_above}
use Rattle.frame.specs.Frame.{acceptable}
use Rattle.finder.specs.declared.Found.{Found}

abbrev pub limit : ℕ
limit = 32768

abbrev pub passes : List ℕ → ℕ → Bool
passes l k = acceptable (take 12 (drop k l))

unfoldable pub somewhere : List ℕ → Bool
somewhere [] = false
somewhere (s ∷ l) = passes (s ∷ l) 0 || somewhere l

unfoldable pub first_place : List ℕ → ℕ
first_place [] = 0
first_place (s ∷ l) = cond (passes (s ∷ l) 0) 0 (suc (first_place l))

unfoldable pub answer_of : List ℕ → Answer
answer_of l =
    cond (leb (length l) limit)
    (cond (some_above l) BadSymbol
    (cond (somewhere l) Done NothingFound))
    BadLength

unfoldable pub done : List ℕ → Bool
done l = leb (length l) limit && (not (some_above l) && somewhere l)

unfoldable pub find_of : List ℕ → Found
find_of l = record { answer = answer_of l; place = cond (done l) (first_place l) 0 }

unfoldable pub stretch_of : List ℕ → List ℕ
stretch_of l = cond (done l) (take 12 (drop (first_place l) l)) []
