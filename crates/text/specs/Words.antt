-- The words of a line, as lists of bytes. One or more spaces separate them.
--   ended w ws        the word w before the words ws, where it has a letter at all
--   parted w l        the words of a line that goes on with l, behind the letters w of a word that is still open
--   words_of l         the words of the line l
--   rest_of ws         all but the first of them
--   none_of ws        there are none
--   same_as v w       v and w are the same word
--   place_of w ws      which of the words ws is w, counted from 0; as many as there are where it is none of them
--   asks_of ws        a line of the words ws asks for something: its first word does not begin with #
--   spaces_of l       how many spaces l begins with
--   Stands l w r      the word w stands in the line l, and r behind it up to the line's end: it is the first of the words
-- Assumes nothing.
use Rattle.std.specs.Prelude.{ℕ, suc, ◌+◌, ◌-◌, ◌≤◌, ◌<◌, Bool, true, false, cond, not, ◌&&◌, List, [], ◌∷◌, ◌++◌, ◌≡◌, refl, eqb, length, drop, get_or}

unfoldable pub ended : List ℕ → List (List ℕ) → List (List ℕ)
ended [] ws = ws
ended (x ∷ w) ws = (x ∷ w) ∷ ws

unfoldable pub parted : List ℕ → List ℕ → List (List ℕ)
parted w [] = ended w []
parted w (x ∷ l) = cond (eqb x 32) (ended w (parted [] l)) (parted (w ++ (x ∷ [])) l)

abbrev pub words_of : List ℕ → List (List ℕ)
words_of l = parted [] l

unfoldable pub rest_of : List (List ℕ) → List (List ℕ)
rest_of [] = []
rest_of (w ∷ ws) = ws

unfoldable pub none_of : List (List ℕ) → Bool
none_of [] = true
none_of (w ∷ ws) = false

unfoldable pub same_as : List ℕ → List ℕ → Bool
same_as [] [] = true
same_as [] (y ∷ w) = false
same_as (x ∷ v) [] = false
same_as (x ∷ v) (y ∷ w) = eqb x y && same_as v w

unfoldable pub place_of : List ℕ → List (List ℕ) → ℕ
place_of w [] = 0
place_of w (v ∷ ws) = cond (same_as v w) 0 (suc (place_of w ws))

unfoldable pub asks_of : List (List ℕ) → Bool
asks_of [] = false
asks_of (w ∷ ws) = not (eqb (get_or w 0 0) 35)

unfoldable pub spaces_of : List ℕ → ℕ
spaces_of [] = 0
spaces_of (x ∷ l) = cond (eqb x 32) (suc (spaces_of l)) 0

pub record Stands (l w r : List ℕ) : Type 0 where
  pub some : 0 < length w
  pub inside : length w + length r ≤ length l
  pub place : drop (length l - (length w + length r)) l ≡ w ++ r
  pub words : words_of l ≡ w ∷ words_of r

-- " ab  c" has the words "ab" and "c"; which of "a b" is "b", and "c"
two_words : words_of (0x20 ∷ 0x61 ∷ 0x62 ∷ 0x20 ∷ 0x20 ∷ 0x63 ∷ []) ≡ (0x61 ∷ 0x62 ∷ []) ∷ (0x63 ∷ []) ∷ []
unfolding parted ended
two_words = refl

second : place_of (0x62 ∷ []) (words_of (0x61 ∷ 0x20 ∷ 0x62 ∷ [])) ≡ 1
unfolding parted ended place_of same_as
second = refl

neither : place_of (0x63 ∷ []) (words_of (0x61 ∷ 0x20 ∷ 0x62 ∷ [])) ≡ 2
unfolding parted ended place_of same_as
neither = refl
