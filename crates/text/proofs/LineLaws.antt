-- What the proofs cite of lines.
--   has                       whether a list has a newline
--   has_more, has_whole       the same of one byte more, and of a whole list
--   before                    how many bytes stand before the first newline
--   passed                    so many bytes without one are passed together
--   left                      what of the text was not looked at yet
--   line_found, line_open     line_of where a newline stands in what was not looked at yet, and where none does
-- Assumes nothing.
use Prim.Native.Nat.{ℕ, suc, ◌+◌, ◌-◌, ◌<◌, ◌≤◌}
use mathlib.Core.Bool.{Bool, true, false, ◌||◌, not}
use mathlib.Core.List.{List, ◌∷◌, ◌++◌}
use mathlib.Core.Path.{◌≡◌, refl, sym, ap, ◌∙◌}
use native.Mathlib.Omega.{arith}
use borrow.Author.Tests.{eq-eqb, lt-ltb, le-ltb, ltb-false}
use lib.Dec.{eqb, ltb, leb-suc-suc}
use lib.ListN.{length, take, drop, get_or, length-drop}
use lib.Seq.{drop-drop}
use Rattle.std.specs.List.{position_or_len}
use Rattle.std.proofs.lemmas.List.{drop-take, length-take-le, take_all, take_more, take-append-drop}
use Rattle.std.proofs.lemmas.List.Folds.{prefix_len-append}
use Rattle.std.proofs.lemmas.List.Sums.{prefix_len-le-length}
use Rattle.std.proofs.lemmas.List.Recursion.{or_push}
use Rattle.text.proofs.WordLaws.{byte_place}
use Rattle.text.specs.Bytes.{index_of, slice}
use Rattle.text.specs.declared.lines.Found.{Found}
use Rattle.text.specs.declared.lines.Held.{Held}
use Rattle.text.specs.declared.lines.Line.{Line}
use Rattle.text.specs.Lines.{found_of, after_of, open_of, newline_of, line_by, line_of, Holds}

abbrev pub has : List ℕ → Bool
has l = ltb (index_of 10 l) (length l)

has_by : (x : ℕ) (l : List ℕ) (t : Bool) → eqb x 10 ≡ t → has (x ∷ l) ≡ (t || has l)
unfolding index_of
has_by x l true e = rw e (lt-ltb 0 (suc (length l)) (omega arith))
has_by x l false e = rw e (leb-suc-suc (suc (index_of 10 l)) (length l))

has_step : (x : ℕ) (l : List ℕ) → has (x ∷ l) ≡ (eqb x 10 || has l)
has_step x l = has_by x l (eqb x 10) refl

pub has_more : (l : List ℕ) (i : ℕ) {t : Bool} → i < length l → t ≡ has (take i l)
    → (t || eqb (get_or l i 0) 10) ≡ has (take (i + 1) l)
unfolding index_of
has_more l i inside e =
    ap (λ (u : Bool). u || eqb (get_or l i 0) 10) e
    ∙ sym (or_push has (λ x. eqb x 10) refl has_step (take i l) (get_or l i 0))
    ∙ ap has (sym (take_more l i 0 inside))

pub has_whole : (l : List ℕ) (i : ℕ) {t : Bool} → length l ≤ i → t ≡ has (take i l) → t ≡ has l
has_whole l i whole e = e ∙ ap has (take_all i l whole)

-- how many bytes stand before the first newline
abbrev pub before : List ℕ → ℕ
before l = position_or_len (λ x. eqb x 10) l

pub passed : (l : List ℕ) (i n k : ℕ) → i + n ≤ length l → has (take (i + n - i) (drop i l)) ≡ false
    → i + before (drop i l) ≡ k → (i + n) + before (drop (i + n) l) ≡ k
passed l i n k inside e f =
    let m = drop i l in
    let first = take n m in
    let same : i + n - i ≡ n = omega arith in
    let clear : has first ≡ false = ap (λ (j : ℕ). has (take j m)) (sym same) ∙ e in
    let long : length first ≡ n = length-take-le n m (rw (length-drop i l) (omega arith)) in
    let none : length first ≤ index_of 10 first = ltb-false (index_of 10 first) (length first) clear in
    let most : before first ≤ length first = prefix_len-le-length (λ x. not (eqb x 10)) first in
    let all : before first ≡ length first = omega (arith, byte_place 10 first) in
    let cut : before (first ++ drop n m) ≡ length first + before (drop n m) =
    prefix_len-append (λ x. not (eqb x 10)) first (drop n m) ∙ rw (eq-eqb (before first) (length first) all) refl in
    let sum : before m ≡ length first + before (drop n m) = ap before (sym (take-append-drop n m)) ∙ cut in
    rw (sym (drop-drop n i l)) (omega arith)

module _ (l : List ℕ) (h : Held) (holds : Holds h (length l)) where
  -- what was not looked at yet
  abbrev pub left : List ℕ
  left = take (h.filled - h.looked) (drop h.looked l)

  long : length left ≡ h.filled - h.looked
  long = length-take-le (h.filled - h.looked) (drop h.looked l) (rw (length-drop h.looked l) (omega (arith, holds.inside)))

  same : slice h.looked h.filled l ≡ left
  unfolding slice
  same =
      let sum : h.looked + (h.filled - h.looked) ≡ h.filled = omega (arith, holds.order) in
      ap (λ (n : ℕ). drop h.looked (take n l)) (sym sum) ∙ drop-take h.looked (h.filled - h.looked) l

  newline : newline_of l h ≡ h.looked + index_of 10 left
  newline = ap (λ (m : List ℕ). h.looked + index_of 10 m) same

  pub line_found : (i : ℕ) {f : Found} → i ≡ index_of 10 left → i < length left
      → f ≡ found_of h.passing l h.start (h.looked + i)
      → ◌≡◌ {A = Line} (record { found = f; held = after_of h (h.looked + i + 1) }) (line_of l h)
  unfolding line_by
  line_found i e inside p =
      let here : h.looked + i ≡ newline_of l h = omega (arith, newline) in
      let less : h.looked + i < h.filled = omega (arith, long) in
      rw (lt-ltb (h.looked + i) h.filled less)
      (ap {B = Line} (λ (f : Found). record { found = f; held = after_of h (h.looked + i + 1) }) p)
      ∙ ap (line_by l h) here

  pub line_open : index_of 10 left ≡ length left
      → ◌≡◌ {A = Line} (record { found = Found.Open; held = open_of h }) (line_of l h)
  unfolding line_by
  line_open e =
      let end : h.filled ≤ newline_of l h = omega (arith, newline, long) in
      rw (le-ltb (newline_of l h) h.filled end) refl
