-- What the proofs cite of numbers that are read.
--   digit_small, digit_large   a character's digit in base sixteen, where it has one, is digit_of its byte
--   long-                      long_of at a place: it goes on, there is no digit, the number is too large, the word ends
--   last_first, last_extra     last_of where no word is behind the first, and where one is
--   none_is                    a list of words with none in it is empty
--   list-                      list_of at a place: there are no more words, there is no room, a word is wrong, one more
--                              is read
-- Assumes nothing.
use Prim.Native.Nat.{ℕ, zero, suc, ◌+◌, ◌-◌, ◌*◌, ◌≤◌, ◌<◌}
use mathlib.Core.Bool.{true, false}
use mathlib.Core.Path.{◌≡◌, refl, sym, ap, ap₂, ◌∙◌}
use mathlib.Core.List.{List, [], ◌∷◌, ◌++◌, append-nil, append_assoc}
use native.Mathlib.Numerals.{add-one, sub-one}
use native.Mathlib.Omega.{arith}
use borrow.Author.Tests.{lt-ltb, le-ltb, le-leb, lt-leb}
use lib.ListN.{length, take, drop, get_or, set}
use lib.Seq.{drop-cons, drop-length, take-suc-set}
use Rattle.std.specs.Prelude.{Result, Ok, Err}
use Rattle.std.specs.Char.{digit_value}
use Rattle.text.proofs.WordLaws.{differ}
use Rattle.text.specs.declared.fault.Fault.{Fault}
use Rattle.text.specs.Numbers.{digit_of, long_of, number_of, first_of, last_of}
use Rattle.text.specs.Numbers.{Numbers, these, wrong, put, put_all, list_of}
use Rattle.text.specs.Words.{none_of, rest_of}

pub digit_small : (b : ℕ) → digit_value b < 16 → digit_value b ≡ digit_of b
unfolding digit_of
digit_small b h = grind arith

pub digit_large : (b : ℕ) → 16 ≤ digit_value b → 16 ≤ digit_of b
unfolding digit_of
digit_large b h = grind arith

-- at the place i of the word w, whose digit counts d, with the value v so far
module _ (base most v i d : ℕ) (w : List ℕ)
    (k : long_of base most v (drop i w) ≡ long_of base most 0 w)
    (e : d ≡ digit_of (get_or w i 0))
    (h : i < length w) where
  pub long_more : d < base → v * base + d ≤ most
      → long_of base most (v * base + d) (drop (i + 1) w) ≡ long_of base most 0 w
  unfolding long_of
  long_more p q = rw add-one (rw (drop-cons w i 0, ← e, lt-leb base d p, le-ltb most (v * base + d) q) at k)

  pub long_digits : base ≤ d → Err Fault.Digits ≡ long_of base most 0 w
  unfolding long_of
  long_digits p = rw (drop-cons w i 0, ← e, le-leb base d p) at k

  pub long_large : d < base → most < v * base + d → Err Fault.TooLarge ≡ long_of base most 0 w
  unfolding long_of
  long_large p q = rw (drop-cons w i 0, ← e, lt-leb base d p, lt-ltb most (v * base + d) q) at k

pub long_end : (base most v i : ℕ) (w : List ℕ) → long_of base most v (drop i w) ≡ long_of base most 0 w
    → i ≡ length w → Ok v ≡ long_of base most 0 w
unfolding long_of
long_end base most v i w k e = rw (e, drop-length w) at k

pub last_first : (base most : ℕ) (ws : List (List ℕ)) → none_of (rest_of ws) ≡ true
    → first_of base most ws ≡ last_of base most ws
unfolding none_of rest_of first_of last_of
last_first base most [] e = refl
last_first base most (w ∷ []) e = refl
last_first base most (w ∷ v ∷ ws) e = absurd (differ (sym e))

pub last_extra : (base most : ℕ) (ws : List (List ℕ)) → none_of (rest_of ws) ≡ false
    → Err Fault.Extra ≡ last_of base most ws
unfolding none_of rest_of last_of
last_extra base most [] e = absurd (differ e)
last_extra base most (w ∷ []) e = absurd (differ e)
last_extra base most (w ∷ v ∷ ws) e = refl

-- Lists

pub list_start : (x : Numbers) → x ≡ put_all [] x
unfolding put_all
list_start (these l) = refl
list_start (wrong f) = refl

put_more : (t : List ℕ) (q : ℕ) (x : Numbers) → put_all t (put (Ok q) x) ≡ put_all (t ++ (q ∷ [])) x
unfolding put_all put
put_more t q (these m) = ap these (sym (append_assoc t (q ∷ []) m))
put_more t q (wrong f) = refl

list_word : (most k : ℕ) (w : List ℕ) (v : List (List ℕ)) → 0 < k
    → list_of most k (w ∷ v) ≡ put (number_of 16 most w) (list_of most (k - 1) v)
unfolding list_of
list_word most zero w v p = absurd (omega arith)
list_word most (suc k) w v p = rw sub-one

pub none_is : (ws : List (List ℕ)) → none_of ws ≡ true → ws ≡ []
unfolding none_of
none_is [] e = refl
none_is (w ∷ ws) e = absurd (differ (sym e))

full_at : (most : ℕ) (ws : List (List ℕ)) → none_of ws ≡ false → list_of most 0 ws ≡ wrong Fault.Count
unfolding none_of list_of
full_at most [] e = absurd (differ e)
full_at most (w ∷ ws) e = refl

-- behind the numbers t that were read, with room for k more, where the words ws are left
module _ (most k : ℕ) (t : List ℕ) (ws : List (List ℕ)) {x : Numbers} (e : x ≡ put_all t (list_of most k ws)) where
  pub list_none : ws ≡ [] → x ≡ these t
  unfolding put_all list_of
  list_none n = e ∙ rw (n, append-nil t) refl

  pub list_full : none_of ws ≡ false → k ≡ 0 → x ≡ wrong Fault.Count
  unfolding put_all
  list_full n z = e ∙ rw (z, full_at most ws n) refl

  pub list_wrong : (w : List ℕ) (v : List (List ℕ)) (f : Fault) → ws ≡ w ∷ v → 0 < k
      → Err f ≡ number_of 16 most w → x ≡ wrong f
  unfolding put_all put
  list_wrong w v f n p g =
      e
      ∙ ap (λ (u : List (List ℕ)). put_all t (list_of most k u)) n
      ∙ ap (put_all t) (list_word most k w v p ∙ ap (λ (y : Result ℕ Fault). put y (list_of most (k - 1) v)) (sym g))

  list_more : (w : List ℕ) (v : List (List ℕ)) (q : ℕ) → ws ≡ w ∷ v → 0 < k
      → Ok q ≡ number_of 16 most w → x ≡ put_all (t ++ (q ∷ [])) (list_of most (k - 1) v)
  list_more w v q n p g =
      e
      ∙ ap (λ (u : List (List ℕ)). put_all t (list_of most k u)) n
      ∙ ap (put_all t) (list_word most k w v p ∙ ap (λ (y : Result ℕ Fault). put y (list_of most (k - 1) v)) (sym g))
      ∙ put_more t q (list_of most (k - 1) v)

pub list_step : (most n count q : ℕ) (l w : List ℕ) (ws v : List (List ℕ)) {x : Numbers}
    → x ≡ put_all (take count l) (list_of most (n - count) ws) → ws ≡ w ∷ v → count < n → count < length l
    → Ok q ≡ number_of 16 most w
    → x ≡ put_all (take (count + 1) (set l count q)) (list_of most (n - (count + 1)) v)
list_step most n count q l w ws v e o h k g =
    let left : n - count - 1 ≡ n - (count + 1) = omega arith in
    list_more most (n - count) (take count l) ws e w v q o (omega arith) g
    ∙ ap₂ (λ (t : List ℕ) (m : ℕ). put_all t (list_of most m v)) (sym (rw add-one (take-suc-set l count q k))) left
