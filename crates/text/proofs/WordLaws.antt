-- What the proofs cite of words.
--   differ                     true is not false
--   place_some, place_none     what `position` answers, of the first place n in a list as long as k
--   byte_place                 index_of is the first place of a byte
--   words_none, stands         a line of spaces alone has no word; behind the spaces of another, up to the next space,
--                              stands its first one
--   rest_place                 where the rest of a line begins
--   last_is, first_letter      none_of what next answers; asks_of by a word's first letter
--   spaces_more, spaces_stop, spaces_end   spaces_of at a place where a space stands, where none does, and at the end
-- Assumes nothing.
use Prim.Native.Nat.{ℕ, zero, suc, ◌+◌, ◌-◌, ◌≤◌, ◌<◌}
use mathlib.Core.Bool.{Bool, true, false, cond, not}
use mathlib.Core.List.{List, [], ◌∷◌, ◌++◌, append-nil, append_assoc}
use mathlib.Core.Path.{◌≡◌, refl, sym, ap, ◌∙◌}
use native.Mathlib.Numerals.{add-one, one-add}
use native.Mathlib.Omega.{arith}
use borrow.Author.Tests.{eq-eqb, ne_eqb, ltb-true, ltb-false}
use lib.Dec.{eqb, ltb}
use lib.ListN.{length, take, drop, get_or, length-drop, drop_of_length-le}
use lib.Seq.{drop-cons, drop-drop, drop-length, drop-append_seam, take-length}
use denote.Ref.{Bor}
use Rattle.std.specs.Prelude.{Option, Some, None, position, is_some, MatchOption}
use Rattle.std.specs.List.{position_or_len}
use Rattle.std.specs.Option.{unwrap_or}
use Rattle.std.proofs.lemmas.List.{take-append-drop}
use Rattle.std.proofs.lemmas.List.Recursion.{is_position_or_len}
use Rattle.std.proofs.lemmas.List.Sums.{prefix_len-le-length}
use Rattle.text.specs.Bytes.{index_of}
use Rattle.text.specs.Words.{ended, parted, words_of, none_of, asks_of, spaces_of, Stands}

pub differ : true ≡ false → ⊥
differ e = let z : ◌≡◌ {A = ℕ} 0 1 = cc in omega arith

place_by : (n k i : ℕ) (t : Bool) → ltb n k ≡ t → cond t (Some n) None ≡ Some i → (n ≡ i) × (i < k)
place_by n k i true e s = let same : n ≡ i = cc in (same, rw (sym same) (ltb-true n k e))
place_by n k i false e s = let z : ◌≡◌ {A = ℕ} 0 1 = cc in absurd (omega arith)

pub place_some : (n k i : ℕ) → cond (ltb n k) (Some n) None ≡ Some i → (n ≡ i) × (i < k)
place_some n k i s = place_by n k i (ltb n k) refl s

none_at : (n k : ℕ) (t : Bool) → ltb n k ≡ t → cond t (Some n) None ≡ None → k ≤ n
none_at n k true e s = let z : ◌≡◌ {A = ℕ} 0 1 = cc in absurd (omega arith)
none_at n k false e s = ltb-false n k e

pub place_none : (n k : ℕ) → cond (ltb n k) (Some n) None ≡ None → k ≤ n
place_none n k s = none_at n k (ltb n k) refl s

or_len_by : (n k : ℕ) (t : Bool) → ltb n k ≡ t → n ≤ k → unwrap_or (cond t (Some n) None) k ≡ n
or_len_by n k true e h = refl
or_len_by n k false e h = let m : k ≤ n = ltb-false n k e in omega arith

or_len : (n k : ℕ) → n ≤ k → unwrap_or (cond (ltb n k) (Some n) None) k ≡ n
or_len n k h = or_len_by n k (ltb n k) refl h

pub byte_place : (b : ℕ) (l : List ℕ) → index_of b l ≡ position_or_len (λ x. eqb x b) l
unfolding index_of
byte_place b l = is_position_or_len (index_of b) (λ x. eqb x b) refl (λ x l. rw one-add refl) l

spaces_step : (x : ℕ) (l : List ℕ) (t : Bool) → eqb x 32 ≡ t
    → spaces_of (x ∷ l) ≡ cond (not t) 0 (1 + spaces_of l)
unfolding spaces_of
spaces_step x l true e = rw e (omega arith)
spaces_step x l false e = rw e refl

spaces_place : (l : List ℕ) → spaces_of l ≡ position_or_len (λ x. not (eqb x 32)) l
unfolding spaces_of
spaces_place l =
    is_position_or_len spaces_of (λ x. not (eqb x 32)) refl (λ x l. spaces_step x l (eqb x 32) refl) l

parted_by : (w : List ℕ) (x : ℕ) (l : List ℕ) (t : Bool) → eqb x 32 ≡ t
    → ((v : List ℕ) → parted v l ≡ ended (v ++ take (index_of 32 l) l) (words_of (drop (index_of 32 l) l)))
    → parted w (x ∷ l) ≡ ended (w ++ take (index_of 32 (x ∷ l)) (x ∷ l)) (words_of (drop (index_of 32 (x ∷ l)) (x ∷ l)))
unfolding parted ended index_of
parted_by w x l true e k = rw (e, e, append-nil w) refl
parted_by w x l false e k =
    rw e
    (k (w ++ (x ∷ []))
    ∙ ap (λ (v : List ℕ). ended v (words_of (drop (index_of 32 l) l))) (append_assoc w (x ∷ []) (take (index_of 32 l) l)))

parted_word : (w l : List ℕ) → parted w l ≡ ended (w ++ take (index_of 32 l) l) (words_of (drop (index_of 32 l) l))
unfolding parted ended index_of
parted_word w [] = rw (append-nil w) refl
parted_word w (x ∷ l) = parted_by w x l (eqb x 32) refl (λ v. parted_word v l)

spaces_by : (x : ℕ) (l : List ℕ) (t : Bool) → eqb x 32 ≡ t → words_of l ≡ words_of (drop (spaces_of l) l)
    → words_of (x ∷ l) ≡ words_of (drop (spaces_of (x ∷ l)) (x ∷ l))
unfolding parted ended spaces_of
spaces_by x l true e k = rw e k
spaces_by x l false e k = rw (e, e) refl

spaces_words : (l : List ℕ) → words_of l ≡ words_of (drop (spaces_of l) l)
unfolding spaces_of
spaces_words [] = refl
spaces_words (x ∷ l) = spaces_by x l (eqb x 32) refl (spaces_words l)

letter_by : (x : ℕ) (l : List ℕ) (t : Bool) → eqb x 32 ≡ t
    → (spaces_of l < length l → 0 < index_of 32 (drop (spaces_of l) l))
    → spaces_of (x ∷ l) < length (x ∷ l) → 0 < index_of 32 (drop (spaces_of (x ∷ l)) (x ∷ l))
unfolding spaces_of index_of
letter_by x l true e k h = let less : suc (spaces_of l) < suc (length l) = rw e at h in rw e (k (omega arith))
letter_by x l false e k h = rw (e, e) (omega arith)

letter : (l : List ℕ) → spaces_of l < length l → 0 < index_of 32 (drop (spaces_of l) l)
unfolding spaces_of index_of
letter [] h = absurd (omega arith)
letter (x ∷ l) h = letter_by x l (eqb x 32) refl (letter l) h

pub words_none : (l : List ℕ) → position (λ x. not (eqb x 32)) l ≡ None → words_of l ≡ []
unfolding parted ended
words_none l e =
    let n : length l ≤ spaces_of l = rw (spaces_place l) (place_none _ _ e) in
    spaces_words l ∙ rw (drop_of_length-le l n) refl

ended_some : (n : ℕ) (m : List ℕ) (ws : List (List ℕ)) → 0 < n → n ≤ length m → ended (take n m) ws ≡ take n m ∷ ws
unfolding ended
ended_some zero m ws p h = absurd (omega arith)
ended_some (suc n) [] ws p h = absurd (omega arith)
ended_some (suc n) (x ∷ m) ws p h = refl

pub rest_whole : (l : List ℕ) (i : ℕ) → take (length l - i) (drop i l) ≡ drop i l
rest_whole l i = ap (λ (n : ℕ). take n (drop i l)) (sym (length-drop i l)) ∙ take-length (drop i l)

-- behind the first i bytes of the line l, all of them spaces, stands m
module _ (l : List ℕ) (i : ℕ) (m : List ℕ) (e : ℕ) (cut : m ≡ drop i l)
    (a : position (λ x. not (eqb x 32)) l ≡ Some i) (b : e ≡ unwrap_or (position (λ x. eqb x 32) m) (length m)) where
  at : (spaces_of l ≡ i) × (i < length l)
  at = let p = place_some _ _ i a in (spaces_place l ∙ p.0, p.1)

  goes : e ≡ index_of 32 m
  goes = b ∙ or_len _ _ (prefix_len-le-length _ m) ∙ sym (byte_place 32 m)

  inside : e ≤ length m
  inside = rw (goes ∙ byte_place 32 m) (prefix_len-le-length _ m)

  some : 0 < e
  some = rw (goes, cut, sym at.0) (letter l (rw at.0 at.1))

  words : words_of l ≡ take e m ∷ words_of (drop e m)
  words =
      spaces_words l
      ∙ ap (λ (n : ℕ). words_of (drop n l)) at.0
      ∙ ap (λ (r : List ℕ). words_of r) (sym cut)
      ∙ parted_word [] m
      ∙ ap (λ (n : ℕ). ended (take n m) (words_of (drop n m))) (sym goes)
      ∙ ended_some e m (words_of (drop e m)) some inside

  pub stands : {w r : List ℕ} → w ≡ take e m → r ≡ drop e m → length w ≡ e → length r + e ≡ length m → Stands l w r
  stands {w} {r} p q k n =
      let long : length m ≡ length l - i = ap length cut ∙ length-drop i l in
      let begin : length l - (length w + length r) ≡ i = omega (arith, at.1) in
      record {
        some = rw k some;
        inside = omega arith;
        place = rw begin (sym cut ∙ sym (take-append-drop e m) ∙ rw (p, q) refl);
        words = rw (p, q) words;
      }

pub rest_place : (l w r : List ℕ) → Stands l w r → r ≡ drop (length l - length r) l
rest_place l w r s =
    let sum : length l - (length w + length r) + length w ≡ length l - length r = omega (arith, s.inside) in
    sym (drop-append_seam w r)
    ∙ ap (drop (length w)) (sym s.place)
    ∙ drop-drop (length w) (length l - (length w + length r)) l
    ∙ ap (λ (n : ℕ). drop n l) sum

pub last_is : (l : List ℕ) (o : Option (Bor (List ℕ) × Bor (List ℕ))) (r : Bool) → is_some o ≡ not r
    → MatchOption o (words_of l ≡ []) (λ w. Stands l w.0.now w.1.now) → r ≡ none_of (words_of l)
unfolding none_of
last_is l None true k e = rw e refl
last_is l None false k e = absurd (differ (sym k))
last_is l (Some w) true k s = absurd (differ k)
last_is l (Some w) false k s = rw s.words refl

pub first_letter : (l w r : List ℕ) (t : Bool) → Stands l w r → eqb (get_or w 0 0) 35 ≡ t
    → asks_of (words_of l) ≡ not t
unfolding asks_of
first_letter l w r t s e = rw (s.words, e) refl

-- Places

pub spaces_more : (l : List ℕ) (i k : ℕ) → i < length l → get_or l i 0 ≡ 32 → i + spaces_of (drop i l) ≡ k
    → (i + 1) + spaces_of (drop (i + 1) l) ≡ k
unfolding spaces_of
spaces_more l i k h e f =
    let one : spaces_of (drop i l) ≡ suc (spaces_of (drop (i + 1) l)) =
    rw (drop-cons l i 0 h, eq-eqb (get_or l i 0) 32 e, add-one) refl in
    omega arith

pub spaces_stop : (l : List ℕ) (i : ℕ) → i < length l → (get_or l i 0 ≡ 32 → ⊥) → spaces_of (drop i l) ≡ 0
unfolding spaces_of
spaces_stop l i h n = rw (drop-cons l i 0 h, ne_eqb (get_or l i 0) 32 n) refl

pub spaces_end : (l : List ℕ) (i : ℕ) → i ≡ length l → spaces_of (drop i l) ≡ 0
unfolding spaces_of
spaces_end l i e = rw (e, drop-length l) refl
