-- What dump prints, an element and a field at a time.
--   joined_more      a text behind a byte behind a text is one text
--   elements_none    of no elements nothing is printed
--   elements_one     the first element, printed, is what is printed of one
--   elements_more    with a comma and the next element behind it, what is printed of n is what is printed of n + 1
--   dump_end         behind the last field nothing is printed
--   dump_more        the field at a place, printed, before what is printed of those behind it
--   room_here        the room of the fields from one on is that of this one and of those behind it
--   dump_all         what is printed of fields is printed of the same ones
--   field_joined     a name, a byte, a text and a byte, each behind the one before, are one text
-- Assumes nothing.
use Rattle.std.proofs.Common.{ℕ, ◌+◌, ◌*◌, ◌-◌, ◌<◌, ◌≤◌, ◌≡◌, List, [], ◌∷◌, ◌++◌, length, get_or, drop, eqb, refl, sym, ◌∙◌, ap, subst, arith, append_assoc, length-append, length-drop}
use Rattle.std.proofs.lemmas.List.{append-nil, drop_all, drop_more, flat_map_more}
use Rattle.std.proofs.Math.ListN.{get_or-append}
use Rattle.std.proofs.Math.Seq.{get_or-append_seam}
use Rattle.std.proofs.lemmas.Bool.Decides.{nat_tests}
use borrow.Author.Count.{below_more}
use Rattle.text.specs.Printed.{closing_of, short_of}
use Rattle.consolecommands.specs.Dump.{commas, Dump, dump_room, Elements}

pub joined_more : (a b c d t u : List ℕ) (x : ℕ) → b ≡ a ++ t → c ≡ b ++ (x ∷ []) → d ≡ c ++ u → d ≡ a ++ (t ++ (x ∷ u))
joined_more a b c d t u x e f h =
    h ∙ ap (λ l. l ++ u) (f ∙ ap (λ l. l ++ (x ∷ [])) e) ∙ simp append_assoc

commas_more : (vs : List ℕ) (w : ℕ) → 0 < length vs → commas (vs ++ w ∷ []) ≡ commas vs ++ (44 ∷ short_of 16 4 w)
unfolding commas
commas_more [] w h = absurd (omega arith)
commas_more (v ∷ vs) w h = sym (flat_map_more (λ w. 44 ∷ short_of 16 4 w) (short_of 16 4 v) vs w)

pub elements_none : (P : ℕ → ℕ → Type 0) (n : ℕ) → n ≡ 0 → Elements P n []
unfolding commas
elements_none P n e = record {
  values = [];
  count = sym e;
  each = λ i b. absurd (omega arith);
  printed = refl;
}

pub elements_one : (P : ℕ → ℕ → Type 0) (v : ℕ) → P 0 v → Elements P 1 (short_of 16 4 v)
unfolding commas
elements_one P v h = record {
  values = v ∷ [];
  count = refl;
  each = λ i b. let e : 0 ≡ i = omega arith in subst (λ i. P i (get_or (v ∷ []) i 0)) e h;
  printed = sym (append-nil (short_of 16 4 v));
}

pub elements_more : (P : ℕ → ℕ → Type 0) (n : ℕ) (t : List ℕ) (w : ℕ) → 1 ≤ n → Elements P n t → P n w → Elements P (n + 1) (t ++ (44 ∷ short_of 16 4 w))
elements_more P n t w some e h =
    let vs = e.values in
    let count = e.count in
    let last : P n (get_or (vs ++ w ∷ []) n 0) =
    subst (λ k. P n (get_or (vs ++ w ∷ []) k 0)) count (subst (P n) (sym (get_or-append_seam vs w [] 0)) h) in
    record {
      values = vs ++ w ∷ [];
      count = length-append vs (w ∷ []) ∙ ap (λ k. k + 1) count;
      each = below_more (λ i. P i (get_or (vs ++ w ∷ []) i 0)) n
          (λ i b. subst (P i) (sym (get_or-append vs (w ∷ []) 0 i (omega arith))) (e.each i b))
          last;
      printed = ap (λ u. u ++ (44 ∷ short_of 16 4 w)) e.printed ∙ sym (commas_more vs w (omega arith));
    }

drop_here : {F : Type 0} (fs : List F) (i : ℕ) (f : F) → i < length fs → f ≡ get_or fs i f → drop i fs ≡ f ∷ drop (i + 1) fs
drop_here fs i f b e = drop_more fs i f b ∙ ap (λ g. g ∷ drop (i + 1) fs) (sym e)

last_here : (i n : ℕ) → i < n → eqb (n - (i + 1)) 0 ≡ eqb (i + 1) n
last_here i n b = grind (arith, nat_tests)

dump_none : {F : Type 0} (name : F → List ℕ) (elements : F → ℕ) (allowed : F → ℕ → ℕ → Type 0) → Dump name elements allowed [] []
unfolding Dump
dump_none name elements allowed = refl

pub dump_end : {F : Type 0} (name : F → List ℕ) (elements : F → ℕ) (allowed : F → ℕ → ℕ → Type 0) (fs : List F) (i : ℕ) → length fs ≤ i → Dump name elements allowed (drop i fs) []
dump_end name elements allowed fs i b =
    subst (λ gs. Dump name elements allowed gs []) (sym (drop_all i fs b)) (dump_none name elements allowed)

pub dump_more : {F : Type 0} (name : F → List ℕ) (elements : F → ℕ) (allowed : F → ℕ → ℕ → Type 0) (fs : List F) (i : ℕ) (f : F) (l m : List ℕ) → i < length fs → f ≡ get_or fs i f → Elements (allowed f) (elements f) l → Dump name elements allowed (drop (i + 1) fs) m → Dump name elements allowed (drop i fs) (name f ++ ((61 ∷ l) ++ (closing_of (eqb (i + 1) (length fs)) ∷ m)))
unfolding Dump
dump_more name elements allowed fs i f l m b e shown rest =
    let last : eqb (length (drop (i + 1) fs)) 0 ≡ eqb (i + 1) (length fs) = ap (λ n. eqb n 0) (length-drop (i + 1) fs) ∙ last_here i (length fs) b in
    subst (λ gs. Dump name elements allowed gs (name f ++ ((61 ∷ l) ++ (closing_of (eqb (i + 1) (length fs)) ∷ m)))) (sym (drop_here fs i f b e))
    (l, m, shown, rest, ap (λ t. name f ++ ((61 ∷ l) ++ (closing_of t ∷ m))) (sym last))

pub room_here : {F : Type 0} (name : F → List ℕ) (elements : F → ℕ) (fs : List F) (i : ℕ) (f : F) (n : List ℕ) → i < length fs → f ≡ get_or fs i f → n ≡ name f → dump_room name elements (drop i fs) ≡ length n + 2 + 5 * elements f + dump_room name elements (drop (i + 1) fs)
unfolding dump_room
room_here name elements fs i f n b e named =
    ap (dump_room name elements) (drop_here fs i f b e) ∙ ap (λ m. length m + 2 + 5 * elements f + dump_room name elements (drop (i + 1) fs)) (sym named)

pub dump_all : {F : Type 0} (name : F → List ℕ) (elements : F → ℕ) (allowed : F → ℕ → ℕ → Type 0) (fs gs : List F) (text : List ℕ) → fs ≡ gs → Dump name elements allowed fs text → Dump name elements allowed gs text
dump_all name elements allowed fs gs text e d = subst (λ hs. Dump name elements allowed hs text) e d

pub field_joined : (a b c d e n k l rest : List ℕ) (x y : ℕ) → n ≡ k → b ≡ a ++ n → c ≡ b ++ (x ∷ []) → d ≡ c ++ l → e ≡ d ++ (y ∷ []) → e ++ rest ≡ a ++ (k ++ ((x ∷ l) ++ (y ∷ rest)))
field_joined a b c d e n k l rest x y same named equals shown closed =
    ap (λ t. t ++ rest) (closed ∙ ap (λ t. t ++ (y ∷ [])) (shown ∙ ap (λ t. t ++ l) (equals ∙ ap (λ t. t ++ (x ∷ [])) (named ∙ ap (λ t. a ++ t) same)))) ∙ simp append_assoc
