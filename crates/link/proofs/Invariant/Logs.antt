-- Logs as parts of what was accepted.
--   length_more   a log with one message more
--   part_more     l is the first so many of all, and gets the next one
--   part_grows    all grows behind that part
-- Assumes nothing.
use Prim.Native.Nat.{suc, ◌≤◌, ◌<◌}
use mathlib.Core.List.{List, [], ◌∷◌, ◌++◌}
use mathlib.Core.Path.{◌≡◌, sym, ap, ◌∙◌}
use native.Mathlib.Numerals.{add-one}
use lib.ListN.{length, get_or, take, length-append}
use lib.Seq.{take-suc, take-append-le}

pub length_more : {M : Type 0} (l : List M) (m : M) → length (l ++ (m ∷ [])) ≡ suc (length l)
length_more l m = length-append l (m ∷ []) ∙ add-one (length l)

pub part_more : {M : Type 0} (d : M) (all l : List M) (m : M) → l ≡ take (length l) all
    → length l < length all → get_or all (length l) d ≡ m → l ++ (m ∷ []) ≡ take (length (l ++ (m ∷ []))) all
part_more d all l m e h q =
    ap (λ k. k ++ (m ∷ [])) e
    ∙ ap (λ n. take (length l) all ++ (n ∷ [])) (sym q)
    ∙ sym (take-suc all (length l) d h)
    ∙ ap (λ n. take n all) (sym (length_more l m))

pub part_grows : {M : Type 0} (all l : List M) (m : M) → length l ≤ length all → l ≡ take (length l) all
    → l ≡ take (length l) (all ++ (m ∷ []))
part_grows all l m h e = e ∙ sym (take-append-le (length l) all (m ∷ []) h)
