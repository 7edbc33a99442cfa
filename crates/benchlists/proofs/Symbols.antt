-- What the proof cites of symbols that are printed. Those of the first n stand behind x.
--   symbols_none  none of them
--   symbols_next  and then the next one, with what closes it
-- Assumes nothing.
use Rattle.std.proofs.Common.{◌≡◌, ℕ, ◌+◌, List, [], ◌∷◌, ◌++◌, sym, ap, ◌∙◌, add-one, get_or, eqb}
use Rattle.std.proofs.lemmas.List.{append_assoc, append-nil}
use Rattle.text.specs.Printed.{closing_of, hex_of}
use Rattle.benchlists.specs.Listed.{symbols_of}

pub symbols_none : (l x : List ℕ) → x ≡ x ++ symbols_of 0 l
unfolding symbols_of
symbols_none l x = sym (append-nil x)

pub symbols_next : (n : ℕ) (l x y z w : List ℕ) → y ≡ x ++ symbols_of n l → z ≡ y ++ hex_of 3 (get_or l n 0)
    → w ≡ z ++ (closing_of (eqb n 11) ∷ []) → w ≡ x ++ symbols_of (n + 1) l
unfolding symbols_of
symbols_next n l x y z w p q r =
    r
    ∙ (ap (λ (t : List ℕ). t ++ (closing_of (eqb n 11) ∷ []))
    (q
    ∙ (ap (λ (t : List ℕ). t ++ hex_of 3 (get_or l n 0)) p
    ∙ append_assoc x (symbols_of n l) (hex_of 3 (get_or l n 0))))
    ∙ (append_assoc x (symbols_of n l ++ hex_of 3 (get_or l n 0)) (closing_of (eqb n 11) ∷ [])
    ∙ ap (λ (k : ℕ). x ++ symbols_of k l) (sym (add-one n))))
