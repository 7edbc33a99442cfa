-- What a word names, and what a line that sets says of a field.
--   Placed n l w o        o is the one of the fields l at whose place the word w stands among their names by n; none, where
--                         w is no name of them
--   Sets n c m ws f i v   the words ws spell the name `n` of the field f and, where it has several elements `c`, which of
--                         them, i, and v, a value of it, none above its largest `m`; of a single one i is 0
-- Assumes nothing.
use Rattle.std.specs.Prelude.{ℕ, ◌<◌, List, ◌∷◌, ◌≡◌, Ok, Option, MatchOption, HoldsAt, length, map}
use Rattle.text.specs.Numbers.{first_of, last_of}
use Rattle.text.specs.Words.{place_of, rest_of}

abbrev pub Placed : {F : Type 0} → (F → List ℕ) → List F → List ℕ → Option F → Type 0
Placed name all word o =
    MatchOption o
    (place_of word (map name all) ≡ length all)
    (λ f. (place_of word (map name all) < length all) × HoldsAt (λ g. g ≡ f) all (place_of word (map name all)))

pub record Sets {F : Type 0} (name : F → List ℕ) (elements largest : F → ℕ) (ws : List (List ℕ)) (f : F) (i v : ℕ) : Type 0 where
  pub behind : List (List ℕ)
  pub named : ws ≡ name f ∷ behind
  pub single : elements f ≡ 1 → (i ≡ 0) × (last_of 16 (largest f) behind ≡ Ok v)
  pub several : ¬ (elements f ≡ 1) → (first_of 10 65535 behind ≡ Ok i) × (last_of 16 (largest f) (rest_of behind) ≡ Ok v)
