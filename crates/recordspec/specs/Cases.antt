-- Records spelled out, byte by byte as docs/RECORD.md lays them.
--   fresh       the record of an end just reset
--   first b, second b, third   the bytes of the end `worked b` of crate `end` up to the collection, those behind it,
--               and the counts
--   laid b      its record; laid_one b and laid_two b, its records of version 1 and of version 2
-- Assumes nothing.
use Rattle.std.specs.Prelude.{ℕ, Bool, List, [], ◌∷◌, ◌++◌, replicate}
use Rattle.recordspec.specs.Record.{flag}

abbrev pub fresh : List ℕ
fresh = 0 ∷ 101 ∷ 3 ∷ (replicate 26 0 ++ (1 ∷ replicate 71 0))

-- the bytes that the versions share: up to the collection, behind it, and the counts
abbrev pub first : (ℕ → Bool) → List ℕ
first b =
    0 ∷ 1 ∷ 1 ∷ 2 ∷ 0 ∷ 3 ∷ 1 ∷ 4 ∷ 0 ∷ 5 ∷ 1 ∷ 6 ∷ 0 ∷ 7 ∷ 1 ∷ 8 ∷ 0 ∷ 9 ∷ 1 ∷ 10 ∷ 0 ∷ 11 ∷ 1 ∷ 12 ∷ 7 ∷
    flag (b 0) ∷ flag (b 1) ∷ 1 ∷ 2 ∷ flag (b 2) ∷ flag (b 3) ∷ flag (b 4) ∷ flag (b 5) ∷ 13 ∷ flag (b 6) ∷
    11 ∷ 22 ∷ 33 ∷ 44 ∷ 55 ∷ 66 ∷ 77 ∷ 88 ∷ 1 ∷ 241 ∷ 0 ∷ 242 ∷ 1 ∷ 243 ∷ 0 ∷ 244 ∷ 1 ∷ 245 ∷ 0 ∷ 246 ∷ 1 ∷
    247 ∷ 0 ∷ 248 ∷ 1 ∷ 249 ∷ 0 ∷ 250 ∷ 1 ∷ 251 ∷ 0 ∷ 252 ∷ 9 ∷ []

abbrev pub second : (ℕ → Bool) → List ℕ
second b =
    3 ∷ flag (b 7) ∷ flag (b 8) ∷ flag (b 9) ∷ flag (b 10) ∷ flag (b 11) ∷ flag (b 12) ∷ flag (b 13) ∷
    flag (b 14) ∷ flag (b 15) ∷ flag (b 16) ∷ 14 ∷ 201 ∷ 202 ∷ 203 ∷ 204 ∷ 205 ∷ 206 ∷ 207 ∷ 208 ∷ []

abbrev pub third : List ℕ
third = 0xF1 ∷ 0x22 ∷ 0x33 ∷ 0x44 ∷ 0xD5 ∷ 0x66 ∷ 0x97 ∷ 0x88 ∷ []

abbrev pub laid : (ℕ → Bool) → List ℕ
laid b = 0 ∷ 101 ∷ 3 ∷ (first b ++ (second b ++ (third ++ (0x02 ∷ 0xFD ∷ []))))

-- whether the partner was present is b 17
abbrev pub laid_one : (ℕ → Bool) → List ℕ
laid_one b = 0 ∷ 92 ∷ 1 ∷ (first b ++ (flag (b 17) ∷ second b))

abbrev pub laid_two : (ℕ → Bool) → List ℕ
laid_two b = 0 ∷ 100 ∷ 2 ∷ (first b ++ (flag (b 17) ∷ (second b ++ third)))
