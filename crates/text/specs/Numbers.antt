-- Numbers as a line spells them, in digits of a base up to sixteen.
--   digit_of b           what the byte b counts as a digit, '0' to '9', 'A' to 'F', 'a' to 'f'; 16 where it is none
--   long_of b m v l      the digits l in base b behind the value v, where no value on the way is above m
--   number_of b m l       what the word l spells in base b, where it is not above m
--   number_in r          the number of what was read with what stands behind it
--   first_of b m ws       the number that the first of the words ws spells; last_of b m ws, where it is the last one
--   Numbers              the numbers of a list, or what is wrong with one: these l, wrong f
--   list_of m n ws        the numbers that the words ws spell in hex, none above m, no more than n of them
--   put_all l x           the numbers l before those of x; put v x, a number v that was read
--   Lists r l x          x is what was read: as many numbers as r counts stand at the front of l, or r says what is
--                        wrong
-- Assumes nothing.
use Rattle.std.specs.Prelude.{ℕ, Result, Ok, Err, zero, suc, ◌+◌, ◌-◌, ◌*◌, ◌≤◌, cond, List, [], ◌∷◌, ◌++◌, ◌≡◌, refl, leb, ltb, length, take}
use denote.Ref.{Bor}
use Rattle.text.specs.declared.fault.Fault.{Fault}

unfoldable pub digit_of : ℕ → ℕ
digit_of b =
    cond (ltb b 48) 16
    (cond (ltb b 58) (b - 48)
    (cond (ltb b 65) 16
    (cond (ltb b 71) (b - 65 + 10)
    (cond (ltb b 97) 16
    (cond (ltb b 103) (b - 97 + 10)
    16)))))

unfoldable pub long_of : ℕ → ℕ → ℕ → List ℕ → Result ℕ Fault
long_of base most v [] = Ok v
long_of base most v (b ∷ l) =
    cond (leb base (digit_of b))
    (Err Fault.Digits)
    (cond (ltb most (v * base + digit_of b)) (Err Fault.TooLarge) (long_of base most (v * base + digit_of b) l))

abbrev pub number_of : ℕ → ℕ → List ℕ → Result ℕ Fault
number_of base most l = long_of base most 0 l

abbrev pub number_in : Result (ℕ × Bor (List ℕ)) Fault → Result ℕ Fault
number_in (Ok n) = Ok n.0
number_in (Err f) = Err f

unfoldable pub first_of : ℕ → ℕ → List (List ℕ) → Result ℕ Fault
first_of base most [] = Err Fault.Missing
first_of base most (w ∷ ws) = number_of base most w

unfoldable pub last_of : ℕ → ℕ → List (List ℕ) → Result ℕ Fault
last_of base most [] = Err Fault.Missing
last_of base most (w ∷ []) = number_of base most w
last_of base most (w ∷ v ∷ ws) = Err Fault.Extra

pub data Numbers : Type 0 where
  these : List ℕ → Numbers
  wrong : Fault → Numbers

unfoldable pub put_all : List ℕ → Numbers → Numbers
put_all l (these m) = these (l ++ m)
put_all l (wrong f) = wrong f

unfoldable pub put : Result ℕ Fault → Numbers → Numbers
put (Ok v) x = put_all (v ∷ []) x
put (Err f) x = wrong f

unfoldable pub list_of : ℕ → ℕ → List (List ℕ) → Numbers
list_of most n [] = these []
list_of most zero (w ∷ ws) = wrong Fault.Count
list_of most (suc n) (w ∷ ws) = put (number_of 16 most w) (list_of most n ws)

abbrev pub Lists : Result ℕ Fault → List ℕ → Numbers → Type 0
Lists (Ok n) l x = (n ≤ length l) × (x ≡ these (take n l))
Lists (Err f) l x = x ≡ wrong f

-- 3Ff and 03 in hex; 4096 and 4097 in decimal, none above 4096
hex : number_of 16 65535 (0x33 ∷ 0x46 ∷ 0x66 ∷ []) ≡ Ok 0x3FF
unfolding digit_of long_of
hex = refl

zero_first : number_of 16 255 (0x30 ∷ 0x33 ∷ []) ≡ Ok 3
unfolding digit_of long_of
zero_first = refl

largest : number_of 10 4096 (0x34 ∷ 0x30 ∷ 0x39 ∷ 0x36 ∷ []) ≡ Ok 4096
unfolding digit_of long_of
largest = refl

too_large : number_of 10 4096 (0x34 ∷ 0x30 ∷ 0x39 ∷ 0x37 ∷ []) ≡ Err Fault.TooLarge
unfolding digit_of long_of
too_large = refl

long : long_of 10 4294967295 0 (0x39 ∷ 0x39 ∷ 0x39 ∷ 0x39 ∷ 0x39 ∷ []) ≡ Ok 99999
unfolding digit_of long_of
long = refl
