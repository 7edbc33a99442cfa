-- Blocks under demand 3's promise.
--   block_stretch   the messages of a block are one stretch, which has its bytes
--   cut             where the messages of blocks are cut off, the blocks that are whole before the cut are the stretches
--   carried         the blocks handed over are the first so many offered, at most two fewer
--   carried_tight   and not at most one fewer
-- Assumes nothing.
use Prim.Native.Nat.{ℕ, zero, suc, ◌+◌, ◌-◌, ◌*◌, ◌≤◌}
use mathlib.Core.Bool.{Bool, true, false}
use mathlib.Core.List.{List, [], ◌∷◌, ◌++◌, append_assoc, map}
use mathlib.Core.Path.{◌≡◌, refl, sym, ap, ◌∙◌}
use native.Mathlib.Omega.{arith}
use lib.Dec.{ltb}
use lib.ListN.{length, take, drop, replicate, length-append, length-drop, take-append-drop}
use lib.Seq.{take_all, take-append-le, drop-append-le, take_at, drop_at, take-add, drop-drop, length-take-le}
use borrow.Author.Tests.{ltb-true, ltb-false}
use Rattle.laws.specs.Above.{above}
use Rattle.joined.specs.Joined.{InTurn}
use Rattle.end.specs.Message.{Message}
use Rattle.report.specs.Taking.{take_of}
use Rattle.reportblocks.specs.Blocks.{counting, message_of, messages_of, messages_of_all, Eight, given_by}
use Rattle.reportblocks.specs.Blocks.{in_turn_from, joined, stretches}
use Rattle.reportblocks.specs.Carried.{AllBlocks, Carried, CarriedTight, most_missing}
use Rattle.reportblocks.proofs.Stretches.{turn_none, turn_more, short, stretch_first}
use Rattle.reportblocks.proofs.Taken.{exactly}

-- The messages of one block

parts_turn : (n k : ℕ) (b : List ℕ) → in_turn_from k n (map (message_of b) (counting k n)) ≡ true
parts_turn zero k b = turn_none k []
parts_turn (suc n) k b = turn_more n k (message_of b k) _ refl (parts_turn n (suc k) b)

parts_joined : (n k : ℕ) (b : List ℕ) → joined (map (message_of b) (counting k n)) ≡ take (8 * n) (drop (8 * k) b)
unfolding joined
parts_joined zero k b = refl
parts_joined (suc n) k b =
    ap (λ (x : List ℕ). take 8 (drop (8 * k) b) ++ x)
    (parts_joined n (suc k) b ∙ ap (λ (i : ℕ). take (8 * n) (drop i b)) further ∙ ap (take (8 * n)) (sym (drop-drop 8 (8 * k) b)))
    ∙ (sym (take-add 8 (8 * n) (drop (8 * k) b)) ∙ ap (λ (i : ℕ). take i (drop (8 * k) b)) more)
  where
    further : 8 * suc k ≡ 8 * k + 8
    further = omega arith

    more : 8 + 8 * n ≡ 8 * suc n
    more = omega arith

parts_eight : (n k : ℕ) (b : List ℕ) → 8 * (k + n) ≤ length b → Eight (map (message_of b) (counting k n))
parts_eight zero k b h = tt
parts_eight (suc n) k b h = (length-take-le 8 (drop (8 * k) b) fits, parts_eight n (suc k) b (omega arith))
  where
    fits : 8 ≤ length (drop (8 * k) b)
    fits = simp length-drop (omega arith)

pub block_stretch : (b : List ℕ) (r : List Message) → length b ≡ 128
    → stretches (messages_of b ++ r) ≡ b ∷ stretches r
block_stretch b r e =
    stretch_first (messages_of b) r refl (parts_turn 16 0 b)
    ∙ ap (λ (x : List ℕ). x ∷ stretches r) (parts_joined 16 0 b ∙ take_all 128 b (omega arith))

-- Those of several

all_length : (bs : List (List ℕ)) → length (messages_of_all bs) ≡ 16 * length bs
unfolding messages_of_all
all_length [] = refl
all_length (b ∷ bs) =
    let i = all_length bs in length-append (messages_of b) (messages_of_all bs) ∙ more _ _ i
  where
    more : (x y : ℕ) → x ≡ 16 * y → 16 + x ≡ 16 * suc y
    more x y h = omega arith

pub eight_append : (a b : List Message) → Eight a → Eight b → Eight (a ++ b)
eight_append [] b h k = k
eight_append (m ∷ a) b h k = (h.0, eight_append a b h.1 k)

eight_front : (a b : List Message) → Eight (a ++ b) → Eight a
eight_front [] b h = tt
eight_front (m ∷ a) b h = (h.0, eight_front a b h.1)

pub all_eight : (bs : List (List ℕ)) → AllBlocks bs → Eight (messages_of_all bs)
unfolding messages_of_all
all_eight [] h = tt
all_eight (b ∷ bs) h =
    let e = h.0.size in
    eight_append (messages_of b) (messages_of_all bs) (parts_eight 16 0 b (omega arith)) (all_eight bs h.1)

-- A cut behind the messages `taken`

pub record Cut (bs : List (List ℕ)) (taken rest : List Message) : Type 0 where
  pub missing : List (List ℕ)
  pub whole : bs ≡ stretches taken ++ missing
  pub few : 16 * length missing ≤ length rest + 15

module _ (a b c : List Message) where
  -- a list that two cuts make, the first one in front of the second
  front : (d : List Message) → length c ≤ length a → a ++ b ≡ c ++ d → a ≡ c ++ drop (length c) a
  front d l e =
      sym (take-append-drop (length c) a)
      ∙ ap (λ (x : List Message). x ++ drop (length c) a)
      (sym (take-append-le (length c) a b l) ∙ (ap (take (length c)) e ∙ take_at c d (length c) refl))

  back : (d : List Message) → length c ≤ length a → a ++ b ≡ c ++ d → drop (length c) a ++ b ≡ d
  back d l e =
      sym (drop-append-le (length c) a b l) ∙ (ap (drop (length c)) e ∙ drop_at c d (length c) refl)

pub cut : (bs : List (List ℕ)) (taken rest : List Message) → AllBlocks bs → taken ++ rest ≡ messages_of_all bs
    → Cut bs taken rest
unfolding messages_of_all
cut [] [] rest h e = record { missing = []; whole = nothing; few = omega arith }
  where
    nothing : [] ≡ stretches [] ++ []
    nothing = sym (ap (λ (x : List (List ℕ)). x ++ []) (short [] (omega arith)))
cut [] (m ∷ taken) rest h e = absurd (longer (ap length e))
  where
    longer : suc (length (taken ++ rest)) ≡ 0 → ⊥
    longer q = omega arith
cut (b ∷ bs) taken rest h e =
    go (λ l. cut bs (drop 16 taken) rest h.1 (back taken rest (messages_of b) (messages_of_all bs) l e))
    (ltb (length taken) 16) refl
  where
    sums : length taken + length rest ≡ 16 * suc (length bs)
    sums = sym (length-append taken rest) ∙ (ap length e ∙ all_length (b ∷ bs))

    go : (16 ≤ length taken → Cut bs (drop 16 taken) rest) → (t : Bool) → ltb (length taken) 16 ≡ t
        → Cut (b ∷ bs) taken rest
    go f true t =
        let l = ltb-true (length taken) 16 t in
        record {
          missing = b ∷ bs;
          whole = sym (ap (λ (x : List (List ℕ)). x ++ (b ∷ bs)) (short taken l));
          few = omega (arith, sums);
        }
    go f false t =
        let l = ltb-false (length taken) 16 t in
        let r = f l in
        record {
          missing = r.missing;
          whole =
              ap (λ (x : List (List ℕ)). b ∷ x) r.whole
              ∙ ap (λ (x : List (List ℕ)). x ++ r.missing)
              (sym
              (ap stretches (front taken rest (messages_of b) (messages_of_all bs) l e)
              ∙ block_stretch b (drop 16 taken) h.0.size));
          few = r.few;
        }

pub carried : Carried
carried offered accepted taken bs s t =
    let e : taken ++ (t.rest ++ s.rest) ≡ messages_of_all offered =
    sym (append_assoc taken t.rest s.rest)
    ∙ (ap (λ (x : List Message). x ++ s.rest) (sym t.whole) ∙ sym s.whole) in
    let c = cut offered taken (t.rest ++ s.rest) bs e in
    let eight = eight_front taken (t.rest ++ s.rest) (rw e (all_eight offered bs)) in
    record {
      rest = c.missing;
      whole = c.whole ∙ ap (λ (x : List (List ℕ)). x ++ c.missing) (sym (exactly taken eight));
      few = most _ _ _ _ c.few (length-append t.rest s.rest) t.few s.begun;
    }
  where
    most : (q n x y : ℕ) → 16 * q ≤ n + 15 → n ≡ x + y → x ≤ 3 → y ≤ 15 → q ≤ most_missing
    most q n x y a b c d = omega arith

-- Two blocks offered, the first one whole and number 0 of the second accepted, fourteen messages taken: none is whole

zeroes : List ℕ
zeroes = replicate 128 0

pub carried_tight : CarriedTight
unfolding zeroes messages_of_all stretches in_turn_from joined given_by take_of above
carried_tight c =
    too_few (c (zeroes ∷ zeroes ∷ []) (take 17 (messages_of_all (zeroes ∷ zeroes ∷ [])))
    (take 14 (messages_of_all (zeroes ∷ zeroes ∷ [])))
    (record { size = refl; bytes = refl }, (record { size = refl; bytes = refl }, tt))
    (record { rest = drop 17 (messages_of_all (zeroes ∷ zeroes ∷ [])); whole = refl; begun = omega arith })
    (record { rest = drop 14 (take 17 (messages_of_all (zeroes ∷ zeroes ∷ []))); whole = refl; few = omega arith }))
  where
    too_few : InTurn (most_missing - 1) (zeroes ∷ zeroes ∷ []) [] → ⊥
    too_few t = two _ (ap length t.whole) t.few
      where
        two : (n : ℕ) → 2 ≡ n → n ≤ most_missing - 1 → ⊥
        two n a b = omega arith
