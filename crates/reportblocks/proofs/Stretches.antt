-- Laws of stretches of sixteen messages in turn.
--   turn_cons, turn_more   the first message, and those behind it
--   turn_none        none are in turn
--   turn_length      messages in turn are there
--   turn_append      they are in turn whatever follows them; turn_snoc: and so is one more
--   turn_broken      a number out of turn ends them
--   short            fewer than sixteen messages have no stretch
--   skip, skips      messages whose number is not 0 begin none
--   stretch_first    sixteen in turn are one, and the next begins behind them
--   stretch_broken   a number out of turn leaves nothing of those before it
--   joined_append    the bytes of messages behind messages
-- Assumes nothing.
use Prim.Native.Nat.{ℕ, zero, suc, ◌+◌, ◌≤◌, ◌<◌}
use mathlib.Core.Bool.{true, false≢true}
use mathlib.Core.List.{List, [], ◌∷◌, ◌++◌, append_assoc}
use mathlib.Core.Path.{◌≡◌, refl, sym, ap, ◌∙◌}
use native.Mathlib.Omega.{arith}
use lib.Dec.{eqb}
use lib.ListN.{length}
use lib.Seq.{take_at}
use borrow.Author.Tests.{eq-eqb, eqb-true}
use Rattle.laws.proofs.Bools.{cond_true, cond_false, and_both, and-true, no_if}
use Rattle.end.specs.Message.{Message}
use Rattle.reportblocks.specs.Blocks.{in_turn_from, joined, stretches}

-- In turn

pub turn_cons : (n k : ℕ) (m : Message) (l : List Message) → in_turn_from k (suc n) (m ∷ l) ≡ true
    → (m.number ≡ k) × (in_turn_from (suc k) n l ≡ true)
unfolding in_turn_from
turn_cons n k m l h =
    let b = and_both (eqb m.number k) (in_turn_from (suc k) n l) h in (eqb-true m.number k b.0, b.1)

pub turn_more : (n k : ℕ) (m : Message) (l : List Message) → m.number ≡ k → in_turn_from (suc k) n l ≡ true
    → in_turn_from k (suc n) (m ∷ l) ≡ true
unfolding in_turn_from
turn_more n k m l q h = and-true (eqb m.number k) (in_turn_from (suc k) n l) (eq-eqb m.number k q) h

none_there : (n k : ℕ) → in_turn_from k (suc n) [] ≡ true → ⊥
unfolding in_turn_from
none_there n k h = false≢true h

pub turn_none : (k : ℕ) (l : List Message) → in_turn_from k 0 l ≡ true
unfolding in_turn_from
turn_none k l = refl

pub turn_length : (n k : ℕ) (l : List Message) → in_turn_from k n l ≡ true → n ≤ length l
turn_length zero k l h = omega arith
turn_length (suc n) k [] h = absurd (none_there n k h)
turn_length (suc n) k (m ∷ l) h = let i = turn_length n (suc k) l (turn_cons n k m l h).1 in omega arith

pub turn_append : (n k : ℕ) (l r : List Message) → in_turn_from k n l ≡ true → in_turn_from k n (l ++ r) ≡ true
turn_append zero k l r h = turn_none k (l ++ r)
turn_append (suc n) k [] r h = absurd (none_there n k h)
turn_append (suc n) k (m ∷ l) r h =
    let b = turn_cons n k m l h in turn_more n k m (l ++ r) b.0 (turn_append n (suc k) l r b.1)

pub turn_snoc : (n k : ℕ) (l : List Message) (m : Message) → length l ≡ n → in_turn_from k n l ≡ true
    → m.number ≡ k + n → in_turn_from k (suc n) (l ++ (m ∷ [])) ≡ true
turn_snoc zero k [] m e h q = turn_more 0 k m [] (omega arith) (turn_none (suc k) [])
turn_snoc zero k (x ∷ l) m e h q = absurd (omega arith)
turn_snoc (suc n) k [] m e h q = absurd (omega arith)
turn_snoc (suc n) k (x ∷ l) m e h q =
    let b = turn_cons n k x l h in
    turn_more (suc n) k x (l ++ (m ∷ [])) b.0 (turn_snoc n (suc k) l m (omega arith) b.1 (omega arith))

pub turn_broken : (t n k : ℕ) (l : List Message) (m : Message) (r : List Message) → length l ≡ t → t < n
    → ¬ (m.number ≡ k + t) → in_turn_from k n (l ++ (m ∷ r)) ≡ true → ⊥
turn_broken zero zero k [] m r e s q h = absurd (omega arith)
turn_broken zero (suc n) k [] m r e s q h = let i = (turn_cons n k m r h).0 in q (omega arith)
turn_broken zero n k (x ∷ l) m r e s q h = absurd (omega arith)
turn_broken (suc t) n k [] m r e s q h = absurd (omega arith)
turn_broken (suc t) zero k (x ∷ l) m r e s q h = absurd (omega arith)
turn_broken (suc t) (suc n) k (x ∷ l) m r e s q h =
    turn_broken t n (suc k) l m r (omega arith) (omega arith) (λ i. q (omega arith))
    (turn_cons n k x (l ++ (m ∷ r)) h).1

-- Stretches

pub short : (l : List Message) → length l < 16 → stretches l ≡ []
unfolding stretches
short [] h = refl
short (m ∷ l) h =
    cond_false _ _ (no_if _ (λ t. let i = turn_length 16 0 (m ∷ l) t in absurd (omega arith)))
    ∙ short l (omega arith)

pub skip : (m : Message) (l : List Message) → ¬ (m.number ≡ 0) → stretches (m ∷ l) ≡ stretches l
unfolding stretches
skip m l n = cond_false _ _ (no_if _ (λ t. n (turn_cons 15 0 m l t).0))

pub skips : (n k : ℕ) (l r : List Message) → length l ≡ n → in_turn_from (suc k) n l ≡ true
    → stretches (l ++ r) ≡ stretches r
skips zero k [] r e h = refl
skips zero k (m ∷ l) r e h = absurd (omega arith)
skips (suc n) k [] r e h = absurd (omega arith)
skips (suc n) k (m ∷ l) r e h =
    let b = turn_cons n (suc k) m l h in
    let i = b.0 in
    skip m (l ++ r) (λ z. omega arith) ∙ skips n (suc k) l r (omega arith) b.1

pub stretch_first : (l r : List Message) → length l ≡ 16 → in_turn_from 0 16 l ≡ true
    → stretches (l ++ r) ≡ joined l ∷ stretches r
unfolding stretches
stretch_first [] r e h = absurd (omega arith)
stretch_first (m ∷ l) r e h =
    cond_true _ _ (turn_append 16 0 (m ∷ l) r h)
    ∙ (ap (λ (x : List Message). joined x ∷ stretches (l ++ r)) (take_at (m ∷ l) r 16 e)
    ∙ ap (λ (x : List (List ℕ)). joined (m ∷ l) ∷ x) (skips 15 0 l r (omega arith) (turn_cons 15 0 m l h).1))

pub stretch_broken : (t : ℕ) (l : List Message) (m : Message) (r : List Message) → length l ≡ t → t ≤ 15
    → in_turn_from 0 t l ≡ true → ¬ (m.number ≡ t) → stretches (l ++ (m ∷ r)) ≡ stretches (m ∷ r)
unfolding stretches
stretch_broken t [] m r e s h n = refl
stretch_broken zero (x ∷ l) m r e s h n = absurd (omega arith)
stretch_broken (suc t) (x ∷ l) m r e s h n =
    cond_false _ _
    (no_if _ (turn_broken (suc t) 16 0 (x ∷ l) m r e (omega arith) (λ i. n (omega arith))))
    ∙ skips t 0 l (m ∷ r) (omega arith) (turn_cons t 0 x l h).1

-- Bytes

pub joined_append : (l r : List Message) → joined (l ++ r) ≡ joined l ++ joined r
unfolding joined
joined_append [] r = refl
joined_append (m ∷ l) r =
    ap (λ (x : List ℕ). m.bytes ++ x) (joined_append l r) ∙ sym (append_assoc m.bytes (joined l) (joined r))
