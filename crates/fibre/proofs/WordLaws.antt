-- Reading and writing a word, word by word.
--   read-*, write-*     what read_of and write_of give, for an end that answer 1 does not meet
-- Assumes nothing.
use Prim.Native.Nat.{ℕ, ◌+◌, ◌<◌}
use mathlib.Core.Bool.{true, false}
use mathlib.Core.Path.{◌≡◌, refl, ◌∙◌}
use lib.Dec.{eqb}
use lib.ListN.{get_or}
use Rattle.laws.proofs.Lists.{below_eight}
use Rattle.laws.proofs.Bools.{cond_true, cond_false}
use Rattle.answer.specs.declared.Answer.TheVariants.{Done, NoRegister, ReadOnly}
use Rattle.fibre.specs.declared.End.{End}
use Rattle.fibre.specs.Good.{bad}
use Rattle.fibre.specs.Words.{outside, receives, value_of, emptied, read_of, with_word, unless_requested, write_of}

-- Reading

pub read_done : (e : End) (w : ℕ) → bad e ≡ false → outside w ≡ false
    → read_of e w ≡ record { answer = Done; value = value_of e w; end = emptied (eqb w 17) e }
unfolding read_of
read_done e w b o = cond_false _ _ b ∙ cond_false _ _ o

pub read_outside : (e : End) (w : ℕ) → bad e ≡ false → outside w ≡ true
    → read_of e w ≡ record { answer = NoRegister; value = 0; end = e }
unfolding read_of
read_outside e w b o = cond_false _ _ b ∙ cond_true _ _ o

pub read_message : (e : End) (i : ℕ) → bad e ≡ false → i < 8
    → read_of e (1 + i) ≡ record { answer = Done; value = get_or e.transmit.words i 0; end = e }
read_message e i b =
    below_eight
    (λ (i : ℕ). read_of e (1 + i) ≡ record { answer = Done; value = get_or e.transmit.words i 0; end = e })
    (read_done e 1 b refl)
    (read_done e 2 b refl)
    (read_done e 3 b refl)
    (read_done e 4 b refl)
    (read_done e 5 b refl)
    (read_done e 6 b refl)
    (read_done e 7 b refl)
    (read_done e 8 b refl)
    i

pub read_received : (e : End) (i : ℕ) → bad e ≡ false → i < 8
    → read_of e (10 + i)
    ≡ record { answer = Done; value = get_or e.receive.words i 0; end = emptied (eqb i 7) e }
read_received e i b =
    below_eight
    (λ (i : ℕ).
    read_of e (10 + i) ≡ record { answer = Done; value = get_or e.receive.words i 0; end = emptied (eqb i 7) e })
    (read_done e 10 b refl)
    (read_done e 11 b refl)
    (read_done e 12 b refl)
    (read_done e 13 b refl)
    (read_done e 14 b refl)
    (read_done e 15 b refl)
    (read_done e 16 b refl)
    (read_done e 17 b refl)
    i

-- Writing

pub write_outside : (e : End) (w v : ℕ) → bad e ≡ false → outside w ≡ true
    → write_of e w v ≡ record { answer = NoRegister; end = e }
unfolding write_of
write_outside e w v b o = cond_false _ _ b ∙ cond_true _ _ o

pub write_only : (e : End) (w v : ℕ) → bad e ≡ false → outside w ≡ false → receives w ≡ true
    → write_of e w v ≡ record { answer = ReadOnly; end = e }
unfolding write_of
write_only e w v b o r = cond_false _ _ b ∙ (cond_false _ _ o ∙ cond_true _ _ r)

pub write_received : (e : End) (i v : ℕ) → bad e ≡ false → i < 8
    → write_of e (10 + i) v ≡ record { answer = ReadOnly; end = e }
write_received e i v b =
    below_eight
    (λ (i : ℕ). write_of e (10 + i) v ≡ record { answer = ReadOnly; end = e })
    (write_only e 10 v b refl refl)
    (write_only e 11 v b refl refl)
    (write_only e 12 v b refl refl)
    (write_only e 13 v b refl refl)
    (write_only e 14 v b refl refl)
    (write_only e 15 v b refl refl)
    (write_only e 16 v b refl refl)
    (write_only e 17 v b refl refl)
    i

pub write_message : (e : End) (i v : ℕ) → bad e ≡ false → i < 8
    → write_of e (1 + i) v ≡ unless_requested e (with_word e i v)
unfolding write_of
write_message e i v b =
    below_eight
    (λ (i : ℕ). write_of e (1 + i) v ≡ unless_requested e (with_word e i v))
    (cond_false _ _ b)
    (cond_false _ _ b)
    (cond_false _ _ b)
    (cond_false _ _ b)
    (cond_false _ _ b)
    (cond_false _ _ b)
    (cond_false _ _ b)
    (cond_false _ _ b)
    i
