-- What the statements of Carried.antt come to: they leave no choice, and ask for no more than they say.
--   stands_one     the part block and the turn after any messages are one thing
--   asked-*        any number of messages, with any numbers; any 128 bytes; any number of blocks
-- Assumes nothing.
use Prim.Native.Nat.{ℕ, zero, suc, ◌+◌, ◌-◌, ◌*◌, ◌≤◌}
use mathlib.Core.Bool.{Bool, true, false}
use mathlib.Core.List.{List, [], ◌∷◌, ◌++◌}
use mathlib.Core.Path.{◌≡◌, refl, sym, ap, ap₂, ◌∙◌}
use native.Mathlib.Omega.{arith}
use lib.Dec.{eqb}
use lib.ListN.{length, get_or, drop, replicate, length-append}
use lib.Seq.{drop_at}
use borrow.Author.Tests.{eqb-true, eqb-false}
use Rattle.laws.proofs.AboveLaws.{above_from}
use Rattle.end.specs.Message.{Message}
use Rattle.report.specs.declared.TakingHost.{TakingHost}
use Rattle.report.specs.Taking.{fresh_taking}
use Rattle.reportblocks.specs.Blocks.{IsBlock, messages_of_all, Eight, given_by, host_after, in_turn_from, joined, stretches}
use Rattle.reportblocks.specs.Blocks.{one, one_is, two, two_is}
use Rattle.reportblocks.specs.Carried.{Stands, StandsOne, Exactly, PartStated, AllBlocks}
use Rattle.reportblocks.proofs.Carried.{all_eight}

-- One host

-- the last messages of one list, as many of them
same_last : (a b c d : List Message) → a ++ b ≡ c ++ d → length b ≡ length d → b ≡ d
same_last a b c d e l =
    sym (drop_at a b (length a) refl)
    ∙ (ap (drop (length a)) e ∙ drop_at c d (length a) (older _ _ _ _ sums l))
  where
    sums : length a + length b ≡ length c + length d
    sums = sym (length-append a b) ∙ (ap length e ∙ length-append c d)

    older : (x y z u : ℕ) → x + y ≡ z + u → y ≡ u → z ≡ x
    older x y z u p q = omega arith

module _ (h g : TakingHost) (ms : List Message) (s : Stands h ms) (t : Stands g ms) where
  -- where the one has some, the other has as many
  as_many : 1 ≤ h.turn → g.turn ≡ h.turn
  as_many l =
      t.no_more s.older s.last s.whole (some _ _ s.count l) (few _ _ s.count s.few) numbers
      ∙ s.count
    where
      some : (x y : ℕ) → x ≡ y → 1 ≤ y → 1 ≤ x
      some x y e k = omega arith

      few : (x y : ℕ) → x ≡ y → y ≤ 15 → x ≤ 15
      few x y e k = omega arith

      numbers : in_turn_from 0 (length s.last) s.last ≡ true
      numbers = ap (λ (n : ℕ). in_turn_from 0 n s.last) s.count ∙ s.numbers

pub stands_one : StandsOne
stands_one h g ms s t = λ i. record { block = blocks i; turn = turns i }
  where
    turns : h.turn ≡ g.turn
    turns = go (eqb h.turn 0) (eqb g.turn 0) refl refl
      where
        go : (a b : Bool) → eqb h.turn 0 ≡ a → eqb g.turn 0 ≡ b → h.turn ≡ g.turn
        go true true p q = let x = eqb-true h.turn 0 p in let y = eqb-true g.turn 0 q in omega arith
        go false b p q =
            let x = eqb-false h.turn 0 p in sym (as_many h g ms s t (omega arith))
        go true false p q =
            let y = eqb-false g.turn 0 q in as_many g h ms t s (omega arith)

    last : s.last ≡ t.last
    last =
        same_last s.older s.last t.older t.last (sym s.whole ∙ t.whole)
        (s.count ∙ (turns ∙ sym t.count))

    blocks : h.block ≡ g.block
    blocks =
        s.part
        ∙ (ap₂ (λ (l : List Message) (n : ℕ). joined l ++ replicate (128 - 8 * n) 0) last turns ∙ sym t.part)

-- No more is asked

abbrev three : List (List ℕ)
three = one ∷ two ∷ one ∷ []

asked_long : Exactly → given_by fresh_taking (messages_of_all three) ≡ stretches (messages_of_all three)
asked_long e = e (messages_of_all three) (all_eight three (one_is, (two_is, (one_is, tt))))

asked_stated : PartStated → Stands (host_after fresh_taking (messages_of_all three)) (messages_of_all three)
asked_stated p = p (messages_of_all three) (all_eight three (one_is, (two_is, (one_is, tt))))

asked_any : Eight (record { number = 200; bytes = replicate 8 255 } ∷ [])
asked_any = (refl, tt)

asked_bytes : (b : List ℕ) → length b ≡ 128 → ((i : ℕ) → get_or b i 0 ≤ 255) → IsBlock b
asked_bytes b s h = record { size = s; bytes = above_from 255 b h }

asked_blocks : (n : ℕ) → AllBlocks (replicate n two)
asked_blocks zero = tt
asked_blocks (suc n) = (two_is, asked_blocks n)
