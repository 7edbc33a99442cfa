-- What a call gives, by cases: what holds of each refusal, and of what is done, holds of the result.
--   send_case, take_case, read_case, write_case
--   Kept P e c    P holds of what the call c makes of e where it is done
--   after_keeps   what a call keeps where it is done, it keeps
-- Assumes nothing.
use Prim.Native.Nat.{ℕ, ◌-◌, ◌≤◌, ◌<◌}
use mathlib.Core.Bool.{Bool, true, false, ◌||◌}
use mathlib.Core.Path.{◌≡◌}
use native.Mathlib.Omega.{arith}
use lib.Dec.{eqb, ltb}
use borrow.Author.Tests.{ltb-false, leb-false, eqb-true, eqb-false}
use Rattle.laws.proofs.Bools.{either, or_no}
use Rattle.answer.specs.Number.{number_of}
use Rattle.answer.specs.declared.Answer.{Answer}
use Rattle.answer.specs.declared.Answer.TheVariants.{Done, BadEnd, NoRegister, ReadOnly, Blocked}
use Rattle.fibre.specs.declared.Block.{Block}
use Rattle.fibre.specs.declared.End.{End}
use Rattle.fibre.specs.declared.Next.{Next}
use Rattle.fibre.specs.declared.Read.{Read}
use Rattle.fibre.specs.declared.Sent.{Sent}
use Rattle.fibre.specs.Good.{largest, bad, no_block}
use Rattle.fibre.specs.Sending.{loads, loaded, send_of}
use Rattle.fibre.specs.Taking.{heard, enters, stored, take_of}
use Rattle.fibre.specs.Words.{outside, receives, value_of, emptied, read_of, with_control, with_word, unless_requested}
use Rattle.fibre.specs.Words.{write_of}
use Rattle.fibre.specs.Calls.{Call, after}

-- a refusal, of at most n
abbrev Refusal : ℕ → Answer → Type 0
Refusal n a = (1 ≤ number_of a) × (number_of a ≤ n)

pub send_case : (e : End) (P : Sent → Type 0)
    → P (record { answer = BadEnd; block = no_block; end = e })
    → (bad e ≡ false → P (record { answer = Done; block = (loaded (loads e) e).sent; end = loaded (loads e) e }))
    → P (send_of e)
unfolding send_of
send_case e P r d = either P (bad e) _ _ (λ _. r) d

pub take_case : (e : End) (m : Bool) (b : Block) (P : Next → Type 0)
    → P (record { answer = BadEnd; end = e })
    → (m ≡ true → P (record { answer = Done; end = e }))
    → (bad e ≡ false → b.control ≤ largest → m ≡ false
    → P (record { answer = Done; end = stored (enters b e) b (heard b e) }))
    → P (take_of e m b)
unfolding take_of
take_case e m b P r k d =
    either P (bad e || ltb largest b.control) _ _ (λ _. r)
    (λ t. either P m _ _ k (d (or_no _ _ t).0 (ltb-false _ _ (or_no (bad e) _ t).1)))

pub read_case : (e : End) (w : ℕ) (P : Read → Type 0)
    → ((a : Answer) → Refusal 2 a → P (record { answer = a; value = 0; end = e }))
    → (bad e ≡ false → w ≤ 17 → P (record { answer = Done; value = value_of e w; end = emptied (eqb w 17) e }))
    → P (read_of e w)
unfolding read_of
read_case e w P r d =
    either P (bad e) _ _ (λ _. r BadEnd (omega arith, omega arith))
    (λ b. either P (outside w) _ _ (λ _. r NoRegister (omega arith, omega arith)) (λ o. d b (ltb-false 17 w o)))

module _ (e : End) (w v : ℕ) (P : Next → Type 0) where
  unless_case : (f : End)
      → P (record { answer = Blocked; end = e })
      → (e.transmit.txreq ≡ false → P (record { answer = Done; end = f }))
      → P (unless_requested e f)
  unless_case f r d = either P e.transmit.txreq _ _ (λ _. r) d

  pub write_case :
      ((a : Answer) → Refusal 4 a → P (record { answer = a; end = e }))
      → (bad e ≡ false → w ≡ 0 → P (record { answer = Done; end = with_control e v }))
      → (bad e ≡ false → 1 ≤ w → w ≤ 8 → P (record { answer = Done; end = with_word e (w - 1) v }))
      → P (write_of e w v)
  unfolding write_of
  write_case r c d =
      either P (bad e) _ _ (λ _. r BadEnd (omega arith, omega arith))
      (λ b. either P (outside w) _ _ (λ _. r NoRegister (omega arith, omega arith))
      (λ _. either P (receives w) _ _ (λ _. r ReadOnly (omega arith, omega arith))
      (λ n. either P (eqb w 0) _ _
      (λ z. unless_case _ blocked (λ _. c b (eqb-true w 0 z)))
      (λ z. unless_case _ blocked (λ _. d b (some (eqb-false w 0 z)) (few (leb-false 9 w n)))))))
    where
      blocked : P (record { answer = Blocked; end = e })
      blocked = r Blocked (omega arith, omega arith)

      some : ¬ (w ≡ 0) → 1 ≤ w
      some h = omega arith

      few : w < 9 → w ≤ 8
      few h = omega arith

abbrev pub Kept : (End → Type 0) → End → Call → Type 0
Kept P e Call.send = P (loaded (loads e) e)
Kept P e (Call.take m b) = b.control ≤ largest → P (stored (enters b e) b (heard b e))
Kept P e (Call.read w) = P (emptied (eqb w 17) e)
Kept P e (Call.write w v h) = P (with_control e v) × ((i : ℕ) → P (with_word e i v))

pub after_keeps : (P : End → Type 0) (e : End) → P e → (c : Call) → (bad e ≡ false → Kept P e c) → P (after c e)
after_keeps P e p Call.send k = send_case e (λ r. P r.end) p k
after_keeps P e p (Call.take m b) k = take_case e m b (λ r. P r.end) p (λ _. p) (λ g l _. k g l)
after_keeps P e p (Call.read w) k = read_case e w (λ r. P r.end) (λ _ _. p) (λ g _. k g)
after_keeps P e p (Call.write w v h) k =
    write_case e w v (λ r. P r.end) (λ _ _. p) (λ g _. (k g).0) (λ g _ _. (k g).1 (w - 1))
