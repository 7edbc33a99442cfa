-- The answers, for every call on an end, whatever the end is: each number is given exactly when its row holds and no
-- earlier row does (write 1, 2, 3, 4; read 1, 2), and 0 when none does.
--   bad_met         what answer 1 looks at, spelled out
--   CALL-N          the call gives the number N exactly when ..
--   CALL-numbers    and no higher number
--   CALL-refused    any number but 0: the end as it came, value 0, and the block of which all is 0
-- Assumes nothing.
use Prim.Native.Nat.{ℕ, ◌<◌, ◌≤◌}
use mathlib.Core.Bool.{Bool, true, false, cond}
use mathlib.Core.Logic.{◌↔◌, ◌⊎◌}
use mathlib.Core.Path.{◌≡◌, refl}
use native.Mathlib.Omega.{arith}
use lib.Dec.{eqb}
use lib.ListN.{replicate}
use Rattle.laws.proofs.Bools.{either}
use Rattle.laws.proofs.Decide.{decides_iff, hit, skip, pass, never}
use Rattle.answer.specs.Number.{number_of}
use Rattle.fibre.specs.declared.Block.{Block}
use Rattle.fibre.specs.declared.End.{End}
use Rattle.fibre.specs.declared.Next.{Next}
use Rattle.fibre.specs.declared.Read.{Read}
use Rattle.fibre.specs.declared.Sent.{Sent}
use Rattle.fibre.specs.Good.{bad}
use Rattle.fibre.specs.Sending.{send_of}
use Rattle.fibre.specs.Taking.{take_of}
use Rattle.fibre.specs.Words.{outside, receives, read_of, unless_requested, write_of}
use Rattle.fibrelaws.specs.Rows.{Met, Outside, Received, Requested}
use Rattle.fibrelaws.proofs.Done.{send_case, take_case, read_case, write_case}
use Rattle.fibrelaws.proofs.Tested.{met, met_by, outside_row, received_row, requested_row}

pub bad_met : (e : End) → (bad e ≡ true) ↔ Met e
bad_met e = decides_iff (met e)

-- the number of a result
abbrev sent : Sent → ℕ
sent r = number_of r.answer

abbrev got : Read → ℕ
got r = number_of r.answer

abbrev next : Next → ℕ
next r = number_of r.answer

-- send

pub send_1 : (e : End) → (number_of (send_of e).answer ≡ 1) ↔ Met e
unfolding send_of
send_1 e = hit sent (bad e) (met e) refl (λ h. omega arith)

pub send_0 : (e : End) → (number_of (send_of e).answer ≡ 0) ↔ ¬ Met e
unfolding send_of
send_0 e = pass sent (bad e) (met e) (λ h. omega arith) refl

pub send_numbers : (e : End) → number_of (send_of e).answer ≤ 1
send_numbers e = send_case e (λ (r : Sent). sent r ≤ 1) (omega arith) (λ _. omega arith)

-- take, of a block marked bad (m) or not

pub take_1 : (e : End) (m : Bool) (b : Block)
    → (number_of (take_of e m b).answer ≡ 1) ↔ (Met e ⊎ (4095 < b.control))
unfolding take_of
take_1 e m b = hit next _ (met_by e b) refl (never next m (λ h. omega arith) (λ h. omega arith))

pub take_0 : (e : End) (m : Bool) (b : Block)
    → (number_of (take_of e m b).answer ≡ 0) ↔ ¬ (Met e ⊎ (4095 < b.control))
unfolding take_of
take_0 e m b =
    pass next _ (met_by e b) (λ h. omega arith) (either (λ (r : Next). next r ≡ 0) m _ _ (λ _. refl) (λ _. refl))

pub take_numbers : (e : End) (m : Bool) (b : Block) → number_of (take_of e m b).answer ≤ 1
take_numbers e m b =
    take_case e m b (λ (r : Next). next r ≤ 1) (omega arith) (λ _. omega arith) (λ _ _ _. omega arith)

-- read

pub read_1 : (e : End) (w : ℕ) → (number_of (read_of e w).answer ≡ 1) ↔ Met e
unfolding read_of
read_1 e w = hit got (bad e) (met e) refl (never got (outside w) (λ h. omega arith) (λ h. omega arith))

pub read_2 : (e : End) (w : ℕ) → (number_of (read_of e w).answer ≡ 2) ↔ (¬ Met e × Outside w)
unfolding read_of
read_2 e w =
    skip got (bad e) (met e) (λ h. omega arith) (λ _. hit got (outside w) (outside_row w) refl (λ h. omega arith))

pub read_0 : (e : End) (w : ℕ) → (number_of (read_of e w).answer ≡ 0) ↔ (¬ Met e × ¬ Outside w)
unfolding read_of
read_0 e w =
    skip got (bad e) (met e) (λ h. omega arith) (λ _. pass got (outside w) (outside_row w) (λ h. omega arith) refl)

pub read_numbers : (e : End) (w : ℕ) → number_of (read_of e w).answer ≤ 2
read_numbers e w = read_case e w (λ (r : Read). got r ≤ 2) (λ _ k. k.1) (λ _ _. omega arith)

-- write: whichever transmit word it is, a request decides

module _ (e : End) (w : ℕ) (a b : End) {n : ℕ} where
  neither : ¬ (4 ≡ n) → ¬ (0 ≡ n) → ¬ (next (cond (eqb w 0) (unless_requested e a) (unless_requested e b)) ≡ n)
  neither h k = never next (eqb w 0) (never next e.transmit.txreq h k) (never next e.transmit.txreq h k)

  both : {P : Type 0} → ((x : End) → (next (unless_requested e x) ≡ n) ↔ P)
      → (next (cond (eqb w 0) (unless_requested e a) (unless_requested e b)) ≡ n) ↔ P
  both {P} h = either (λ (r : Next). (next r ≡ n) ↔ P) (eqb w 0) _ _ (λ _. h a) (λ _. h b)

pub write_1 : (e : End) (w v : ℕ) → (number_of (write_of e w v).answer ≡ 1) ↔ Met e
unfolding write_of
write_1 e w v =
    hit next (bad e) (met e) refl
    (never next (outside w) (λ h. omega arith)
    (never next (receives w) (λ h. omega arith) (neither e w _ _ (λ h. omega arith) (λ h. omega arith))))

pub write_2 : (e : End) (w v : ℕ) → (number_of (write_of e w v).answer ≡ 2) ↔ (¬ Met e × Outside w)
unfolding write_of
write_2 e w v =
    skip next (bad e) (met e) (λ h. omega arith)
    (λ _. hit next (outside w) (outside_row w) refl
    (never next (receives w) (λ h. omega arith) (neither e w _ _ (λ h. omega arith) (λ h. omega arith))))

pub write_3 : (e : End) (w v : ℕ) → (number_of (write_of e w v).answer ≡ 3) ↔ (¬ Met e × (¬ Outside w × Received w))
unfolding write_of
write_3 e w v =
    skip next (bad e) (met e) (λ h. omega arith)
    (λ _. skip next (outside w) (outside_row w) (λ h. omega arith)
    (λ o. hit next (receives w) (received_row w o) refl (neither e w _ _ (λ h. omega arith) (λ h. omega arith))))

pub write_4 : (e : End) (w v : ℕ)
    → (number_of (write_of e w v).answer ≡ 4) ↔ (¬ Met e × (¬ Outside w × (¬ Received w × Requested e w)))
unfolding write_of
write_4 e w v =
    skip next (bad e) (met e) (λ h. omega arith)
    (λ _. skip next (outside w) (outside_row w) (λ h. omega arith)
    (λ o. skip next (receives w) (received_row w o) (λ h. omega arith)
    (λ n. both e w _ _
    (λ x. hit next e.transmit.txreq (requested_row e w o n) refl (λ h. omega arith)))))

pub write_0 : (e : End) (w v : ℕ)
    → (number_of (write_of e w v).answer ≡ 0) ↔ (¬ Met e × (¬ Outside w × (¬ Received w × ¬ Requested e w)))
unfolding write_of
write_0 e w v =
    skip next (bad e) (met e) (λ h. omega arith)
    (λ _. skip next (outside w) (outside_row w) (λ h. omega arith)
    (λ o. skip next (receives w) (received_row w o) (λ h. omega arith)
    (λ n. both e w _ _
    (λ x. pass next e.transmit.txreq (requested_row e w o n) (λ h. omega arith) refl))))

pub write_numbers : (e : End) (w v : ℕ) → number_of (write_of e w v).answer ≤ 4
write_numbers e w v =
    write_case e w v (λ (r : Next). next r ≤ 4) (λ _ k. k.1) (λ _ _. omega arith) (λ _ _ _. omega arith)

-- Refused: the end as it came

abbrev zeros : Block
zeros = record { msgt = false; phyt = false; mert = false; control = 0; words = replicate 8 0 }

pub send_refused : (e : End) → ¬ (number_of (send_of e).answer ≡ 0) → ((send_of e).block ≡ zeros) × ((send_of e).end ≡ e)
send_refused e =
    send_case e (λ (r : Sent). ¬ (sent r ≡ 0) → (r.block ≡ zeros) × (r.end ≡ e))
    (λ _. (refl, refl)) (λ _ k. absurd (k refl))

pub take_refused : (e : End) (m : Bool) (b : Block) → ¬ (number_of (take_of e m b).answer ≡ 0) → (take_of e m b).end ≡ e
take_refused e m b =
    take_case e m b (λ (r : Next). ¬ (next r ≡ 0) → r.end ≡ e)
    (λ _. refl) (λ _ _. refl) (λ _ _ _ k. absurd (k refl))

pub read_refused : (e : End) (w : ℕ) → ¬ (number_of (read_of e w).answer ≡ 0)
    → ((read_of e w).value ≡ 0) × ((read_of e w).end ≡ e)
read_refused e w =
    read_case e w (λ (r : Read). ¬ (got r ≡ 0) → (r.value ≡ 0) × (r.end ≡ e))
    (λ _ _ _. (refl, refl)) (λ _ _ k. absurd (k refl))

pub write_refused : (e : End) (w v : ℕ) → ¬ (number_of (write_of e w v).answer ≡ 0) → (write_of e w v).end ≡ e
write_refused e w v =
    write_case e w v (λ (r : Next). ¬ (next r ≡ 0) → r.end ≡ e)
    (λ _ _ _. refl) (λ _ _ k. absurd (k refl)) (λ _ _ _ k. absurd (k refl))
