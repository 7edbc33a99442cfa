-- The answer table, for every call on an end, whatever the end is: each number is given exactly when its row
-- holds and no earlier row does (registers 1, 2, 3, 10, 4; take 1, then 5; health 1, then 6), and 0 when none does.
--   bad_met         what row 1 is, spelled out
--   CALL-N          the call gives the number N exactly when ..
--   CALL-refused    any number but 0: the end as it came, value and symbol 0, and no reason
-- Assumes nothing.
use Prim.Native.Nat.{ℕ, ◌<◌}
use mathlib.Core.Bool.{Bool, true, false, cond}
use mathlib.Core.Logic.{◌↔◌}
use mathlib.Core.Path.{◌≡◌, refl}
use native.Mathlib.Omega.{arith}
use lib.Dec.{ltb}
use Rattle.answer.specs.Number.{number_of}
use Rattle.frame.specs.declared.reason.Reason.TheVariants.{Nothing}
use Rattle.end.specs.declared.End.{End}
use Rattle.end.specs.declared.Read.{Read}
use Rattle.end.specs.declared.Next.{Next}
use Rattle.end.specs.declared.Sent.{Sent}
use Rattle.end.specs.declared.Taken.{Taken}
use Rattle.end.specs.Good.{bad, present_of}
use Rattle.end.specs.Sending.{send_of}
use Rattle.end.specs.Taking.{take_of}
use Rattle.end.specs.Registers.{outside, read_only, read_only_bits, blocked, read_of, write_of, health_of}
use Rattle.endlaws.specs.Rows.{Met, Outside, Received, SetsReadOnly, Pending}
use Rattle.laws.proofs.Decide.{decides_iff, above_row, hit, skip, pass, never}
use Rattle.endlaws.proofs.Tested.{met, outside_row, received_row, read_only_row, pending_row}

pub bad_met : (e : End) → (bad e ≡ true) ↔ Met e
bad_met e = decides_iff (met e)

-- the number of a result
abbrev sent : Sent → ℕ
sent r = number_of r.answer

abbrev got : Read → ℕ
got r = number_of r.answer

abbrev took : Taken → ℕ
took r = number_of r.answer

abbrev next : Next → ℕ
next r = number_of r.answer

-- send

pub send_1 : (e : End) → (number_of (send_of e).answer ≡ 1) ↔ Met e
unfolding send_of
send_1 e = hit sent (bad e) (met e) refl (λ h. omega arith)

pub send_0 : (e : End) → (number_of (send_of e).answer ≡ 0) ↔ ¬ Met e
unfolding send_of
send_0 e = pass sent (bad e) (met e) (λ h. omega arith) refl

-- take

pub take_1 : (e : End) (s : ℕ) → (number_of (take_of e s).answer ≡ 1) ↔ Met e
unfolding take_of
take_1 e s = hit took (bad e) (met e) refl (never took (ltb 1023 s) (λ h. omega arith) (λ h. omega arith))

pub take_5 : (e : End) (s : ℕ) → (number_of (take_of e s).answer ≡ 5) ↔ (¬ Met e × (1023 < s))
unfolding take_of
take_5 e s =
    skip took (bad e) (met e) (λ h. omega arith) (λ _. hit took (ltb 1023 s) (above_row 1023 s) refl (λ h. omega arith))

pub take_0 : (e : End) (s : ℕ) → (number_of (take_of e s).answer ≡ 0) ↔ (¬ Met e × ¬ (1023 < s))
unfolding take_of
take_0 e s =
    skip took (bad e) (met e) (λ h. omega arith)
    (λ _. pass took (ltb 1023 s) (above_row 1023 s) (λ h. omega arith) refl)

-- read

pub read_1 : (e : End) (r : ℕ) → (number_of (read_of e r).answer ≡ 1) ↔ Met e
unfolding read_of
read_1 e r = hit got (bad e) (met e) refl (never got (outside r) (λ h. omega arith) (λ h. omega arith))

pub read_2 : (e : End) (r : ℕ) → (number_of (read_of e r).answer ≡ 2) ↔ (¬ Met e × Outside r)
unfolding read_of
read_2 e r =
    skip got (bad e) (met e) (λ h. omega arith) (λ _. hit got (outside r) (outside_row r) refl (λ h. omega arith))

pub read_0 : (e : End) (r : ℕ) → (number_of (read_of e r).answer ≡ 0) ↔ (¬ Met e × ¬ Outside r)
unfolding read_of
read_0 e r =
    skip got (bad e) (met e) (λ h. omega arith) (λ _. pass got (outside r) (outside_row r) (λ h. omega arith) refl)

-- write

pub write_1 : (e : End) (r v : ℕ) → (number_of (write_of e r v).answer ≡ 1) ↔ Met e
unfolding write_of
write_1 e r v =
    hit next (bad e) (met e) refl
    (never next (outside r) (λ h. omega arith)
    (never next (read_only r) (λ h. omega arith)
    (never next (read_only_bits r v) (λ h. omega arith)
    (never next (blocked e r v) (λ h. omega arith) (λ h. omega arith)))))

pub write_2 : (e : End) (r v : ℕ) → (number_of (write_of e r v).answer ≡ 2) ↔ (¬ Met e × Outside r)
unfolding write_of
write_2 e r v =
    skip next (bad e) (met e) (λ h. omega arith)
    (λ _. hit next (outside r) (outside_row r) refl
    (never next (read_only r) (λ h. omega arith)
    (never next (read_only_bits r v) (λ h. omega arith)
    (never next (blocked e r v) (λ h. omega arith) (λ h. omega arith)))))

pub write_3 : (e : End) (r v : ℕ) → (number_of (write_of e r v).answer ≡ 3) ↔ (¬ Met e × (¬ Outside r × Received r))
unfolding write_of
write_3 e r v =
    skip next (bad e) (met e) (λ h. omega arith)
    (λ _. skip next (outside r) (outside_row r) (λ h. omega arith)
    (λ o. hit next (read_only r) (received_row r o) refl
    (never next (read_only_bits r v) (λ h. omega arith)
    (never next (blocked e r v) (λ h. omega arith) (λ h. omega arith)))))

pub write_10 : (e : End) (r v : ℕ)
    → (number_of (write_of e r v).answer ≡ 10) ↔ (¬ Met e × (¬ Outside r × (¬ Received r × SetsReadOnly r v)))
unfolding write_of
write_10 e r v =
    skip next (bad e) (met e) (λ h. omega arith)
    (λ _. skip next (outside r) (outside_row r) (λ h. omega arith)
    (λ o. skip next (read_only r) (received_row r o) (λ h. omega arith)
    (λ _. hit next (read_only_bits r v) (read_only_row r v) refl
    (never next (blocked e r v) (λ h. omega arith) (λ h. omega arith)))))

pub write_4 : (e : End) (r v : ℕ)
    → (number_of (write_of e r v).answer ≡ 4)
    ↔ (¬ Met e × (¬ Outside r × (¬ Received r × (¬ SetsReadOnly r v × Pending e r v))))
unfolding write_of
write_4 e r v =
    skip next (bad e) (met e) (λ h. omega arith)
    (λ _. skip next (outside r) (outside_row r) (λ h. omega arith)
    (λ o. skip next (read_only r) (received_row r o) (λ h. omega arith)
    (λ n. skip next (read_only_bits r v) (read_only_row r v) (λ h. omega arith)
    (λ _. hit next (blocked e r v) (pending_row e r v o n) refl (λ h. omega arith)))))

pub write_0 : (e : End) (r v : ℕ)
    → (number_of (write_of e r v).answer ≡ 0)
    ↔ (¬ Met e × (¬ Outside r × (¬ Received r × (¬ SetsReadOnly r v × ¬ Pending e r v))))
unfolding write_of
write_0 e r v =
    skip next (bad e) (met e) (λ h. omega arith)
    (λ _. skip next (outside r) (outside_row r) (λ h. omega arith)
    (λ o. skip next (read_only r) (received_row r o) (λ h. omega arith)
    (λ n. skip next (read_only_bits r v) (read_only_row r v) (λ h. omega arith)
    (λ _. pass next (blocked e r v) (pending_row e r v o n) (λ h. omega arith) refl))))

-- set health

pub health_1 : (e : End) (h : ℕ) → (number_of (health_of e h).answer ≡ 1) ↔ Met e
unfolding health_of
health_1 e h = hit next (bad e) (met e) refl (never next (ltb 3 h) (λ k. omega arith) (λ k. omega arith))

pub health_6 : (e : End) (h : ℕ) → (number_of (health_of e h).answer ≡ 6) ↔ (¬ Met e × (3 < h))
unfolding health_of
health_6 e h =
    skip next (bad e) (met e) (λ k. omega arith) (λ _. hit next (ltb 3 h) (above_row 3 h) refl (λ k. omega arith))

pub health_0 : (e : End) (h : ℕ) → (number_of (health_of e h).answer ≡ 0) ↔ (¬ Met e × ¬ (3 < h))
unfolding health_of
health_0 e h =
    skip next (bad e) (met e) (λ k. omega arith) (λ _. pass next (ltb 3 h) (above_row 3 h) (λ k. omega arith) refl)

-- present

pub present_met : (e : End) → Met e → present_of e ≡ false
unfolding present_of
present_met e m = rw ((bad_met e).1 m)

-- Refused: the end as it came

-- a choice whose second side is a refusal or done has what both sides have, where the answer isn't 0
refused : {A : Type 0} (f : A → ℕ) (P : A → Type 0) (b : Bool) {x y : A}
    → P x → (¬ (f y ≡ 0) → P y) → ¬ (f (cond b x y) ≡ 0) → P (cond b x y)
refused f P true p q h = p
refused f P false p q h = q h

abbrev Unsent : End → Sent → Type 0
Unsent e r = (r.symbol ≡ 0) × (r.end ≡ e)

abbrev Unread : End → Read → Type 0
Unread e r = (r.value ≡ 0) × (r.end ≡ e)

abbrev Unmoved : End → Next → Type 0
Unmoved e r = r.end ≡ e

abbrev Untaken : End → Taken → Type 0
Untaken e r = (r.reason ≡ Nothing) × (r.end ≡ e)

pub send_refused : (e : End) → ¬ (number_of (send_of e).answer ≡ 0) → ((send_of e).symbol ≡ 0) × ((send_of e).end ≡ e)
unfolding send_of
send_refused e = refused sent (Unsent e) (bad e) (refl, refl) (λ n. absurd (n refl))

pub take_refused : (e : End) (s : ℕ) → ¬ (number_of (take_of e s).answer ≡ 0)
    → ((take_of e s).reason ≡ Nothing) × ((take_of e s).end ≡ e)
unfolding take_of
take_refused e s =
    refused took (Untaken e) (bad e) (refl, refl)
    (refused took (Untaken e) (ltb 1023 s) (refl, refl) (λ n. absurd (n refl)))

pub read_refused : (e : End) (r : ℕ) → ¬ (number_of (read_of e r).answer ≡ 0)
    → ((read_of e r).value ≡ 0) × ((read_of e r).end ≡ e)
unfolding read_of
read_refused e r =
    refused got (Unread e) (bad e) (refl, refl) (refused got (Unread e) (outside r) (refl, refl) (λ n. absurd (n refl)))

pub write_refused : (e : End) (r v : ℕ) → ¬ (number_of (write_of e r v).answer ≡ 0) → (write_of e r v).end ≡ e
unfolding write_of
write_refused e r v =
    refused next (Unmoved e) (bad e) refl
    (refused next (Unmoved e) (outside r) refl
    (refused next (Unmoved e) (read_only r) refl
    (refused next (Unmoved e) (read_only_bits r v) refl
    (refused next (Unmoved e) (blocked e r v) refl (λ n. absurd (n refl))))))

pub health_refused : (e : End) (h : ℕ) → ¬ (number_of (health_of e h).answer ≡ 0) → (health_of e h).end ≡ e
unfolding health_of
health_refused e h =
    refused next (Unmoved e) (bad e) refl (refused next (Unmoved e) (ltb 3 h) refl (λ n. absurd (n refl)))
