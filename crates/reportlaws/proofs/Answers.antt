-- What each call of request #110 gives, for every host, end and message: exactly when its row holds (specs/Rows.antt).
--   offer_4, offer_0      the number of the answer; offer_numbers, no other; offer_refused, the host stays
--   push_idle, push_waits, push_refused, push_part       what the sending host's step was
--   push_refuses          an end refuses with 1
--   push_stays            unless a message was accepted, host and end stay as they came
--   take_part, take_whole, take_out                      what a message was to the taking host
--   pull_refused, pull_empty, pull_took                  what the taking host's step was
--   pull_refuses          an end refuses with 1
--   pull_stays            unless a message was taken, host and end stay, and no block is handed over
-- Assumes nothing.
use Prim.Native.Nat.{ℕ}
use mathlib.Core.List.{List}
use mathlib.Core.Logic.{◌↔◌, ◌⊎◌, inl, inr, ⊎_elim}
use mathlib.Core.Path.{◌≡◌, refl, sym, ap, ◌∙◌}
use native.Mathlib.Omega.{arith}
use Rattle.answer.specs.declared.Answer.{Answer}
use Rattle.answer.specs.Number.{number_of}
use Rattle.end.specs.declared.End.{End}
use Rattle.endlaws.proofs.Calls.{bytes_answers, status_answers}
use Rattle.report.specs.declared.SendingHost.{SendingHost}
use Rattle.report.specs.declared.Offered.{Offered}
use Rattle.report.specs.declared.Push.{Push}
use Rattle.report.specs.declared.Pushed.{Pushed}
use Rattle.report.specs.declared.TakingHost.{TakingHost}
use Rattle.report.specs.declared.Take.{Take}
use Rattle.report.specs.declared.Taken.{Taken}
use Rattle.report.specs.declared.Pull.{Pull}
use Rattle.report.specs.declared.Pulled.{Pulled}
use Rattle.report.specs.Sending.{offer_of, push_of}
use Rattle.report.specs.Taking.{take_of, pull_of}
use Rattle.reportlaws.specs.Does.{Stays}
use Rattle.reportlaws.specs.Rows.{UnderWay, written, More, Last, Starts, OutOfTurn, read, bit_15}
use Rattle.reportlaws.proofs.Blocks.{zeros_are}
use Rattle.reportlaws.proofs.Cases.{offer_case, push_case, take_case, pull_case}
use Rattle.reportlaws.proofs.Cases.{more_or_last, more_or_out, last_or_starts, last_or_out, starts_or_out}

-- both hold, or neither does
yes_both : {A B : Type 0} → A → B → A ↔ B
yes_both a b = (λ _. b, λ _. a)

neither : {A B : Type 0} → ¬ A → ¬ B → A ↔ B
neither a b = (λ x. absurd (a x), λ x. absurd (b x))

-- what two steps were, told apart by a number
apart : {A B : Type 0} (f : A → ℕ) {x y : A} → ¬ (f x ≡ f y) → ¬ B → (x ≡ y) ↔ B
apart f n = neither (λ q. n (ap f q))

-- Offer

pub offer_4 : (h : SendingHost) (b : List ℕ) → (number_of (offer_of h b).answer ≡ 4) ↔ UnderWay h
offer_4 h b =
    offer_case h b (λ (r : Offered). (number_of r.answer ≡ 4) ↔ UnderWay h)
    (λ u. yes_both refl u) (λ f. neither (λ k. omega arith) f)

pub offer_0 : (h : SendingHost) (b : List ℕ) → (number_of (offer_of h b).answer ≡ 0) ↔ ¬ UnderWay h
offer_0 h b =
    offer_case h b (λ (r : Offered). (number_of r.answer ≡ 0) ↔ ¬ UnderWay h)
    (λ u. neither (λ k. omega arith) (λ f. f u)) (λ f. yes_both refl f)

pub offer_numbers : (h : SendingHost) (b : List ℕ)
    → (number_of (offer_of h b).answer ≡ 0) ⊎ (number_of (offer_of h b).answer ≡ 4)
offer_numbers h b =
    offer_case h b (λ (r : Offered). (number_of r.answer ≡ 0) ⊎ (number_of r.answer ≡ 4))
    (λ _. inr refl) (λ _. inl refl)

pub offer_refused : (h : SendingHost) (b : List ℕ) → ¬ (number_of (offer_of h b).answer ≡ 0) → (offer_of h b).host ≡ h
offer_refused h b =
    offer_case h b (λ (r : Offered). ¬ (number_of r.answer ≡ 0) → r.host ≡ h) (λ _ _. refl) (λ _ k. absurd (k refl))

-- Push

abbrev pushed : Push → ℕ
pushed Push.Idle = 0
pushed Push.Waits = 1
pushed (Push.Refused a) = 2
pushed (Push.Part n) = 3

pub push_idle : (h : SendingHost) (e : End) → ((push_of h e).what ≡ Push.Idle) ↔ ¬ UnderWay h
push_idle h e =
    push_case h e (λ (r : Pushed). (r.what ≡ Push.Idle) ↔ ¬ UnderWay h)
    (λ f. yes_both refl f)
    (λ u _. apart pushed (λ k. omega arith) (λ f. f u))
    (λ u _ _. apart pushed (λ k. omega arith) (λ f. f u))
    (λ u _. apart pushed (λ k. omega arith) (λ f. f u))

pub push_waits : (h : SendingHost) (e : End)
    → ((push_of h e).what ≡ Push.Waits) ↔ (UnderWay h × (number_of (written e) ≡ 4))
push_waits h e =
    push_case h e (λ (r : Pushed). (r.what ≡ Push.Waits) ↔ (UnderWay h × (number_of (written e) ≡ 4)))
    (λ f. apart pushed (λ k. omega arith) (λ r. f r.0))
    (λ u w. yes_both refl (u, w))
    (λ _ _ d. apart pushed (λ k. omega arith) (λ r. d r.1))
    (λ _ o. apart pushed (λ k. omega arith) (λ r. omega (arith, o, r.1)))

pub push_refused : (h : SendingHost) (e : End) (a : Answer)
    → ((push_of h e).what ≡ Push.Refused a)
    ↔ (UnderWay h × (written e ≡ a) × ¬ (number_of a ≡ 0) × ¬ (number_of a ≡ 4))
push_refused h e a =
    push_case h e
    (λ (r : Pushed).
    (r.what ≡ Push.Refused a) ↔ (UnderWay h × (written e ≡ a) × ¬ (number_of a ≡ 0) × ¬ (number_of a ≡ 4)))
    (λ f. apart pushed (λ k. omega arith) (λ r. f r.0))
    (λ _ w. apart pushed (λ k. omega arith) (λ r. r.3 (ap number_of (sym r.1) ∙ w)))
    (λ u c d. (
      λ k. let q : written e ≡ a = cc in (u, q, λ z. c (ap number_of q ∙ z), λ z. d (ap number_of q ∙ z)),
      λ r. ap Push.Refused r.1,
    ))
    (λ _ o. apart pushed (λ k. omega arith) (λ r. r.2 (ap number_of (sym r.1) ∙ o)))

pub push_refuses : (h : SendingHost) (e : End) (a : Answer) → (push_of h e).what ≡ Push.Refused a → number_of a ≡ 1
push_refuses h e a k =
    let (_, q, c, d) = (push_refused h e a).0 k in
    ap number_of (sym q)
    ∙ ⊎_elim (λ x. absurd (c (ap number_of (sym q) ∙ x))) (⊎_elim (λ x. x) (λ x. absurd (d (ap number_of (sym q) ∙ x))))
    (bytes_answers e 0 0 (omega arith))

pub push_part : (h : SendingHost) (e : End) (n : ℕ)
    → ((push_of h e).what ≡ Push.Part n) ↔ ((n ≡ h.next) × UnderWay h × (number_of (written e) ≡ 0))
push_part h e n =
    push_case h e
    (λ (r : Pushed). (r.what ≡ Push.Part n) ↔ ((n ≡ h.next) × UnderWay h × (number_of (written e) ≡ 0)))
    (λ f. apart pushed (λ k. omega arith) (λ r. f r.1))
    (λ _ w. apart pushed (λ k. omega arith) (λ r. omega (arith, w, r.2)))
    (λ _ c _. apart pushed (λ k. omega arith) (λ r. c r.2))
    (λ u o. (λ k. let q : n ≡ h.next = cc in (q, u, o), λ r. ap Push.Part (sym r.0)))

pub push_stays : (h : SendingHost) (e : End) → ((n : ℕ) → ¬ ((push_of h e).what ≡ Push.Part n))
    → ((push_of h e).host ≡ h) × ((push_of h e).end ≡ e)
push_stays h e =
    push_case h e (λ (r : Pushed). ((n : ℕ) → ¬ (r.what ≡ Push.Part n)) → (r.host ≡ h) × (r.end ≡ e))
    (λ _ _. (refl, refl)) (λ _ _ _. (refl, refl)) (λ _ _ _ _. (refl, refl)) (λ _ _ n. absurd (n h.next refl))

-- Take

abbrev taken : Take → ℕ
taken (Take.Part n) = 0
taken (Take.Out n) = 1
taken Take.Whole = 2

pub take_part : (h : TakingHost) (n : ℕ) (m : List ℕ) (k : ℕ)
    → ((take_of h n m).what ≡ Take.Part k) ↔ ((k ≡ n) × (More h n ⊎ Starts h n))
take_part h n m k =
    take_case h n m (λ (r : Taken). (r.what ≡ Take.Part k) ↔ ((k ≡ n) × (More h n ⊎ Starts h n)))
    (λ x. (λ p. let q : k ≡ n = cc in (q, inl x), λ r. ap Take.Part (sym r.0)))
    (λ x. apart taken (λ z. omega arith)
    (λ r. ⊎_elim (λ y. more_or_last h n y x) (last_or_starts h n x) r.1))
    (λ x. (λ p. let q : k ≡ 0 = cc in (q ∙ sym x.0, inr x), λ r. ap Take.Part (sym (r.0 ∙ x.0))))
    (λ x. apart taken (λ z. omega arith)
    (λ r. ⊎_elim (λ y. more_or_out h n y x) (λ y. starts_or_out h n y x) r.1))

pub take_whole : (h : TakingHost) (n : ℕ) (m : List ℕ) → ((take_of h n m).what ≡ Take.Whole) ↔ Last h n
take_whole h n m =
    take_case h n m (λ (r : Taken). (r.what ≡ Take.Whole) ↔ Last h n)
    (λ x. apart taken (λ z. omega arith) (more_or_last h n x))
    (λ x. yes_both refl x)
    (λ x. apart taken (λ z. omega arith) (λ y. last_or_starts h n y x))
    (λ x. apart taken (λ z. omega arith) (λ y. last_or_out h n y x))

pub take_out : (h : TakingHost) (n : ℕ) (m : List ℕ) (k : ℕ)
    → ((take_of h n m).what ≡ Take.Out k) ↔ ((k ≡ n) × OutOfTurn h n)
take_out h n m k =
    take_case h n m (λ (r : Taken). (r.what ≡ Take.Out k) ↔ ((k ≡ n) × OutOfTurn h n))
    (λ x. apart taken (λ z. omega arith) (λ r. more_or_out h n x r.1))
    (λ x. apart taken (λ z. omega arith) (λ r. last_or_out h n x r.1))
    (λ x. apart taken (λ z. omega arith) (λ r. starts_or_out h n x r.1))
    (λ x. (λ p. let q : k ≡ n = cc in (q, x), λ r. ap Take.Out (sym r.0)))

-- Pull

abbrev pulled : Pull → ℕ
pulled (Pull.Refused a) = 0
pulled Pull.Empty = 1
pulled (Pull.Took t) = 2

pub pull_refused : (h : TakingHost) (e : End) (a : Answer)
    → ((pull_of h e).what ≡ Pull.Refused a) ↔ ((read e ≡ a) × ¬ (number_of a ≡ 0))
pull_refused h e a =
    pull_case h e (λ (r : Pulled). (r.what ≡ Pull.Refused a) ↔ ((read e ≡ a) × ¬ (number_of a ≡ 0)))
    (λ c. (λ k. let q : read e ≡ a = cc in (q, λ z. c (ap number_of q ∙ z)), λ r. ap Pull.Refused r.0))
    (λ o _. apart pulled (λ k. omega arith) (λ r. r.1 (ap number_of (sym r.0) ∙ o)))
    (λ o _. apart pulled (λ k. omega arith) (λ r. r.1 (ap number_of (sym r.0) ∙ o)))

pub pull_refuses : (h : TakingHost) (e : End) (a : Answer) → (pull_of h e).what ≡ Pull.Refused a → number_of a ≡ 1
pull_refuses h e a k =
    let (q, c) = (pull_refused h e a).0 k in
    ap number_of (sym q) ∙ ⊎_elim (λ x. absurd (c (ap number_of (sym q) ∙ x))) (λ x. x) (status_answers e)

pub pull_empty : (h : TakingHost) (e : End)
    → ((pull_of h e).what ≡ Pull.Empty) ↔ ((number_of (read e) ≡ 0) × (bit_15 e ≡ 0))
pull_empty h e =
    pull_case h e (λ (r : Pulled). (r.what ≡ Pull.Empty) ↔ ((number_of (read e) ≡ 0) × (bit_15 e ≡ 0)))
    (λ c. apart pulled (λ k. omega arith) (λ r. c r.0))
    (λ o b. yes_both refl (o, b))
    (λ _ b. apart pulled (λ k. omega arith) (λ r. omega (arith, b, r.1)))

pub pull_took : (h : TakingHost) (e : End)
    → ((t : Take) × ((pull_of h e).what ≡ Pull.Took t)) ↔ ((number_of (read e) ≡ 0) × (bit_15 e ≡ 1))
pull_took h e =
    pull_case h e
    (λ (r : Pulled). ((t : Take) × (r.what ≡ Pull.Took t)) ↔ ((number_of (read e) ≡ 0) × (bit_15 e ≡ 1)))
    (λ c. neither (λ (t, k). let z = ap pulled k in omega arith) (λ r. c r.0))
    (λ _ b. neither (λ (t, k). let z = ap pulled k in omega arith) (λ r. omega (arith, b, r.1)))
    (λ o b. yes_both (_, refl) (o, b))

pub pull_stays : (h : TakingHost) (e : End) → ((t : Take) → ¬ ((pull_of h e).what ≡ Pull.Took t)) → Stays h e (pull_of h e)
pull_stays h e =
    pull_case h e (λ (r : Pulled). ((t : Take) → ¬ (r.what ≡ Pull.Took t)) → Stays h e r)
    (λ _ _. record { host = refl; end = refl; block = zeros_are })
    (λ _ _ _. record { host = refl; end = refl; block = zeros_are })
    (λ _ _ n. absurd (n _ refl))
