-- What specs/Does.antt says of a call leaves no choice: what it says is said of nothing but what the call gives.
--   sending_fresh_determined, offer_determined, push_determined
--   taking_fresh_determined, take_determined, pull_determined
-- Assumes nothing.
use Prim.Native.Nat.{ℕ, ◌+◌, ◌*◌, ◌/◌, ◌%◌, ◌<◌}
use mathlib.Core.List.{List, [], ◌∷◌}
use mathlib.Core.Logic.{inl, inr}
use mathlib.Core.Path.{◌≡◌, sym, ap, ap₂, subst, ◌∙◌}
use native.Mathlib.Omega.{arith}
use lib.ListN.{length}
use Rattle.laws.proofs.Lists.{eight}
use Rattle.answer.specs.declared.Answer.TheVariants.{Done, Blocked}
use Rattle.end.specs.declared.End.{End}
use Rattle.endlaws.proofs.Calls.{status_leaves}
use Rattle.endlaws.proofs.Identical.{number_of_same}
use Rattle.report.specs.declared.SendingHost.{SendingHost}
use Rattle.report.specs.declared.Offered.{Offered}
use Rattle.report.specs.declared.Pushed.{Pushed}
use Rattle.report.specs.declared.TakingHost.{TakingHost}
use Rattle.report.specs.declared.Taken.{Taken}
use Rattle.report.specs.declared.Pull.TheVariants as Pull
use Rattle.report.specs.declared.Pulled.{Pulled}
use Rattle.report.specs.Sending.{word_of, fresh_sending, offer_of, push_of}
use Rattle.report.specs.Taking.{zeros, fresh_taking, take_of, words_of, took, pull_of}
use Rattle.reportlaws.specs.Does.{Zeros, Holds, FreshSending, Offers, Carries, Pushes, FreshTaking, Takes}
use Rattle.reportlaws.specs.Does.{Fills, Reads, Took, Pulls}
use Rattle.reportlaws.proofs.Blocks.{zeros_are, zeros_one, filled_one}
use Rattle.reportlaws.proofs.Cases.{offer_case, control_of, after, sent_to, push_case, take_case, number_at}
use Rattle.reportlaws.proofs.Cases.{pull_case}
use Rattle.reportlaws.proofs.Does.{take_does}

-- results are one by their fields

offereds : {x y : Offered} → x.answer ≡ y.answer → x.host ≡ y.host → x ≡ y
offereds a b = λ i. record { answer = a i; host = b i }

pusheds : {x y : Pushed} → x.what ≡ y.what → x.host ≡ y.host → x.end ≡ y.end → x ≡ y
pusheds a b c = λ i. record { what = a i; host = b i; end = c i }

takens : {x y : Taken} → x.what ≡ y.what → x.block ≡ y.block → x.host ≡ y.host → x ≡ y
takens a b c = λ i. record { what = a i; block = b i; host = c i }

pulleds : {x y : Pulled} → x.what ≡ y.what → x.block ≡ y.block → x.host ≡ y.host → x.end ≡ y.end → x ≡ y
pulleds a b c d = λ i. record { what = a i; block = b i; host = c i; end = d i }

senders : {x y : SendingHost} → x.block ≡ y.block → x.next ≡ y.next → x ≡ y
senders a b = λ i. record { block = a i; next = b i }

takers : {x y : TakingHost} → x.block ≡ y.block → x.turn ≡ y.turn → x ≡ y
takers a b = λ i. record { block = a i; turn = b i }

blank : {l : List ℕ} → Zeros l → l ≡ zeros
blank {l} z = zeros_one l zeros z zeros_are

-- Sending

pub sending_fresh_determined : (k : SendingHost) → FreshSending k → k ≡ fresh_sending
sending_fresh_determined k x = senders (blank x.block) x.next

pub offer_determined : (h : SendingHost) (b : List ℕ) (r : Offered) → Offers h b r → r ≡ offer_of h b
offer_determined h b r x =
    offer_case h b (λ (s : Offered). r ≡ s)
    (λ u. let y = x.under_way u in offereds (number_of_same _ Blocked y.answer) y.host)
    (λ f. let y = x.free f in offereds (number_of_same _ Done y.answer) (senders y.block y.next))

-- a value by its two bytes, and by its bits
held : (v a b : ℕ) → v % 256 ≡ a → v / 256 ≡ b → v ≡ a + b * 256
held v a b h k = omega arith

controls : (n v : ℕ) → v / 32768 ≡ 1 → v / 4096 % 8 ≡ 0 → v / 256 % 16 ≡ n → v % 256 ≡ 0 → v ≡ control_of n
controls n v a b c d = omega arith

carried : (b : List ℕ) (n : ℕ) (e f : End) → Carries b n e f → f ≡ sent_to b n e
carried b n e f x =
    x.writes.1.1.1.1.1
    ∙ (λ i.
    after 2308 (c i)
    (after 2312 (word 3 (omega arith) i)
    (after 2311 (word 2 (omega arith) i)
    (after 2310 (word 1 (omega arith) i) (after 2309 (word 0 (omega arith) i) e)))))
  where
    word : (i : ℕ) → i < 4 → x.word i ≡ word_of b n i
    word i l = let y = x.bytes i l in held _ _ _ y.low y.high

    c : x.control ≡ control_of n
    c = let y = x.number in controls n x.control y.bit_15 y.bits_14_to_12 y.number y.bits_7_to_0

pub push_determined : (h : SendingHost) (e : End) (r : Pushed) → Pushes h e r → r ≡ push_of h e
push_determined h e r x =
    push_case h e (λ (s : Pushed). r ≡ s)
    (λ f. let (p, q) = x.stays (inl f) in pusheds (x.idle f) p q)
    (λ u w. let (p, q) = x.stays (inr (λ o. omega arith)) in pusheds (x.waits u w) p q)
    (λ u c d. let (p, q) = x.stays (inr c) in pusheds (x.refused u c d) p q)
    (λ u o.
    let y = x.sends u o in
    pusheds y.what (senders y.block y.next) (carried h.block h.next e r.end y.end))

-- Taking

pub taking_fresh_determined : (k : TakingHost) → FreshTaking k → k ≡ fresh_taking
taking_fresh_determined k x = takers (blank x.block) x.turn

fills_one : {old : ℕ → ℕ} {n : ℕ} {m : List ℕ} (r t : Taken) → Fills old n m r → Fills old n m t → r ≡ t
fills_one r t x y =
    takens (x.what ∙ sym y.what) (zeros_one _ _ x.block y.block)
    (takers (filled_one _ _ x.part y.part) (x.turn ∙ sym y.turn))

module _ (h : TakingHost) (n : ℕ) (m : List ℕ) (s : length h.block ≡ 128) (k : length m ≡ 8) where
  pub take_determined : (r : Taken) → Takes h n m r → r ≡ take_of h n m
  take_determined r x =
      take_case h n m (λ (t : Taken). Takes h n m t → r ≡ t)
      (λ c t. fills_one _ _ (x.more c) (t.more c))
      (λ c t.
      let y = x.last c in
      takens y.what (filled_one _ _ y.block (t.last c).block) (taking_fresh_determined r.host y.host))
      (λ c t. fills_one _ _ (x.starts c) (t.starts c))
      (λ c t.
      let y = x.out_of_turn c in
      takens y.what (blank y.block) (taking_fresh_determined r.host y.host))
      (take_does h n m s k)

-- the bytes of a value that is known
halved : {v w a b : ℕ} → Holds w a b → v ≡ w → (a ≡ v % 256) × (b ≡ v / 256)
halved x q = (sym x.low ∙ ap (λ (n : ℕ). n % 256) (sym q), sym x.high ∙ ap (λ (n : ℕ). n / 256) (sym q))

module _ (h : TakingHost) (e : End) (s : length h.block ≡ 128) where
  -- whatever is said to be taken from the end is what its registers read
  taken_one : (r : Pulled) → Took h e r → r ≡ took (take_of h (number_at e) (words_of e).bytes) (words_of e).end
  taken_one r x =
      let (_, q, l) = x.reads in
      let (_, a, (_, b, (_, c, (_, d, f)))) =
      subst (λ (g : End). Reads g
      ((2314, x.word 0) ∷ (2315, x.word 1) ∷ (2316, x.word 2) ∷ (2317, x.word 3) ∷ []) r.end)
      (status_leaves e) l in
      let (a0, a1) = halved (x.bytes 0 (omega arith)) a in
      let (b0, b1) = halved (x.bytes 1 (omega arith)) b in
      let (c0, c1) = halved (x.bytes 2 (omega arith)) c in
      let (d0, d1) = halved (x.bytes 3 (omega arith)) d in
      let told : x.message ≡ (words_of e).bytes =
      sym (eight x.message x.size)
      ∙ (λ i. a0 i ∷ a1 i ∷ b0 i ∷ b1 i ∷ c0 i ∷ c1 i ∷ d0 i ∷ d1 i ∷ []) in
      let t =
      take_determined h _ x.message s x.size x.taken x.takes
      ∙ ap₂ (take_of h) (ap (λ (v : ℕ). v / 256 % 16) (sym q)) told in
      pulleds (x.what ∙ ap (λ (y : Taken). Pull.Took y.what) t) (x.block ∙ ap (λ (y : Taken). y.block) t)
      (x.host ∙ ap (λ (y : Taken). y.host) t) f

pub pull_determined : (h : TakingHost) (e : End) (r : Pulled) → length h.block ≡ 128 → Pulls h e r → r ≡ pull_of h e
pull_determined h e r s x =
    pull_case h e (λ (t : Pulled). r ≡ t)
    (λ c. let (w, y) = x.refused c in pulleds w (blank y.block) y.host y.end)
    (λ o b. let (w, y) = x.empty o b in pulleds w (blank y.block) y.host y.end)
    (λ o b. taken_one h e s r (x.took o b))
