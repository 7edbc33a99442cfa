-- Request #107: the partner is present exactly when a frame was accepted within the last 768 symbols taken.
--   calls_presence   what is left of presence after calls, from an end that answer 1 does not meet
--   acceptances_length   there are as many acceptances as symbols taken
--   calls_left       where no frame is accepted: one less for each symbol taken
--   calls_present    whether something is left of it: a frame was accepted with one of the last 768 symbols taken, or
--                    what was left before them outlasts them
--   absent_present   the same from an end without presence; reached_present, from reset
--   completions      with which symbols the last twelve taken are acceptable
--   acceptances_are  from reset, a frame is accepted with a symbol exactly when the last twelve taken are acceptable
--   reached_frame    so from reset the partner is present exactly when twelve symbols in a row were acceptable, and
--                    fewer than 768 came later
--   steady_absent    a source that sends one same symbol for ever, with any marks, is never present
-- Assumes nothing.
use Prim.Native.Nat.{ℕ, zero, suc, ◌+◌, ◌-◌, ◌≤◌}
use mathlib.Core.Bool.{Bool, true, false, not, cond, ◌&&◌, ◌||◌, or-true, true≢false, false≢true}
use mathlib.Core.List.{List, [], ◌∷◌, ◌++◌, append_assoc, append-nil}
use mathlib.Core.Logic.{◌↔◌, ◌⊎◌, inl, inr}
use mathlib.Core.Path.{◌≡◌, refl, sym, ap, ap₂, ◌∙◌, subst}
use native.Mathlib.Omega.{arith}
use lib.Dec.{leb, ltb}
use lib.ListN.{length, get_or, take, drop, length-append, take-append-drop}
use lib.Seq.{take_all, take-suc, length-take-le}
use borrow.Author.Tests.{leb-true, leb-false, ltb-true, ltb-false, lt-ltb, le-ltb}
use Rattle.frame.specs.Frame.{marked, even, acceptable}
use Rattle.end.specs.declared.End.{End}
use Rattle.end.specs.declared.Taken.{Taken}
use Rattle.end.specs.Good.{bad, reset_of, present_of}
use Rattle.receiver.specs.Presence.{lasting, left_after}
use Rattle.receiver.specs.Receiving.{accepts}
use Rattle.end.specs.Taking.{taken, take_of}
use Rattle.end.specs.Calls.{Call, after, calls, reached}
use Rattle.endlaws.specs.Presence.{lapses, FrameWithin, Steady}
use Rattle.endlaws.specs.Taken.{taken_by, takes, last_of, last_twelve, accepted_by, acceptances, some}
use Rattle.endlaws.proofs.Accepted.{acceptable_sound, last_at, reached_accepts}
use Rattle.laws.proofs.Bools.{or_cases, no_if}
use Rattle.endlaws.proofs.Done.{take_good, take_above}
use Rattle.endlaws.proofs.Goods.{good, left_below, after_good, calls_good, reset_good, reached_good}
use Rattle.endlaws.proofs.Left.{send_leaves, read_leaves, write_leaves, health_leaves}

-- What is left

lapses_append : (a b : List Bool) (n : ℕ) → lapses (a ++ b) n ≡ lapses b (lapses a n)
unfolding lapses
lapses_append [] b n = refl
lapses_append (x ∷ a) b n = lapses_append a b (left_after x n)

after_presence : (c : Call) (e : End) → bad e ≡ false → (after c e).presence ≡ lapses (accepted_by c e) e.presence
unfolding lapses taken
after_presence Call.send e h = (send_leaves e).presence
after_presence (Call.take s) e h = go (leb s 1023) refl
  where
    go : (b : Bool) → leb s 1023 ≡ b → (take_of e s).end.presence
        ≡ lapses (cond b ((not (bad e) && accepts s e.collector) ∷ []) []) e.presence
    go true k = ap (λ (r : Taken). r.end.presence) (take_good e s h (leb-true s 1023 k)) ∙ rw h
    go false k = ap (λ (r : Taken). r.end.presence) (take_above e s h (leb-false s 1023 k))
after_presence (Call.read r) e h = (read_leaves e r).presence
after_presence (Call.write r v k) e h = (write_leaves e r v).presence
after_presence (Call.health x) e h = (health_leaves e x).presence
after_presence Call.present e h = refl

pub calls_presence : (cs : List Call) (e : End) → bad e ≡ false
    → (calls cs e).presence ≡ lapses (acceptances cs e) e.presence
unfolding calls acceptances lapses
calls_presence [] e h = refl
calls_presence (c ∷ cs) e h =
    calls_presence cs (after c e) (after_good c e h)
    ∙ (ap (lapses (acceptances cs (after c e))) (after_presence c e h)
    ∙ sym (lapses_append (accepted_by c e) (acceptances cs (after c e)) e.presence))

lapses_none : (bs : List Bool) (n : ℕ) → some bs ≡ false → lapses bs n ≡ n - length bs
unfolding lapses some
lapses_none [] n h = omega arith
lapses_none (true ∷ bs) n h = absurd (true≢false h)
lapses_none (false ∷ bs) n h = lapses_none bs (n - 1) h ∙ omega arith

-- as many as there are symbols taken
accepted_length : (c : Call) (e : End) → length (accepted_by c e) ≡ length (taken_by c)
accepted_length Call.send e = refl
accepted_length (Call.take s) e = go (leb s 1023)
  where
    go : (b : Bool)
        → length (cond b ((not (bad e) && accepts s e.collector) ∷ []) []) ≡ length (cond b (s ∷ []) [])
    go true = refl
    go false = refl
accepted_length (Call.read r) e = refl
accepted_length (Call.write r v h) e = refl
accepted_length (Call.health x) e = refl
accepted_length Call.present e = refl

pub acceptances_length : (cs : List Call) (e : End) → length (acceptances cs e) ≡ length (takes cs)
unfolding acceptances takes
acceptances_length [] e = refl
acceptances_length (c ∷ cs) e =
    length-append (accepted_by c e) (acceptances cs (after c e))
    ∙ (ap₂ (λ (m n : ℕ). m + n) (accepted_length c e) (acceptances_length cs (after c e))
    ∙ sym (length-append (taken_by c) (takes cs)))

pub calls_left : (cs : List Call) (e : End) → bad e ≡ false → some (acceptances cs e) ≡ false
    → (calls cs e).presence ≡ e.presence - length (takes cs)
calls_left cs e h n =
    calls_presence cs e h
    ∙ (lapses_none (acceptances cs e) e.presence n
    ∙ ap (λ (l : ℕ). e.presence - l) (acceptances_length cs e))

-- Whether something is left

-- the last 768 of more than that many, and of fewer
last_more : (b : Bool) (bs : List Bool) → 768 ≤ length bs → last_of 768 (b ∷ bs) ≡ last_of 768 bs
last_more b bs h = ap (λ (k : ℕ). drop k (b ∷ bs)) one
  where
    one : suc (length bs) - 768 ≡ suc (length bs - 768)
    one = omega arith

last_all : {A : Type 0} (l : List A) → length l ≤ 768 → last_of 768 l ≡ l
last_all l h = ap (λ (k : ℕ). drop k l) none
  where
    none : length l - 768 ≡ 0
    none = omega arith

-- n outlasts one symbol more exactly when one less outlasts the rest
outlasts : (l n : ℕ) → ltb l (n - 1) ≡ ltb (suc l) n
outlasts l n = go (ltb (suc l) n) refl
  where
    go : (b : Bool) → ltb (suc l) n ≡ b → ltb l (n - 1) ≡ b
    go true e = let k = ltb-true (suc l) n e in lt-ltb l (n - 1) (omega arith)
    go false e = let k = ltb-false (suc l) n e in le-ltb l (n - 1) (omega arith)

lapses_some : (bs : List Bool) (n : ℕ) → n ≤ lasting
    → ltb 0 (lapses bs n) ≡ (some (last_of 768 bs) || ltb (length bs) n)
unfolding lapses some
lapses_some [] n h = refl
lapses_some (b ∷ bs) n h =
    lapses_some bs (left_after b n) (left_below b n h) ∙ go (ltb (length bs) 768) refl b
  where
    go : (t : Bool) → ltb (length bs) 768 ≡ t → (b : Bool)
        → (some (last_of 768 bs) || ltb (length bs) (left_after b n))
        ≡ (some (last_of 768 (b ∷ bs)) || ltb (suc (length bs)) n)
    go true e true =
        let k = ltb-true (length bs) 768 e in
        rw (last_all (true ∷ bs) (omega arith), lt-ltb (length bs) 768 k) (or-true (some (last_of 768 bs)))
    go true e false =
        let k = ltb-true (length bs) 768 e in
        rw (last_all (false ∷ bs) (omega arith), last_all bs (omega arith), outlasts (length bs) n)
    go false e b =
        let k = ltb-false (length bs) 768 e in
        rw (
          last_more b bs k,
          le-ltb (length bs) (left_after b n) (omega (arith, left_below b n h)),
          le-ltb (suc (length bs)) n (omega arith),
        )

pub calls_present : (cs : List Call) (e : End) → bad e ≡ false
    → present_of (calls cs e) ≡ (some (last_of 768 (acceptances cs e)) || ltb (length (takes cs)) e.presence)
unfolding present_of
calls_present cs e h =
    rw (calls_good cs e h, calls_presence cs e h, sym (acceptances_length cs e))
    (lapses_some (acceptances cs e) e.presence (good e h).presence)

pub absent_present : (cs : List Call) (e : End) → bad e ≡ false → e.presence ≡ 0
    → present_of (calls cs e) ≡ some (last_of 768 (acceptances cs e))
absent_present cs e h z =
    let b = some (last_of 768 (acceptances cs e)) in
    let n = length (takes cs) in
    calls_present cs e h ∙ (ap (λ (p : ℕ). b || ltb n p) z ∙ none b n)
  where
    none : (b : Bool) (n : ℕ) → (b || ltb n 0) ≡ b
    none true n = refl
    none false n = le-ltb n 0 (omega arith)

pub reached_present : (cs : List Call) → present_of (reached cs) ≡ some (last_of 768 (acceptances cs reset_of))
unfolding reached
reached_present cs = absent_present cs reset_of reset_good refl

-- By the symbols alone

-- with which of the symbols ts, taken after those of before, the last twelve taken are acceptable
abbrev pub completions : List ℕ → List ℕ → List Bool
completions before [] = []
completions before (s ∷ ts) =
    acceptable (last_twelve (before ++ (s ∷ []))) ∷ completions (before ++ (s ∷ [])) ts

calls_snoc : (cs : List Call) (c : Call) (e : End) → calls (cs ++ (c ∷ [])) e ≡ after c (calls cs e)
unfolding calls
calls_snoc [] c e = refl
calls_snoc (d ∷ cs) c e = calls_snoc cs c (after d e)

takes_snoc : (cs : List Call) (c : Call) → takes (cs ++ (c ∷ [])) ≡ takes cs ++ taken_by c
unfolding takes
takes_snoc [] c = append-nil (taken_by c)
takes_snoc (d ∷ cs) c =
    ap (λ (l : List ℕ). taken_by d ++ l) (takes_snoc cs c) ∙ sym (append_assoc (taken_by d) (takes cs) (taken_by c))

-- what one call more adds
accepted_is : (pre : List Call) (c : Call) (ts : List ℕ)
    → completions (takes pre) (taken_by c ++ ts)
    ≡ accepted_by c (reached pre) ++ completions (takes pre ++ taken_by c) ts
accepted_is pre Call.send ts = rw (append-nil (takes pre))
accepted_is pre (Call.take s) ts = go (leb s 1023)
  where
    go : (b : Bool)
        → completions (takes pre) (cond b (s ∷ []) [] ++ ts)
        ≡ cond b ((not (bad (reached pre)) && accepts s (reached pre).collector) ∷ []) []
        ++ completions (takes pre ++ cond b (s ∷ []) []) ts
    go true = rw (reached_good pre, reached_accepts pre s)
    go false = rw (append-nil (takes pre))
accepted_is pre (Call.read r) ts = rw (append-nil (takes pre))
accepted_is pre (Call.write r v h) ts = rw (append-nil (takes pre))
accepted_is pre (Call.health x) ts = rw (append-nil (takes pre))
accepted_is pre Call.present ts = rw (append-nil (takes pre))

acceptances_from : (pre cs : List Call) → acceptances cs (reached pre) ≡ completions (takes pre) (takes cs)
unfolding acceptances takes reached
acceptances_from pre [] = refl
acceptances_from pre (c ∷ cs) =
    sym
    (accepted_is pre c (takes cs)
    ∙ ap (λ (l : List Bool). accepted_by c (reached pre) ++ l)
    (ap (λ (l : List ℕ). completions l (takes cs)) (sym (takes_snoc pre c))
    ∙ (sym (acceptances_from (pre ++ (c ∷ [])) cs) ∙ ap (acceptances cs) (calls_snoc pre c reset_of))))

pub acceptances_are : (cs : List Call) → acceptances cs reset_of ≡ completions [] (takes cs)
unfolding reached calls takes
acceptances_are cs = acceptances_from [] cs

completions_length : (before ts : List ℕ) → length (completions before ts) ≡ length ts
completions_length before [] = refl
completions_length before (s ∷ ts) = ap suc (completions_length (before ++ (s ∷ [])) ts)

-- a symbol of ts with which the last twelve taken are acceptable, k or more taken before it
record Completed (k : ℕ) (before ts : List ℕ) : Type 0 where
  earlier : List ℕ
  symbol : ℕ
  later : List ℕ
  all : ts ≡ earlier ++ (symbol ∷ later)
  sound : acceptable (last_twelve (before ++ (earlier ++ (symbol ∷ [])))) ≡ true
  from : k ≤ length earlier

-- the same, one symbol further on
further : (k s : ℕ) (before ts : List ℕ) → Completed k (before ++ (s ∷ [])) ts → Completed (suc k) before (s ∷ ts)
further k s before ts c = record {
  earlier = s ∷ c.earlier;
  symbol = c.symbol;
  later = c.later;
  all = ap (λ (l : List ℕ). s ∷ l) c.all;
  sound = rw (append_assoc before (s ∷ []) (c.earlier ++ (c.symbol ∷ []))) at c.sound;
  from = omega (arith, c.from);
}

any_from : (k : ℕ) (before ts : List ℕ) → Completed (suc k) before ts → Completed k before ts
any_from k before ts c = record {
  earlier = c.earlier;
  symbol = c.symbol;
  later = c.later;
  all = c.all;
  sound = c.sound;
  from = omega (arith, c.from);
}

some_completed : (k : ℕ) (before ts : List ℕ) → some (drop k (completions before ts)) ≡ true → Completed k before ts
unfolding some
some_completed zero before [] h = absurd (false≢true h)
some_completed (suc k) before [] h = absurd (false≢true h)
some_completed zero before (s ∷ ts) h =
    or_cases (acceptable (last_twelve (before ++ (s ∷ [])))) (some (completions (before ++ (s ∷ [])) ts))
    (λ t. record { earlier = []; symbol = s; later = ts; all = refl; sound = t; from = omega arith })
    (λ t. any_from zero before (s ∷ ts) (further zero s before ts (some_completed zero (before ++ (s ∷ [])) ts t)))
    h
some_completed (suc k) before (s ∷ ts) h = further k s before ts (some_completed k (before ++ (s ∷ [])) ts h)

completed_some : (k : ℕ) (before x : List ℕ) (s : ℕ) (later : List ℕ) → k ≤ length x
    → acceptable (last_twelve (before ++ (x ++ (s ∷ [])))) ≡ true
    → some (drop k (completions before (x ++ (s ∷ later)))) ≡ true
unfolding some
completed_some zero before [] s later h a = rw a
completed_some (suc k) before [] s later h a = absurd (omega arith)
completed_some zero before (y ∷ x) s later h a =
    rw (completed_some zero (before ++ (y ∷ [])) x s later (omega arith)
    (rw (append_assoc before (y ∷ []) (x ++ (s ∷ []))) a))
    (or-true (acceptable (last_twelve (before ++ (y ∷ [])))))
completed_some (suc k) before (y ∷ x) s later h a =
    completed_some k (before ++ (y ∷ [])) x s later (omega arith)
    (rw (append_assoc before (y ∷ []) (x ++ (s ∷ []))) a)

-- the last one of a list, and those before it
last_one : (n : ℕ) (l : List ℕ) → length l ≡ suc n → l ≡ take n l ++ (get_or l n 0 ∷ [])
last_one n l h = sym (take_all (suc n) l (omega arith)) ∙ take-suc l n 0 (omega arith)

-- the twelve that such a symbol completes
module _ (ts : List ℕ) where
  abbrev start : ℕ
  start = length ts - 768

  to_frame : Completed start [] ts → FrameWithin 768 ts
  unfolding last_twelve
  to_frame c =
      let taken = c.earlier ++ (c.symbol ∷ []) in
      let first = length taken - 12 in
      let split : taken ≡ take first taken ++ drop first taken = sym (take-append-drop first taken) in
      let long = ap length c.all ∙ length-append c.earlier (c.symbol ∷ c.later) in
      record {
        before = take first taken;
        frame = drop first taken;
        later = c.later;
        all =
            c.all
            ∙ (sym (append_assoc c.earlier (c.symbol ∷ []) c.later)
            ∙ (ap (λ (l : List ℕ). l ++ c.later) split
            ∙ append_assoc (take first taken) (drop first taken) c.later));
        sound = c.sound;
        recent = omega (arith, c.from, long);
      }

  of_frame : FrameWithin 768 ts → Completed start [] ts
  of_frame f =
      let twelve = (acceptable_sound f.frame f.sound).0 in
      let eleven = take 11 f.frame in
      let last = last_one 11 f.frame twelve in
      let long =
      ap length f.all
      ∙ (length-append f.before (f.frame ++ f.later)
      ∙ ap (λ (n : ℕ). length f.before + n) (length-append f.frame f.later)) in
      record {
        earlier = f.before ++ eleven;
        symbol = get_or f.frame 11 0;
        later = f.later;
        all =
            f.all
            ∙ (ap (λ (l : List ℕ). f.before ++ (l ++ f.later)) last
            ∙ (ap (λ (l : List ℕ). f.before ++ l) (append_assoc eleven (get_or f.frame 11 0 ∷ []) f.later)
            ∙ sym (append_assoc f.before eleven (get_or f.frame 11 0 ∷ f.later))));
        sound =
            rw (
              append_assoc f.before eleven (get_or f.frame 11 0 ∷ []),
              sym last,
              last_at f.before f.frame twelve,
            ) f.sound;
        from =
            rw (length-append f.before eleven, length-take-le 11 f.frame (omega arith))
            (omega (arith, f.recent, long, twelve));
      }

pub reached_frame : (cs : List Call) → (present_of (reached cs) ≡ true) ↔ FrameWithin 768 (takes cs)
unfolding reached
reached_frame cs =
    let ts = takes cs in
    let same : present_of (reached cs) ≡ some (drop (length ts - 768) (completions [] ts)) =
    absent_present cs reset_of reset_good refl
    ∙ (ap (λ (l : List Bool). some (last_of 768 l)) (acceptances_are cs)
    ∙ ap (λ (n : ℕ). some (drop (n - 768) (completions [] ts))) (completions_length [] ts)) in (
      λ h. to_frame ts (some_completed (length ts - 768) [] ts (sym same ∙ h)),
      λ f.
          let c = of_frame ts f in
          same
          ∙ (ap (λ (l : List ℕ). some (drop (length ts - 768) (completions [] l))) c.all
          ∙ completed_some (length ts - 768) [] c.earlier c.symbol c.later c.from c.sound),
    )

-- One same symbol

steady_part : (s : ℕ) (a b : List ℕ) → Steady s (a ++ b) → Steady s a × Steady s b
steady_part s [] b h = (tt, h)
steady_part s (x ∷ a) b h = let r = steady_part s a b h.1 in ((h.0, r.0), r.1)

same_one : {s t : ℕ} → (t ≡ s) ⊎ (marked t ≡ true) → marked t ≡ false → t ≡ s
same_one (inl e) h = e
same_one (inr m) h = absurd (true≢false (sym m ∙ h))

-- a frame's first two symbols have unlike parities
unlike : (s : ℕ) (l : List ℕ) → Steady s l → acceptable l ≡ true → ⊥
unlike s [] h a = let twelve : ◌≡◌ {A = ℕ} 0 12 = (acceptable_sound [] a).0 in omega arith
unlike s (x ∷ []) h a = let twelve : ◌≡◌ {A = ℕ} 1 12 = (acceptable_sound (x ∷ []) a).0 in omega arith
unlike s (x ∷ y ∷ l) h a =
    let f = (acceptable_sound (x ∷ y ∷ l) a).1 in
    let first = same_one h.0 f.0 in
    let second = same_one h.1.0 f.2.0 in
    true≢false (sym f.1 ∙ (ap even (first ∙ sym second) ∙ f.2.1))

pub steady_absent : (s : ℕ) (cs : List Call) → Steady s (takes cs) → present_of (reached cs) ≡ false
steady_absent s cs h = no_if (present_of (reached cs)) (λ t. none ((reached_frame cs).0 t))
  where
    none : FrameWithin 768 (takes cs) → ⊥
    none f =
        let all = subst (Steady s) f.all h in
        let rest = (steady_part s f.before (f.frame ++ f.later) all).1 in
        unlike s f.frame (steady_part s f.frame f.later rest).0 f.sound
