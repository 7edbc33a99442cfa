-- What is counted.
--   take_tallies     take changes the counts by the reason that it gives, whatever end and symbol come in
--   calls_counts     after any calls each count has as many more as reasons of its kind were given, or is 65,535
--   reached_counts   the same from reset, where each count is 0
--   reached_accepted  frames counted as accepted are those that step 3 of taking accepted
-- Assumes nothing.
use Prim.Native.Nat.{ℕ, ◌+◌, ◌≤◌, ◌<◌}
use mathlib.Core.Bool.{Bool, true, false, cond}
use mathlib.Core.List.{List, [], ◌∷◌, ◌++◌}
use mathlib.Core.Path.{◌≡◌, refl, sym, ap, ◌∙◌}
use native.Mathlib.Nat.{add-zero, add_assoc}
use native.Mathlib.Omega.{arith}
use lib.Dec.{leb, ltb}
use lib.ListN.{get_or}
use borrow.Author.Tests.{ltb-true, ltb-false, lt-ltb, le-ltb, leb-false}
use Rattle.frame.specs.declared.reason.Reason.{Reason}
use Rattle.frame.specs.declared.reason.Reason.TheVariants.{Nothing, Accepted, Crc, Marked, Parity}
use Rattle.frame.specs.Reason.{is_accepted}
use Rattle.receiver.specs.declared.Counts.{Counts}
use Rattle.end.specs.declared.End.{End}
use Rattle.receiver.specs.Counting.{no_counts, most, more, tallied, listed}
use Rattle.laws.specs.Above.{above}
use Rattle.end.specs.Good.{bad, reset_of}
use Rattle.end.specs.Taking.{took_of, taken, take_of}
use Rattle.answer.specs.declared.Answer.TheVariants.{BadEnd, BadSymbol}
use Rattle.end.specs.Calls.{Call, after, calls, reached}
use Rattle.endlaws.specs.Counted.{is_crc, is_marked, is_early, how_many, times, up_to, grown}
use Rattle.endlaws.specs.Reasons.{reasons_of, reasons}
use Rattle.end.specs.Shape.{Shaped}
use Rattle.endlaws.specs.Taken.{acceptances}
use Rattle.laws.proofs.AboveLaws.{above_get_d}
use Rattle.endlaws.proofs.Left.{send_leaves, read_leaves, write_leaves, health_leaves}
use Rattle.endlaws.proofs.Reasons.{acceptances_reasons}
use Rattle.end.proofs.Guards.{reset_shaped}
use Rattle.endlaws.proofs.Shapes.{after_shaped}

-- Stopping

stays : (m n : ℕ) → n ≤ m → up_to m n ≡ n
stays m n h = rw (le-ltb m n h)

stops : (m n : ℕ) → m ≤ n → up_to m n ≡ m
stops m n h = go (ltb m n) refl
  where
    go : (b : Bool) → ltb m n ≡ b → cond b m n ≡ m
    go true e = refl
    go false e = omega (arith, ltb-false m n e)

-- to stop on the way is to stop at the end
on_the_way : (m a b : ℕ) → up_to m (up_to m a + b) ≡ up_to m (a + b)
on_the_way m a b = go (ltb m a) refl
  where
    go : (t : Bool) → ltb m a ≡ t → up_to m (cond t m a + b) ≡ up_to m (a + b)
    go true e =
        let k = ltb-true m a e in
        stops m (m + b) (omega arith) ∙ sym (stops m (a + b) (omega arith))
    go false e = refl

-- one more is one more or none
more_up : (n : ℕ) → n ≤ most → up_to most (n + 1) ≡ more n
more_up n h = go (ltb n most) refl
  where
    go : (b : Bool) → ltb n most ≡ b → up_to most (n + 1) ≡ cond b (n + 1) n
    go true e = let k = ltb-true n most e in stays most (n + 1) (omega arith)
    go false e =
        let k = ltb-false n most e in
        let all : most ≡ n = omega arith in
        stops most (n + 1) (omega arith) ∙ all

-- Reasons one behind the other

times_append : (p : Reason → Bool) (a b : List Reason) → times p (a ++ b) ≡ times p a + times p b
unfolding how_many
times_append p [] b = omega arith
times_append p (r ∷ a) b =
    ap (λ (k : ℕ). cond (p r) 1 0 + k) (times_append p a b) ∙ sym (add_assoc (cond (p r) 1 0) (times p a) (times p b))

field_append : (x : ℕ) (p : Reason → Bool) (a b : List Reason)
    → up_to most (up_to most (x + times p a) + times p b) ≡ up_to most (x + times p (a ++ b))
field_append x p a b =
    on_the_way most (x + times p a) (times p b)
    ∙ ap (up_to most) (add_assoc x (times p a) (times p b) ∙ ap (λ (k : ℕ). x + k) (sym (times_append p a b)))

grown_append : (k : Counts) (a b : List Reason) → grown (grown k a) b ≡ grown k (a ++ b)
grown_append k a b =
    rw (
      field_append k.accepted is_accepted a b,
      field_append k.crc is_crc a b,
      field_append k.marked is_marked a b,
      field_append k.early is_early a b,
    )

abbrev Counted : Counts → Type 0
Counted k = above most (listed k) ≡ false

-- a count of which there is no more stays, one of which there is one more is one more
module _ (k : Counts) (h : Counted k) where
  within : (i : ℕ) → get_or (listed k) i 0 ≤ most
  within i = above_get_d most (listed k) i h

  kept : (n : ℕ) → n ≤ most → up_to most (n + 0) ≡ n
  kept n b = ap (up_to most) (add-zero n) ∙ stays most n b

  grown_none : grown k [] ≡ k
  unfolding how_many
  grown_none =
      rw (
        kept k.accepted (within 0),
        kept k.crc (within 1),
        kept k.marked (within 2),
        kept k.early (within 3),
      )

  grown_one : (r : Reason) → grown k (r ∷ []) ≡ tallied r k
  unfolding how_many tallied
  grown_one Nothing =
      rw (
        kept k.accepted (within 0),
        kept k.crc (within 1),
        kept k.marked (within 2),
        kept k.early (within 3),
      )
  grown_one Accepted =
      rw (
        more_up k.accepted (within 0),
        kept k.crc (within 1),
        kept k.marked (within 2),
        kept k.early (within 3),
      )
  grown_one Crc =
      rw (
        kept k.accepted (within 0),
        more_up k.crc (within 1),
        kept k.marked (within 2),
        kept k.early (within 3),
      )
  grown_one (Marked n) =
      rw (
        kept k.accepted (within 0),
        kept k.crc (within 1),
        more_up k.marked (within 2),
        kept k.early (within 3),
      )
  grown_one (Parity n) =
      rw (
        kept k.accepted (within 0),
        kept k.crc (within 1),
        kept k.marked (within 2),
        more_up k.early (within 3),
      )

-- A call

pub take_tallies : (e : End) (s : ℕ) → (take_of e s).end.counts ≡ tallied (take_of e s).reason e.counts
unfolding take_of taken tallied
take_tallies e s = go (bad e) (ltb 1023 s)
  where
    go : (b t : Bool)
        → (cond b (record { answer = BadEnd; reason = Nothing; end = e })
        (cond t (record { answer = BadSymbol; reason = Nothing; end = e }) (took_of s e))).end.counts
        ≡ tallied
        (cond b (record { answer = BadEnd; reason = Nothing; end = e })
        (cond t (record { answer = BadSymbol; reason = Nothing; end = e }) (took_of s e))).reason
        e.counts
    go true t = refl
    go false true = refl
    go false false = refl

above_silent : (e : End) (s : ℕ) → 1023 < s → (take_of e s).reason ≡ Nothing
unfolding take_of
above_silent e s h = go (bad e)
  where
    go : (b : Bool)
        → (cond b (record { answer = BadEnd; reason = Nothing; end = e })
        (cond (ltb 1023 s) (record { answer = BadSymbol; reason = Nothing; end = e }) (took_of s e))).reason
        ≡ Nothing
    go true = refl
    go false = rw (lt-ltb 1023 s h)

take_counts : (e : End) (s : ℕ) (h : Counted e.counts) → (b : Bool) → leb s 1023 ≡ b
    → (take_of e s).end.counts ≡ grown e.counts (cond b ((take_of e s).reason ∷ []) [])
unfolding tallied
take_counts e s h true k = take_tallies e s ∙ sym (grown_one e.counts h (take_of e s).reason)
take_counts e s h false k =
    take_tallies e s
    ∙ (ap (λ (r : Reason). tallied r e.counts) (above_silent e s (leb-false s 1023 k))
    ∙ sym (grown_none e.counts h))

after_counts : (c : Call) (e : End) → Counted e.counts
    → (after c e).counts ≡ grown e.counts (reasons_of c e)
after_counts Call.send e h = (send_leaves e).counts ∙ sym (grown_none e.counts h)
after_counts (Call.take s) e h = take_counts e s h (leb s 1023) refl
after_counts (Call.read r) e h = (read_leaves e r).counts ∙ sym (grown_none e.counts h)
after_counts (Call.write r v k) e h = (write_leaves e r v).counts ∙ sym (grown_none e.counts h)
after_counts (Call.health x) e h = (health_leaves e x).counts ∙ sym (grown_none e.counts h)
after_counts Call.present e h = sym (grown_none e.counts h)

-- Calls

pub calls_counts : (cs : List Call) (e : End) → Shaped e → (calls cs e).counts ≡ grown e.counts (reasons cs e)
unfolding calls reasons
calls_counts [] e h = sym (grown_none e.counts h.counts)
calls_counts (c ∷ cs) e h =
    calls_counts cs (after c e) (after_shaped c e h)
    ∙ (ap (λ (k : Counts). grown k (reasons cs (after c e))) (after_counts c e h.counts)
    ∙ grown_append e.counts (reasons_of c e) (reasons cs (after c e)))

pub reached_counts : (cs : List Call) → (reached cs).counts ≡ grown no_counts (reasons cs reset_of)
unfolding reached
reached_counts cs = calls_counts cs reset_of reset_shaped

-- Frames accepted

pub reached_accepted : (cs : List Call) → (reached cs).counts.accepted ≡ up_to 65535 (how_many (acceptances cs reset_of))
reached_accepted cs =
    ap (λ (k : Counts). k.accepted) (reached_counts cs)
    ∙ ap (up_to 65535) (none (times is_accepted (reasons cs reset_of)) ∙ ap how_many (sym (acceptances_reasons cs reset_of)))
  where
    none : (n : ℕ) → 0 + n ≡ n
    none n = omega arith
