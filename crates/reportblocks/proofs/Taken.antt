-- A taking host and any messages: what it hands over, and how it stands after them.
--   exactly       the blocks handed over are the stretches of sixteen messages in turn
--   after_append, given_append   messages behind messages
--   part_stated   the part block after any messages
-- Assumes nothing.
use Prim.Native.Nat.{ℕ, zero, suc, ◌+◌, ◌-◌, ◌*◌, ◌≤◌, ◌<◌}
use mathlib.Core.Bool.{true, false, false≢true}
use mathlib.Core.List.{List, [], ◌∷◌, ◌++◌, append_assoc, append-nil}
use mathlib.Core.Path.{◌≡◌, refl, sym, ap, ◌∙◌}
use native.Mathlib.Omega.{arith}
use lib.Dec.{eqb}
use lib.ListN.{length, drop, replicate, length-append}
use lib.Seq.{take_at, drop-append-add}
use borrow.Author.Tests.{eq-eqb, eqb-true, eqb-false, ltb-true, lt-ltb}
use Rattle.laws.proofs.Bools.{either, and_both, and-true}
use Rattle.end.specs.Message.{Message}
use Rattle.report.specs.declared.TakingHost.{TakingHost}
use Rattle.report.specs.declared.Take.TheVariants.{Part, Out, Whole}
use Rattle.report.specs.declared.Taken.{Taken}
use Rattle.report.specs.Taking.{zeros, filled_of, in_turn, fresh_taking, take_of}
use Rattle.reportblocks.specs.Blocks.{Eight, handed_over, given_by, host_after, in_turn_from, joined, stretches}
use Rattle.reportblocks.specs.Carried.{Exactly, PartStated}
use Rattle.reportblocks.proofs.Stretches.{turn_cons, turn_snoc, short, skip, stretch_first, stretch_broken, joined_append}

-- What a message can be: in turn, in turn and the last, a 0 out of turn, another one out of turn

module _ (h : TakingHost) (n : ℕ) (m : List ℕ) (P : Taken → Type 0) where
  taken_cases : (n < 15 → h.turn ≡ n
      → P (record { what = Part n; block = zeros; host = record { block = filled_of h.block n m; turn = n + 1 } }))
      → (n ≡ 15 → h.turn ≡ 15 → P (record { what = Whole; block = filled_of h.block n m; host = fresh_taking }))
      → (in_turn h.turn n ≡ false → n ≡ 0
      → P (record { what = Part 0; block = zeros; host = record { block = filled_of zeros 0 m; turn = 1 } }))
      → (in_turn h.turn n ≡ false → ¬ (n ≡ 0)
      → P (record { what = Out n; block = zeros; host = fresh_taking }))
      → P (take_of h n m)
  unfolding take_of
  taken_cases part whole start out =
      either P (in_turn h.turn n) _ _
      (λ t.
      let b = and_both _ _ t in
      let s = ltb-true n 16 b.0 in
      let e = eqb-true n h.turn b.1 in
      either P (eqb n 15) _ _
      (λ l. let i = eqb-true n 15 l in whole i (omega arith))
      (λ l. let i = eqb-false n 15 l in part (omega arith) (omega arith)))
      (λ t. either P (eqb n 0) _ _ (λ z. start t (eqb-true n 0 z)) (λ z. out t (eqb-false n 0 z)))

-- The host's turn and part block are those of some last messages

record At (h : TakingHost) (last : List Message) : Type 0 where
  count : length last ≡ h.turn
  numbers : in_turn_from 0 h.turn last ≡ true
  few : h.turn ≤ 15
  part : h.block ≡ joined last ++ replicate (128 - 8 * h.turn) 0
  eight : length (joined last) ≡ 8 * h.turn

at_fresh : At fresh_taking []
unfolding in_turn_from joined
at_fresh = record { count = refl; numbers = refl; few = omega arith; part = refl; eight = refl }

drop_replicate : (k n : ℕ) → drop k (replicate (k + n) 0) ≡ replicate {A = ℕ} n 0
drop_replicate zero n = let e : 0 + n ≡ n = omega arith in ap (λ (k : ℕ). replicate k 0) e
drop_replicate (suc k) n =
    let e : suc k + n ≡ suc (k + n) = omega arith in
    ap (λ (i : ℕ). drop (suc k) (replicate i 0)) e ∙ drop_replicate k n

-- one more part behind those that stand in the block
filled_more : (j m : List ℕ) (b : List ℕ) (t : ℕ) → t ≤ 15 → length j ≡ 8 * t → b ≡ j ++ replicate (128 - 8 * t) 0
    → filled_of b t m ≡ (j ++ m) ++ replicate (128 - 8 * (t + 1)) 0
filled_more j m b t s e h =
    rw h
    (ap (λ (x : List ℕ). x ++ (m ++ drop (8 * t + 8) (j ++ replicate (128 - 8 * t) 0))) (take_at j _ (8 * t) e)
    ∙ (ap (λ (x : List ℕ). j ++ (m ++ x)) behind ∙ sym (append_assoc j m _)))
  where
    left : 128 - 8 * t ≡ 8 + (128 - 8 * (t + 1))
    left = omega arith

    place : 8 * t + 8 ≡ length j + 8
    place = omega arith

    behind : drop (8 * t + 8) (j ++ replicate (128 - 8 * t) 0) ≡ replicate (128 - 8 * (t + 1)) 0
    behind =
        ap (λ (k : ℕ). drop k (j ++ replicate (128 - 8 * t) 0)) place
        ∙ (drop-append-add j (replicate (128 - 8 * t) 0) 8
        ∙ (ap (λ (k : ℕ). drop 8 (replicate k 0)) left ∙ drop_replicate 8 (128 - 8 * (t + 1))))

joined_snoc : (l : List Message) (m : Message) → joined (l ++ (m ∷ [])) ≡ joined l ++ m.bytes
unfolding joined
joined_snoc l m = joined_append l (m ∷ []) ∙ ap (λ (x : List ℕ). joined l ++ x) (append-nil m.bytes)

module _ (h : TakingHost) (last : List Message) (a : At h last) (m : Message) (e : length m.bytes ≡ 8) where
  -- the block with one more message in it
  more : m.number ≡ h.turn
      → filled_of h.block m.number m.bytes
      ≡ joined (last ++ (m ∷ [])) ++ replicate (128 - 8 * (m.number + 1)) 0
  more q =
      ap (λ (n : ℕ). filled_of h.block n m.bytes) q
      ∙ (filled_more (joined last) m.bytes h.block h.turn a.few a.eight a.part
      ∙ (ap (λ (x : List ℕ). x ++ replicate (128 - 8 * (h.turn + 1)) 0) (sym (joined_snoc last m))
      ∙ ap (λ (n : ℕ). joined (last ++ (m ∷ [])) ++ replicate (128 - 8 * (n + 1)) 0) (sym q)))

  snoc_length : length (last ++ (m ∷ [])) ≡ h.turn + 1
  snoc_length = length-append last (m ∷ []) ∙ ap (λ (k : ℕ). k + 1) a.count

  snoc_eight : length (joined (last ++ (m ∷ []))) ≡ 8 * (h.turn + 1)
  snoc_eight =
      let i = a.eight in
      ap length (joined_snoc last m) ∙ (length-append (joined last) m.bytes ∙ sums _ _ _ a.eight e)
    where
      sums : (x y t : ℕ) → x ≡ 8 * t → y ≡ 8 → x + y ≡ 8 * (t + 1)
      sums x y t p q = omega arith

  at_more : m.number ≡ h.turn → m.number < 15
      → At (record { block = filled_of h.block m.number m.bytes; turn = m.number + 1 }) (last ++ (m ∷ []))
  at_more q s = record {
    count = snoc_length ∙ ap (λ (k : ℕ). k + 1) (sym q);
    numbers = ap (λ (k : ℕ). in_turn_from 0 k (last ++ (m ∷ []))) next ∙ turned;
    few = omega arith;
    part = more q;
    eight = snoc_eight ∙ ap (λ (k : ℕ). 8 * (k + 1)) (sym q);
  }
    where
      next : m.number + 1 ≡ suc h.turn
      next = omega arith

      turned : in_turn_from 0 (suc h.turn) (last ++ (m ∷ [])) ≡ true
      turned = turn_snoc h.turn 0 last m a.count a.numbers (omega arith)

  -- sixteen in turn are a stretch, and the block that is handed over has its bytes
  whole : m.number ≡ 15 → h.turn ≡ 15 → (r : List Message)
      → filled_of h.block m.number m.bytes ∷ stretches r ≡ stretches (last ++ (m ∷ r))
  whole n t r =
      ap (λ (b : List ℕ). b ∷ stretches r) (more (n ∙ sym t) ∙ none_left)
      ∙ (sym (stretch_first (last ++ (m ∷ [])) r (snoc_length ∙ ap (λ (k : ℕ). k + 1) t) turned)
      ∙ ap stretches (append_assoc last (m ∷ []) r))
    where
      none_left : joined (last ++ (m ∷ [])) ++ replicate (128 - 8 * (m.number + 1)) 0 ≡ joined (last ++ (m ∷ []))
      none_left =
          let z : 128 - 8 * (m.number + 1) ≡ 0 = omega arith in
          ap (λ (k : ℕ). joined (last ++ (m ∷ [])) ++ replicate k 0) z ∙ append-nil _

      turned : in_turn_from 0 16 (last ++ (m ∷ [])) ≡ true
      turned =
          turn_snoc 15 0 last m (a.count ∙ t) (ap (λ (k : ℕ). in_turn_from 0 k last) (sym t) ∙ a.numbers) (omega arith)

  -- out of turn, under a turn of at most 15
  other : in_turn h.turn m.number ≡ false → ¬ (m.number ≡ h.turn)
  other f q =
      let s = a.few in
      false≢true
      (sym f ∙ and-true _ _ (lt-ltb m.number 16 (omega arith)) (eq-eqb m.number h.turn q))

  broken : in_turn h.turn m.number ≡ false → (r : List Message)
      → stretches (last ++ (m ∷ r)) ≡ stretches (m ∷ r)
  broken f r = stretch_broken h.turn last m r a.count a.few a.numbers (other f)

-- a 0 out of turn is the first of the next block
at_start : (m : Message) → length m.bytes ≡ 8 → m.number ≡ 0
    → At (record { block = filled_of zeros 0 m.bytes; turn = 1 }) (m ∷ [])
unfolding in_turn_from joined
at_start m e q = record {
  count = refl;
  numbers = and-true _ _ (eq-eqb m.number 0 q) refl;
  few = omega arith;
  part = ap (λ (x : List ℕ). x ++ replicate 120 0) (sym (append-nil m.bytes));
  eight = ap length (append-nil m.bytes) ∙ e;
}

given : (ms : List Message) (h : TakingHost) (last : List Message) → At h last → Eight ms
    → given_by h ms ≡ stretches (last ++ ms)
unfolding given_by
given [] h last a e =
    sym
    (short (last ++ []) (few (ap length (append-nil last) ∙ a.count) a.few))
  where
    few : {n t : ℕ} → n ≡ t → t ≤ 15 → n < 16
    few p q = omega arith
given (m ∷ ms) h last a e =
    taken_cases h m.number m.bytes
    (λ (t : Taken). handed_over t.what t.block ++ given_by t.host ms ≡ stretches (last ++ (m ∷ ms)))
    (λ s q.
    given ms _ _ (at_more h last a m e.0 (sym q) s) e.1 ∙ ap stretches (append_assoc last (m ∷ []) ms))
    (λ n t.
    ap (λ (x : List (List ℕ)). filled_of h.block m.number m.bytes ∷ x) (given ms fresh_taking [] at_fresh e.1)
    ∙ whole h last a m e.0 n t ms)
    (λ f z. given ms _ _ (at_start m e.0 z) e.1 ∙ sym (broken h last a m e.0 f ms))
    (λ f z.
    given ms fresh_taking [] at_fresh e.1
    ∙ sym (broken h last a m e.0 f ms ∙ skip m ms z))

pub exactly : Exactly
exactly ms e = given ms fresh_taking [] at_fresh e

-- How the host stands

record Ends (h : TakingHost) (ms : List Message) : Type 0 where
  older : List Message
  last : List Message
  whole : ms ≡ older ++ last
  at : At h last

ends : (ms older : List Message) (h : TakingHost) (last : List Message) → At h last → Eight ms
    → Ends (host_after h ms) (older ++ (last ++ ms))
unfolding host_after
ends [] older h last a e =
    record { older = older; last = last; whole = ap (λ (x : List Message). older ++ x) (append-nil last); at = a }
ends (m ∷ ms) older h last a e =
    taken_cases h m.number m.bytes
    (λ (t : Taken). Ends (host_after t.host ms) (older ++ (last ++ (m ∷ ms))))
    (λ s q.
    moved (ap (λ (x : List Message). older ++ x) (append_assoc last (m ∷ []) ms))
    (ends ms older _ _ (at_more h last a m e.0 (sym q) s) e.1))
    (λ _ _. moved again (ends ms (older ++ (last ++ (m ∷ []))) fresh_taking [] at_fresh e.1))
    (λ _ z. moved (append_assoc older last (m ∷ ms)) (ends ms (older ++ last) _ _ (at_start m e.0 z) e.1))
    (λ _ _. moved again (ends ms (older ++ (last ++ (m ∷ []))) fresh_taking [] at_fresh e.1))
  where
    moved : {g : TakingHost} {x y : List Message} → x ≡ y → Ends g x → Ends g y
    moved p r = record { older = r.older; last = r.last; whole = sym p ∙ r.whole; at = r.at }

    again : (older ++ (last ++ (m ∷ []))) ++ ms ≡ older ++ (last ++ (m ∷ ms))
    again =
        append_assoc older (last ++ (m ∷ [])) ms
        ∙ ap (λ (x : List Message). older ++ x) (append_assoc last (m ∷ []) ms)

pub after_append : (a b : List Message) (h : TakingHost) → host_after h (a ++ b) ≡ host_after (host_after h a) b
unfolding host_after
after_append [] b h = refl
after_append (m ∷ a) b h = after_append a b (take_of h m.number m.bytes).host

pub given_append : (a b : List Message) (h : TakingHost)
    → given_by h (a ++ b) ≡ given_by h a ++ given_by (host_after h a) b
unfolding given_by host_after
given_append [] b h = refl
given_append (m ∷ a) b h =
    let t = take_of h m.number m.bytes in
    ap (λ (x : List (List ℕ)). handed_over t.what t.block ++ x) (given_append a b t.host)
    ∙ sym (append_assoc (handed_over t.what t.block) _ _)

-- a 0 starts, whatever came before
starts : (h : TakingHost) (m : List ℕ) → (take_of h 0 m).host.turn ≡ 1
starts h m =
    taken_cases h 0 m (λ (t : Taken). t.host.turn ≡ 1)
    (λ _ _. refl) (λ n _. absurd (omega arith)) (λ _ _. refl) (λ _ n. absurd (n refl))

goes_on : (h : TakingHost) (n : ℕ) (m : List ℕ) → h.turn ≡ n → n < 15 → (take_of h n m).host.turn ≡ n + 1
goes_on h n m q s =
    taken_cases h n m (λ (t : Taken). t.host.turn ≡ n + 1)
    (λ _ _. refl) (λ l _. absurd (omega arith))
    (λ f _. absurd (in_turn_lem f)) (λ f _. absurd (in_turn_lem f))
  where
    in_turn_lem : in_turn h.turn n ≡ false → ⊥
    in_turn_lem f =
        false≢true (sym f ∙ and-true _ _ (lt-ltb n 16 (omega arith)) (eq-eqb n h.turn (sym q)))

runs : (n k : ℕ) (b : List Message) (h : TakingHost) → h.turn ≡ k → length b ≡ n → in_turn_from k n b ≡ true → k + n ≤ 15
    → (host_after h b).turn ≡ k + n
unfolding host_after
runs zero k [] h t e i s = t ∙ omega arith
runs zero k (m ∷ b) h t e i s = absurd (omega arith)
runs (suc n) k [] h t e i s = absurd (omega arith)
runs (suc n) k (m ∷ b) h t e i s =
    let c = turn_cons n k m b i in
    let q = c.0 in
    runs n (suc k) b _ (goes_on h m.number m.bytes (omega arith) (omega arith) ∙ omega arith) (omega arith) c.1
    (omega arith)
    ∙ omega arith

restarts : (b : List Message) (h : TakingHost) → 1 ≤ length b → length b ≤ 15 → in_turn_from 0 (length b) b ≡ true
    → (host_after h b).turn ≡ length b
unfolding host_after
restarts [] h l s i = absurd (omega arith)
restarts (m ∷ b) h l s i =
    let c = turn_cons (length b) 0 m b i in
    let one : (take_of h m.number m.bytes).host.turn ≡ 1 =
    ap (λ (n : ℕ). (take_of h n m.bytes).host.turn) c.0 ∙ starts h m.bytes in
    runs (length b) 1 b _ one refl c.1 (omega arith) ∙ omega arith

pub part_stated : PartStated
part_stated ms e =
    let r = ends ms [] fresh_taking [] at_fresh e in
    record {
      older = r.older;
      last = r.last;
      whole = r.whole;
      count = r.at.count;
      numbers = r.at.numbers;
      few = r.at.few;
      part = r.at.part;
      no_more = λ a b w l s i.
          ap (λ (x : List Message). (host_after fresh_taking x).turn) w
          ∙ (ap (λ (h : TakingHost). h.turn) (after_append a b fresh_taking) ∙ restarts b (host_after fresh_taking a) l s i);
    }
