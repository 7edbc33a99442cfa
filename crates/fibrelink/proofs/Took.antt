-- What the host that takes has read, by the rule.
--   Took s         what entered is what it has taken and what stands in the receive words; and where it is in the
--                  middle of a take, what it has so far is the beginning of that message
--   sends_took, takes-took, reads_took, writes_took   each step keeps it, its reads by the rule
--   run_took       so it is after every run by the rule
-- Assumes nothing.
use Prim.Native.Nat.{ℕ, zero, suc, ◌+◌, ◌-◌, ◌%◌, ◌≤◌, ◌<◌}
use mathlib.Core.Bool.{Bool, true, false, not, cond, ◌&&◌, ◌||◌, false≢true, true≢false}
use mathlib.Core.List.{List, [], ◌∷◌, ◌++◌, map, append-nil}
use mathlib.Core.Path.{◌≡◌, refl, sym, ap, ap₂, subst, ◌∙◌}
use native.Mathlib.Omega.{arith}
use lib.Dec.{eqb}
use lib.ListN.{length, get_or, take}
use lib.Seq.{take-suc, take_all}
use borrow.Author.Tests.{le-leb, eq-eqb, eqb-true, eqb-false, ne_eqb, le-ltb}
use Rattle.fibre.specs.declared.Block.{Block}
use Rattle.fibre.specs.declared.End.{End}
use Rattle.fibre.specs.declared.Read.{Read}
use Rattle.fibre.specs.Good.{bad}
use Rattle.fibre.specs.Sending.{loads}
use Rattle.fibre.specs.Taking.{enters}
use Rattle.fibre.specs.Calls.{Call}
use Rattle.fibrelaws.proofs.Reached.{after_good}
use Rattle.fibre.specs.Words.{outside, status, value_of, emptied, read_of}
use Rattle.fibre.proofs.WordLaws.{read_done, read_received}
use Rattle.joined.specs.Joined.{Direction, a_to_b, b_to_a, far, due, slot, at_a, at_b, run_by, every, also, within, bit15}
use Rattle.joined.specs.Joined.{may_read, advance_of, did_read_of, ruled_by}
use Rattle.laws.proofs.Bools.{and_both, and-true, or_cases, cond_false, same_bool}
use Rattle.answer.specs.declared.Answer.TheVariants.{Done, NoRegister}
use Rattle.fibrelink.specs.Link.{Message, message_in, message_of, Host, Side, World, reset_side, reset_world, sends}
use Rattle.fibrelink.specs.Link.{gathered, Access, read, write, ruled_call, hosted, with_host, differ, Harm, sound}
use Rattle.fibrelink.specs.Link.{spoilt, harmed, taking, takes_from, Event, step, run, ruled}
use Rattle.fibrelink.proofs.Flight.{All}
use Rattle.fibrelink.proofs.Shown.{word_nine}
use Rattle.fibrelink.proofs.Steps.{sends_as, took_as, takes_as, takes_spoilt, rises}
use Rattle.fibrelink.proofs.Shapes.{Sound, ShapedSide, BothShaped, reset_shaped, sends_shaped, all_due}
use Rattle.fibrelink.proofs.Shapes.{step_shaped}
use Rattle.fibrelink.proofs.Kept.Hosting.{write_keeps}
use Rattle.fibrelink.proofs.Kept.{Kept, reset_kept, step_kept}

-- the receive words, and what a host has of them
pub record TookOf (v : Bool) (m : Message) (entered taken : List Message) (stage : ℕ) (so_far : Message) : Type 0 where
  pub whole : entered ≡ taken ++ also v m []
  pub stages : stage ≤ 8
  pub full : 1 ≤ stage → v ≡ true
  pub control : 1 ≤ stage → so_far.control ≡ m.control
  pub words : 1 ≤ stage → so_far.words ≡ take (stage - 1) m.words

abbrev pub Took : Side → Type 0
Took s =
    TookOf s.end.receive.rxval (message_in s.end) s.log.entered s.host.taken s.host.stage
    s.host.so_far

-- a message enters where the receive words are empty, so that no take is under way
pub enters_took : {m : Message} {entered taken : List Message} {stage : ℕ} {so_far : Message} (k : Message)
    → TookOf false m entered taken stage so_far → TookOf true k (entered ++ (k ∷ [])) taken stage so_far
enters_took {m} {entered} {taken} {stage} {so_far} k t = record {
  whole = ap (λ (l : List Message). l ++ (k ∷ [])) (t.whole ∙ append-nil taken);
  stages = t.stages;
  full = λ h. refl;
  control = λ h. absurd (false≢true (t.full h));
  words = λ h. absurd (false≢true (t.full h));
}

-- Reading

-- a word that is none of the receive words
apart : (e : End) (r : ℕ) → bad e ≡ false → within 9 17 r ≡ false → (read_of e r).end ≡ e
unfolding read_of
apart e r g n =
    ap (λ (x : Read). x.end) (cond_false _ _ g)
    ∙ (ap (λ (l : Bool). (cond {A = Read} (outside r) (record { answer = NoRegister; value = 0; end = e })
    (record { answer = Done; value = value_of e r; end = emptied l e })).end) seventeen
    ∙ same (outside r))
  where
    seventeen : eqb r 17 ≡ false
    seventeen = ne_eqb r 17 (λ q. true≢false (sym (ap (within 9 17) q) ∙ n))

    same : (o : Bool)
        → (cond {A = Read} o (record { answer = NoRegister; value = 0; end = e })
        (record { answer = Done; value = value_of e r; end = e })).end
        ≡ e
    same true = refl
    same false = refl

-- word 9 begins a take where RXVAL is set
begins : (v b : Bool) {m : Message} {entered taken : List Message} {stage c : ℕ} {so_far : Message} → b ≡ v
    → c ≡ m.control → TookOf v m entered taken stage so_far
    → TookOf v m entered taken (cond b 1 0) (record { control = c; words = [] })
begins true true p q t = record {
  whole = t.whole;
  stages = omega arith;
  full = λ h. refl;
  control = λ h. q;
  words = λ h. refl;
}
begins true false p q t = absurd (false≢true p)
begins false true p q t = absurd (true≢false p)
begins false false p q t = record {
  whole = t.whole;
  stages = omega arith;
  full = λ h. absurd (omega (arith, h));
  control = λ h. absurd (omega (arith, h));
  words = λ h. absurd (omega (arith, h));
}

-- the next word: the last one completes the take, and RXVAL drops
goes_on : {v : Bool} {m : Message} {entered taken : List Message} (k : ℕ) {so_far : Message} (l : Bool) → k < 8
    → eqb k 7 ≡ l → length m.words ≡ 8 → TookOf v m entered taken (suc k) so_far
    → TookOf (cond (l && v) false v) m entered
    (also l (record { control = so_far.control; words = so_far.words ++ (get_or m.words k 0 ∷ []) }) taken)
    (cond l 0 (suc k + 1)) (record { control = so_far.control; words = so_far.words ++ (get_or m.words k 0 ∷ []) })
goes_on {v} {m} {entered} {taken} k {so_far} true h e n t =
    subst (λ (b : Bool). TookOf (cond b false b) m entered (taken ++ (now ∷ [])) 0 now) (sym filled)
    (record {
      whole =
          t.whole
          ∙ (ap (λ (b : Bool). taken ++ also b m []) filled
          ∙ (ap (λ (x : Message). taken ++ (x ∷ [])) (sym now_is) ∙ sym (append-nil (taken ++ (now ∷ [])))));
      stages = omega arith;
      full = λ z. absurd (omega (arith, z));
      control = λ z. absurd (omega (arith, z));
      words = λ z. absurd (omega (arith, z));
    })
  where
    now : Message
    now = record { control = so_far.control; words = so_far.words ++ (get_or m.words k 0 ∷ []) }

    filled : v ≡ true
    filled = t.full (omega arith)

    seven : k ≡ 7
    seven = eqb-true k 7 e

    words_are : now.words ≡ m.words
    words_are =
        ap (λ (l : List ℕ). l ++ (get_or m.words k 0 ∷ []))
        (t.words (omega arith) ∙ ap (λ (j : ℕ). take j m.words) less)
        ∙ (sym (take-suc m.words k 0 (omega (arith, h, n))) ∙ take_all (suc k) m.words (omega (arith, seven, n)))
      where
        less : suc k - 1 ≡ k
        less = omega arith

    now_is : now ≡ m
    now_is = ap₂ (λ (c : ℕ) (l : List ℕ). record { control = c; words = l }) (t.control (omega arith)) words_are
goes_on {v} {m} {entered} {taken} k {so_far} false h e n t = record {
  whole = t.whole;
  stages = omega (arith, h, eqb-false k 7 e);
  full = λ z. t.full (omega arith);
  control = λ z. t.control (omega arith);
  words = λ z.
      ap (λ (l : List ℕ). l ++ (get_or m.words k 0 ∷ []))
      (t.words (omega arith) ∙ ap (λ (j : ℕ). take j m.words) less)
      ∙ (sym (take-suc m.words k 0 (omega (arith, h, n))) ∙ ap (λ (j : ℕ). take j m.words) more);
}
  where
    less : suc k - 1 ≡ k
    less = omega arith

    more : suc k ≡ suc k + 1 - 1
    more = omega arith

-- the numbers of words 10 to 17, compared
record Compared (k : ℕ) : Type 0 where
  inside : within 9 17 (10 + k) ≡ true
  later : eqb (10 + k) 9 ≡ false
  last : eqb (10 + k) 17 ≡ eqb k 7

compared : (k : ℕ) → k < 8 → Compared k
compared k h = record {
  inside = and-true _ _ (le-leb 9 (10 + k) (omega arith)) (le-leb (10 + k) 17 (omega (arith, h)));
  later = ne_eqb (10 + k) 9 (λ q. absurd (omega (arith, q)));
  last =
      same_bool _ _ (λ p. eq-eqb k 7 (omega (arith, eqb-true (10 + k) 17 p)))
      (λ p. eq-eqb (10 + k) 17 (omega (arith, eqb-true k 7 p)));
}

-- a host with the next word
abbrev next_host : Bool → Bool → Bool → ℕ → Host → Host
next_host p q l v h = cond p (record {
  written = h.written;
  stage = cond q (cond (bit15 v) 1 0) (cond l 0 (h.stage + 1));
  so_far = record { control = cond q (v % 4096) h.so_far.control; words = cond q [] (h.so_far.words ++ (v ∷ [])) };
  accepted = h.accepted;
  taken =
      also l
      (record { control = cond q (v % 4096) h.so_far.control; words = cond q [] (h.so_far.words ++ (v ∷ [])) })
      h.taken;
}) h

next_is : (k v : ℕ) (h : Host) → Compared k → did_read_of 9 17 gathered (10 + k) v h ≡ next_host true false (eqb k 7) v h
next_is k v h c =
    ap (λ (p : Bool). next_host p (eqb (10 + k) 9) (eqb (10 + k) 17) v h) c.inside
    ∙ ap₂ (λ (q l : Bool). next_host true q l v h) c.later c.last

module _ (s : Side) (g : bad s.end ≡ false) (n : length s.end.receive.words ≡ 8) (t : Took s) where
  -- what a side is after a read that gave x
  abbrev read_as : ℕ → Read → Side
  read_as r x = with_host s x.end (did_read_of 9 17 gathered r x.value s.host)

  at_nine : Took (read_as 9 (read_of s.end 9))
  at_nine =
      subst (λ (x : Read). Took (read_as 9 x)) (sym is)
      (begins s.end.receive.rxval (bit15 (status s.end))
      (sym (ap (λ (x : Read). bit15 x.value) is) ∙ shown.0)
      (sym (ap (λ (x : Read). x.value % 4096) is) ∙ shown.1) t)
    where
      is : read_of s.end 9 ≡ record { answer = Done; value = status s.end; end = s.end }
      is = read_done s.end 9 g refl

      shown : (bit15 (read_of s.end 9).value ≡ s.end.receive.rxval)
          × ((read_of s.end 9).value % 4096 ≡ s.end.receive.control)
      shown = word_nine s.end g

  at_next : (k : ℕ) → k < 8 → s.host.stage ≡ suc k → Took (read_as (10 + k) (read_of s.end (10 + k)))
  at_next k h e =
      subst (λ (x : Read). Took (read_as (10 + k) x)) (sym (read_received s.end k g h))
      (subst (λ (x : Host). Took (with_host s (emptied (eqb k 7) s.end) x))
      (sym (next_is k (get_or s.end.receive.words k 0) s.host (compared k h))) done)
    where
      v : ℕ
      v = get_or s.end.receive.words k 0

      now : Message
      now = record { control = s.host.so_far.control; words = s.host.so_far.words ++ (v ∷ []) }

      done :
          TookOf (cond (eqb k 7 && s.end.receive.rxval) false s.end.receive.rxval) (message_in s.end)
          s.log.entered (also (eqb k 7) now s.host.taken) (cond (eqb k 7) 0 (s.host.stage + 1)) now
      done =
          subst (λ (j : ℕ). TookOf (cond (eqb k 7 && s.end.receive.rxval) false s.end.receive.rxval)
          (message_in s.end) s.log.entered (also (eqb k 7) now s.host.taken) (cond (eqb k 7) 0 (j + 1)) now)
          (sym e)
          (goes_on k (eqb k 7) h refl n
          (subst (λ (j : ℕ). TookOf s.end.receive.rxval (message_in s.end) s.log.entered s.host.taken j
          s.host.so_far) e t))

  pub reads_took : (r : ℕ) → may_read 9 17 s.host.stage r ≡ true → Took (hosted (read r) s)
  reads_took r m = go (within 9 17 r) refl
    where
      inside : within 9 17 r ≡ true → (eqb r 9 || eqb r (9 + s.host.stage)) ≡ true
      inside w = ap (λ (b : Bool). not b || (eqb r 9 || eqb r (9 + s.host.stage))) (sym w) ∙ m

      staged : (j : ℕ) → s.host.stage ≡ j → r ≡ 9 + j → Took (hosted (read r) s)
      staged zero e q = subst (λ (x : ℕ). Took (hosted (read x) s)) (sym (q ∙ refl)) at_nine
      staged (suc k) e q =
          subst (λ (x : ℕ). Took (hosted (read x) s)) (sym (q ∙ ten k)) (at_next k (omega (arith, t.stages, e)) e)
        where
          ten : (k : ℕ) → 9 + suc k ≡ 10 + k
          ten k = omega arith

      go : (b : Bool) → within 9 17 r ≡ b → Took (hosted (read r) s)
      go true w =
          or_cases (eqb r 9) (eqb r (9 + s.host.stage))
          (λ q. subst (λ (x : ℕ). Took (hosted (read x) s)) (sym (eqb-true r 9 q)) at_nine)
          (λ q. staged s.host.stage refl (eqb-true r (9 + s.host.stage) q))
          (inside w)
      go false w =
          subst (λ (x : End). Took (with_host s x (did_read_of 9 17 gathered r (read_of s.end r).value s.host)))
          (sym (apart s.end r g w))
          (subst (λ (b : Bool). Took (with_host s s.end
          (cond b (advance_of 9 17 gathered r (read_of s.end r).value s.host) s.host))) (sym w) t)

-- Sending, taking, writing

pub sends_took : (s : Side) → bad s.end ≡ false → Took s → Took (sends s)
sends_took s g t = subst Took (sym (sends_as s (loads s.end) g refl)) t

took_as_lem : (s : Side) (n : Bool) (b : Block) → enters b s.end ≡ n → Took s → Took (took_as n b s)
took_as_lem s true b e t =
    enters_took (message_of b)
    (subst (λ (v : Bool). TookOf v (message_in s.end) s.log.entered s.host.taken s.host.stage
    s.host.so_far) (rises (differ b.msgt s.end.sent.phyt) s.end.receive.rxval e) t)
took_as_lem s false b e t = t

arriving_took : (h : Harm) (l : List Block) (s : Side) → bad s.end ≡ false → All Sound l → Took s
    → Took (taking (map (harmed h) l) s)
unfolding taking
arriving_took h [] s g a t = t
arriving_took sound (b ∷ l) s g a t =
    subst Took (sym (takes_as s (enters b s.end) b g (le-ltb _ _ a.0.1) refl))
    (took_as_lem s (enters b s.end) b refl t)
arriving_took (spoilt c) (b ∷ l) s g a t = subst Took (sym (takes_spoilt s c)) t

writes_took : (s : Side) (r v : ℕ) (l : v < 65536) → bad s.end ≡ false → Took s → Took (hosted (write r v l) s)
writes_took s r v l g t =
    write_keeps (λ (e : End). Took (with_host s e (hosted (write r v l) s).host)) s.end r v g (λ _. t)

called_took : (c : Access) (s : Side) → bad s.end ≡ false → length s.end.receive.words ≡ 8
    → ruled_call c s.host ≡ true → Took s → Took (hosted c s)
called_took (read r) s g n m t = reads_took s g n t r m
called_took (write r v l) s g n m t = writes_took s r v l g t

-- Runs

slot_took : (d : ℕ) (h : Harm) (other s : Side) → bad s.end ≡ false → ShapedSide other → Took s
    → Took (takes_from d h (sends other) (sends s))
slot_took d h other s g o t =
    arriving_took h (due d (sends other).sent) (sends s) (after_good Call.send s.end g)
    (all_due Sound d (sends other).sent (sends_shaped other o).sent) (sends_took s g t)

pub step_took : (d : Direction) (D E : ℕ) (e : Event) (w : World) → Kept d D E w → BothShaped w
    → ruled_by ruled_call d e w.a.host w.b.host ≡ true → Took (far d w) → Took (far d (step D E e w))
step_took a_to_b D E (slot ha hb) w k s r t = slot_took D hb w.a w.b k.way.far_good s.a t
step_took a_to_b D E (at_a c) w k s r t = t
step_took a_to_b D E (at_b c) w k s r t =
    called_took c w.b k.way.far_good s.b.end.receive.0 r t
step_took b_to_a D E (slot ha hb) w k s r t = slot_took E ha w.b w.a k.way.far_good s.b t
step_took b_to_a D E (at_a c) w k s r t =
    called_took c w.a k.way.far_good s.a.end.receive.0 r t
step_took b_to_a D E (at_b c) w k s r t = t

run_took : (d : Direction) (D E : ℕ) (es : List Event) (w : World) → Kept d D E w → BothShaped w
    → ruled d D E es w ≡ true → Took (far d w) → Took (far d (run D E es w))
unfolding run_by every
run_took d D E [] w k s r t = t
run_took d D E (e ∷ es) w k s r t =
    let both = and_both (ruled_by ruled_call d e w.a.host w.b.host) _ r in
    run_took d D E es (step D E e w) (step_kept d D E e w k) (step_shaped D E e w s) both.1
    (step_took d D E e w k s both.0 t)

reset_took : Took reset_side
reset_took = record {
  whole = refl;
  stages = omega arith;
  full = λ h. absurd (omega (arith, h));
  control = λ h. absurd (omega (arith, h));
  words = λ h. absurd (omega (arith, h));
}

pub took_after : (d : Direction) (D E : ℕ) (es : List Event) → ruled d D E es reset_world ≡ true
    → Took (far d (run D E es reset_world))
took_after d D E es r =
    run_took d D E es reset_world (reset_kept d D E) (record { a = reset_shaped; b = reset_shaped }) r (start d)
  where
    start : (d : Direction) → Took (far d reset_world)
    start a_to_b = reset_took
    start b_to_a = reset_took
