-- A message enters and is acknowledged no sooner than Demand.antt says, whatever the delays are.
--   Silent j    nothing was heard yet, and of the blocks that the far side has sent all but the newest j tell of
--               nothing
--   Still       nothing has entered either
--   still_run, silent_run   slots keep that, as long as nothing can have arrived
--   tight       the statement of specs/Demand.antt
-- Assumes nothing.
use Prim.{tt}
use Prim.Native.Nat.{ℕ, zero, suc, ◌+◌, ◌-◌, ◌≤◌}
use mathlib.Core.Bool.{Bool, true, false, cond, ◌||◌}
use mathlib.Core.List.{List, [], ◌∷◌, map}
use mathlib.Core.Path.{◌≡◌, refl, sym, ap, ap₂, subst, ◌∙◌}
use native.Mathlib.Omega.{arith}
use lib.Dec.{ltb}
use lib.ListN.{length, drop, length-append}
use Rattle.crc.specs.Bits.{odd}
use Rattle.fibre.specs.declared.Block.{Block}
use Rattle.fibre.specs.declared.End.{End}
use Rattle.fibre.specs.declared.Next.{Next}
use Rattle.fibre.specs.Good.{largest, bad}
use Rattle.fibre.specs.Sending.{loads}
use Rattle.fibre.specs.Taking.{take_of}
use Rattle.fibre.specs.Words.{read_of, write_of}
use Rattle.fibre.specs.Calls.{Call}
use Rattle.fibrelaws.proofs.Reached.{after_good}
use Rattle.joined.specs.Joined.{Direction, a_to_b, b_to_a, near, far, due, slot, run_by, every, slots}
use Rattle.laws.proofs.Bools.{either, and-true}
use Rattle.fibrelink.specs.Link.{Message, Side, World, reset_world, sends, sound, harmed, differ}
use Rattle.fibrelink.specs.Link.{taking, takes_from, message_written, accepts_now, step, run}
use Rattle.fibrelink.specs.Demand.{away, none_bad, good, Idle, Entered, Acknowledged, enough, enough_back, Tight}
use Rattle.fibrelink.specs.Demand.{DeliveredIn}
use Rattle.fibrelink.specs.Tight.{quiet, sixteen, asked}
use Rattle.fibrelink.proofs.Flight.{All}
use Rattle.fibrelink.proofs.Steps.{sends_as}
use Rattle.fibrelink.proofs.Kept.Sending.{sent_head}
use Rattle.fibrelink.proofs.Kept.{home}

abbrev Untold : Block → Type 0
Untold b = b.phyt ≡ false

pub record Silent (j : ℕ) (near far : Side) : Type 0 where
  pub phyt : near.end.transmit.phyt ≡ false
  pub unheard : near.log.ack_count ≡ 0
  pub untold : All Untold (drop j far.sent)
  pub near_good : bad near.end ≡ false
  pub far_good : bad far.end ≡ false

pub record Still (near far : Side) : Type 0 where
  pub silent : Silent 0 near far
  pub entered : far.log.entered ≡ []
  pub sent_phyt : far.end.sent.phyt ≡ false

-- Taking

-- a block that tells of nothing leaves PHYT 0
untold_end : (e : End) (b : Block) → e.transmit.phyt ≡ false → b.phyt ≡ false
    → (take_of e false b).end.transmit.phyt ≡ false
unfolding take_of
untold_end e b p q =
    either (λ (n : Next). n.end.transmit.phyt ≡ false) (bad e || ltb largest b.control) _ _ (λ _. p) (λ _. q)

untold_taking : (l : List Block) (s : Side) → All Untold l → s.end.transmit.phyt ≡ false
    → ((taking (map (harmed sound) l) s).end.transmit.phyt ≡ false)
    × ((taking (map (harmed sound) l) s).log.ack_count ≡ s.log.ack_count)
unfolding taking
untold_taking [] s a p = (p, refl)
untold_taking (b ∷ l) s a p =
    let q = untold_end s.end b p a.0 in
    (q, ap₂ (λ (x y : Bool). cond (differ x y) (suc s.log.ack_count) s.log.ack_count) p q)

taking_good : (l : List Block) (s : Side) → bad s.end ≡ false → bad (taking (map (harmed sound) l) s).end ≡ false
unfolding taking
taking_good [] s g = g
taking_good (b ∷ l) s g = after_good (Call.take false b) s.end g

taking_sent : (l : List Block) (s : Side) → (taking (map (harmed sound) l) s).sent ≡ s.sent
unfolding taking
taking_sent [] s = refl
taking_sent (b ∷ l) s = refl

-- what arrives is one of those that were sent j slots ago and before
due_untold : (j d : ℕ) (l : List Block) → j ≤ d → All Untold (drop j l) → All Untold (due d l)
due_untold zero zero [] h a = tt
due_untold zero zero (x ∷ l) h a = (a.0, tt)
due_untold zero (suc d) [] h a = tt
due_untold zero (suc d) (x ∷ l) h a = due_untold zero d l (omega arith) a.1
due_untold (suc j) zero l h a = absurd (omega (arith, h))
due_untold (suc j) (suc d) [] h a = tt
due_untold (suc j) (suc d) (x ∷ l) h a = due_untold j d l (omega (arith, h)) a

due_none : {A : Type 0} (d : ℕ) (l : List A) → length l ≤ d → due d l ≡ []
due_none zero [] h = refl
due_none zero (x ∷ l) h = absurd (omega (arith, h))
due_none (suc d) [] h = refl
due_none (suc d) (x ∷ l) h = due_none d l (omega (arith, h))

-- Sending

sends_phyt : (s : Side) → bad s.end ≡ false → (sends s).end.transmit.phyt ≡ s.end.transmit.phyt
sends_phyt s g = ap (λ (x : Side). x.end.transmit.phyt) (sends_as s (loads s.end) g refl)

sends_sent_phyt : (s : Side) → bad s.end ≡ false → (sends s).end.sent.phyt ≡ s.end.sent.phyt
sends_sent_phyt s g = ap (λ (x : Side). x.end.sent.phyt) (sends_as s (loads s.end) g refl)

-- A slot

module _ (d f : ℕ) (near far : Side) where
  abbrev near' : Side
  near' = takes_from f sound (sends far) (sends near)

  abbrev far' : Side
  far' = takes_from d sound (sends near) (sends far)

  heard_nothing : (i j : ℕ) → i ≤ f → Silent j near far → All Untold (drop i (sends far).sent) → Silent i near' far'
  heard_nothing i j h s a = record {
    phyt = none.0;
    unheard = none.1 ∙ s.unheard;
    untold =
        subst (λ (l : List Block). All Untold (drop i l)) (sym (taking_sent (due d (sends near).sent) (sends far))) a;
    near_good = taking_good (due f (sends far).sent) (sends near) (after_good Call.send near.end s.near_good);
    far_good = taking_good (due d (sends near).sent) (sends far) (after_good Call.send far.end s.far_good);
  }
    where
      none : (near'.end.transmit.phyt ≡ false) × (near'.log.ack_count ≡ (sends near).log.ack_count)
      none =
          untold_taking (due f (sends far).sent) (sends near) (due_untold i f (sends far).sent h a)
          (sends_phyt near s.near_good ∙ s.phyt)

  silent_slot : (j : ℕ) → suc j ≤ f → Silent j near far → Silent (suc j) near' far'
  silent_slot j h s =
      heard_nothing (suc j) j h s
      (subst (λ (l : List Block). All Untold (drop (suc j) l)) (sym (sent_head far s.far_good)) s.untold)

  -- where nothing has entered, what is sent tells of nothing
  silent_first : Still near far → Silent 0 near' far'
  silent_first t =
      heard_nothing 0 0 (omega arith) t.silent
      (subst (λ (l : List Block). All Untold l) (sym (sent_head far t.silent.far_good))
      (sends_sent_phyt far t.silent.far_good ∙ t.sent_phyt, t.silent.untold))

  still_slot : suc (length near.sent) ≤ d → Still near far → Still near' far'
  unfolding taking
  still_slot h t = record {
    silent = silent_first t;
    entered = ap (λ (s : Side). s.log.entered) stays ∙ t.entered;
    sent_phyt =
        ap (λ (s : Side). s.end.sent.phyt) stays ∙ (sends_sent_phyt far t.silent.far_good ∙ t.sent_phyt);
  }
    where
      stays : far' ≡ sends far
      stays = ap (λ (l : List Block). taking (map (harmed sound) l) (sends far)) (due_none d (sends near).sent h)

-- Quiet slots

abbrev quietly : ℕ → ℕ → World → World
quietly D E w = step D E (slot sound sound) w

still_step : (d : Direction) (D E : ℕ) (w : World) → suc (length (near d w).sent) ≤ away d D E
    → Still (near d w) (far d w) → Still (near d (quietly D E w)) (far d (quietly D E w))
still_step a_to_b D E w h t = still_slot D E w.a w.b h t
still_step b_to_a D E w h t = still_slot E D w.b w.a h t

first_step : (d : Direction) (D E : ℕ) (w : World) → Still (near d w) (far d w)
    → Silent 0 (near d (quietly D E w)) (far d (quietly D E w))
first_step a_to_b D E w t = silent_first D E w.a w.b t
first_step b_to_a D E w t = silent_first E D w.b w.a t

silent_step : (d : Direction) (D E j : ℕ) (w : World) → suc j ≤ home d D E → Silent j (near d w) (far d w)
    → Silent (suc j) (near d (quietly D E w)) (far d (quietly D E w))
silent_step a_to_b D E j w h s = silent_slot D E w.a w.b j h s
silent_step b_to_a D E j w h s = silent_slot E D w.b w.a j h s

one_more : (d : Direction) (D E : ℕ) (w : World) → length (near d (quietly D E w)).sent ≡ suc (length (near d w).sent)
one_more a_to_b D E w = ap (λ (l : List Block). length l) (taking_sent (due E (sends w.b).sent) (sends w.a))
one_more b_to_a D E w = ap (λ (l : List Block). length l) (taking_sent (due D (sends w.a).sent) (sends w.b))

still_run : (n : ℕ) (d : Direction) (D E : ℕ) (w : World) → n + length (near d w).sent ≤ away d D E
    → Still (near d w) (far d w) → Still (near d (run D E (quiet n) w)) (far d (run D E (quiet n) w))
unfolding run_by
still_run zero d D E w h t = t
still_run (suc n) d D E w h t =
    still_run n d D E (quietly D E w) (omega (arith, h, one_more d D E w)) (still_step d D E w (omega (arith, h)) t)

silent_run : (n j : ℕ) (d : Direction) (D E : ℕ) (w : World) → n + j ≤ home d D E → Silent j (near d w) (far d w)
    → Silent (n + j) (near d (run D E (quiet n) w)) (far d (run D E (quiet n) w))
unfolding run_by
silent_run zero j d D E w h s = subst (λ (m : ℕ). Silent m (near d w) (far d w)) none s
  where
    none : j ≡ zero + j
    none = omega arith
silent_run (suc n) j d D E w h s =
    subst
    (λ (m : ℕ). Silent m (near d (run D E (quiet n) (quietly D E w))) (far d (run D E (quiet n) (quietly D E w)))) one
    (silent_run n (suc j) d D E (quietly D E w) (omega (arith, h)) (silent_step d D E j w (omega (arith, h)) s))
  where
    one : n + suc j ≡ suc n + j
    one = omega arith

run_sum : (n m D E : ℕ) (w : World) → run D E (quiet (n + m)) w ≡ run D E (quiet m) (run D E (quiet n) w)
unfolding run_by
run_sum zero m D E w = ap (λ (k : ℕ). run D E (quiet k) w) none
  where
    none : zero + m ≡ m
    none = omega arith
run_sum (suc n) m D E w =
    ap (λ (k : ℕ). run D E (quiet k) w) one ∙ run_sum n m D E (quietly D E w)
  where
    one : suc n + m ≡ suc (n + m)
    one = omega arith

-- nothing that arrives is bad
none_bad_lem : (l : List Block) → none_bad (map (harmed sound) l) ≡ true
unfolding none_bad
none_bad_lem [] = refl
none_bad_lem (b ∷ l) = none_bad_lem l

quiet_good : (n D E : ℕ) (w : World) → good D E (quiet n) w ≡ true
unfolding every
quiet_good zero D E w = refl
quiet_good (suc n) D E w =
    and-true _ _
    (and-true _ _ (none_bad_lem (due E (sends w.b).sent)) (none_bad_lem (due D (sends w.a).sent)))
    (quiet_good n D E (quietly D E w))

quiet_slots : (n : ℕ) → slots (quiet n) ≡ n
unfolding slots
quiet_slots zero = refl
quiet_slots (suc n) = ap suc (quiet_slots n)

-- From reset

idle_reset : (d : Direction) → Idle (near d reset_world) (far d reset_world)
unfolding bad read_of odd
idle_reset a_to_b = record { no_request = refl; received = refl; empty = refl }
idle_reset b_to_a = record { no_request = refl; received = refl; empty = refl }

asked_accepts : (d : Direction) → accepts_now 0 0x8000 (near d reset_world).end ≡ true
unfolding bad write_of odd
asked_accepts a_to_b = refl
asked_accepts b_to_a = refl

asked_still : (d : Direction) (D E : ℕ) → Still (near d (asked d D E)) (far d (asked d D E))
unfolding bad write_of odd
asked_still a_to_b D E = record {
  silent = record { phyt = refl; unheard = refl; untold = tt; near_good = refl; far_good = refl };
  entered = refl;
  sent_phyt = refl;
}
asked_still b_to_a D E = record {
  silent = record { phyt = refl; unheard = refl; untold = tt; near_good = refl; far_good = refl };
  entered = refl;
  sent_phyt = refl;
}

unsent : (d : Direction) (D E : ℕ) → length (near d (asked d D E)).sent ≡ 0
unsent a_to_b D E = refl
unsent b_to_a D E = refl

still_there : (d : Direction) (D E n : ℕ) → n ≤ away d D E
    → Still (near d (run D E (quiet n) (asked d D E))) (far d (run D E (quiet n) (asked d D E)))
still_there d D E n h = still_run n d D E (asked d D E) (omega (arith, h, unsent d D E)) (asked_still d D E)

silent_back : (d : Direction) (D E n : ℕ) → n ≡ 1 + D + E
    → (near d (run D E (quiet n) (asked d D E))).log.ack_count ≡ 0
unfolding run_by
silent_back d D E n e =
    ap (λ (k : ℕ). (near d (run D E (quiet k) (asked d D E))).log.ack_count) (e ∙ sum d)
    ∙ (ap (λ (w : World). (near d w).log.ack_count) (run_sum (away d D E) (suc (home d D E)) D E (asked d D E))
    ∙ late.unheard)
  where
    sum : (d : Direction) → 1 + D + E ≡ away d D E + suc (home d D E)
    sum a_to_b = omega arith
    sum b_to_a = omega arith

    w : World
    w = run D E (quiet (away d D E)) (asked d D E)

    still : Still (near d w) (far d w)
    still = still_there d D E (away d D E) (omega arith)

    late : Silent (home d D E + 0) (near d (run D E (quiet (home d D E)) (quietly D E w)))
        (far d (run D E (quiet (home d D E)) (quietly D E w)))
    late = silent_run (home d D E) 0 d D E (quietly D E w) (omega arith) (first_step d D E w still)

module _ (d : Direction) (D E : ℕ) where
  abbrev few : ℕ
  few = enough (away d D E) - 1

  abbrev few_back : ℕ
  few_back = enough_back (D + E) - 1

  -- the world after k quiet slots from the request on, and the message
  abbrev soon : ℕ → World
  soon k = run D E (quiet k) (asked d D E)

  abbrev asking : Message
  asking = message_written 0x8000 (near d reset_world).host

  none : (d : Direction) → length (near d reset_world).host.accepted ≡ 0
  none a_to_b = refl
  none b_to_a = refl

  -- what would be so then
  sooner : (n m k : ℕ) → DeliveredIn n m d D E
      → (n ≤ k → Entered 0 asking (far d (soon k))) × (m ≤ k → Acknowledged 0 (near d (soon k)))
  unfolding run_by
  sooner n m k s =
      let r = s [] reset_world refl (idle_reset d) 0x8000 sixteen (asked_accepts d) (asked d D E) refl (quiet k)
      (quiet_good k D E (asked d D E)) (soon k) refl in (
        λ h. subst (λ (j : ℕ). Entered j asking (far d (soon k))) (none d) (r.0 (omega (arith, h, quiet_slots k))),
        λ h. subst (λ (j : ℕ). Acknowledged j (near d (soon k))) (none d) (r.1 (omega (arith, h, quiet_slots k))),
      )

  entered_sooner : DeliveredIn few (enough_back (D + E)) d D E → ⊥
  entered_sooner s =
      let e = (sooner few (enough_back (D + E)) few s).0 (omega arith) in
      let t = still_there d D E few (omega arith) in
      let a = ap (λ (l : List Message). length l) (sym e.2 ∙ t.entered) in
      let b = length-append e.0 (asking ∷ e.1) in
      absurd (omega (arith, a, b))

  heard_sooner : DeliveredIn (enough (away d D E)) few_back d D E → ⊥
  heard_sooner s =
      let a = ((sooner (enough (away d D E)) few_back few_back s).1 (omega arith)).changed in
      absurd (omega (arith, a, silent_back d D E few_back (omega arith)))

pub tight : Tight
tight d D E = (entered_sooner d D E, heard_sooner d D E)
