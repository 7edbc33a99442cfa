-- The rule of a run is that of the reads of the host that takes, and what it has taken are their messages, whatever
-- kind of sides are joined.
--   read_order, read_messages   of one call that reads
--   ruled_order, taken_messages   of a run
--   rule_words, taken_words   so they are those of the rule's words, from a host that has read nothing
-- Assumes nothing.
use Prim.Native.Nat.{ℕ, ◌+◌, ◌≤◌}
use mathlib.Core.Bool.{Bool, true, false, not, cond, ◌&&◌, ◌||◌}
use mathlib.Core.List.{List, [], ◌∷◌, ◌++◌, append_assoc, append-nil}
use mathlib.Core.Logic.{◌↔◌}
use mathlib.Core.Path.{◌≡◌, refl, sym, ap, ◌∙◌}
use lib.Dec.{eqb}
use Rattle.joined.specs.Joined.{Direction, a_to_b, b_to_a, Pair, far, EventOf, slot, at_a, at_b, step_by, run_by, every}
use Rattle.joined.specs.Joined.{HostOf, also, within, may_read, advance_of, did_read_of, ruled_by}
use Rattle.joined.specs.Rule.{ReadOut, gave, read_out, Takes, messages_of, reads_through}
use Rattle.joined.proofs.Rule.{in_order, takes_in_order, in_order_takes, messages_by, takes_messages}

also_append : {M : Type 0} (b : Bool) (m : M) (l k : List M) → also b m l ++ k ≡ l ++ (also b m [] ++ k)
also_append true m l k = append_assoc l (m ∷ []) k
also_append false m l k = refl

module _ (first more : ℕ) (some : 1 ≤ more) {M : Type 0} (gathered : ℕ → ℕ → M → M) (m : ℕ → List ℕ → M)
    (starts : (v : ℕ) (k : M) → gathered first v k ≡ m v [])
    (adds : (r v u : ℕ) (us : List ℕ) → eqb r first ≡ false → gathered r v (m u us) ≡ m u (us ++ (v ∷ [])))
  where
    abbrev last : ℕ
    last = first + more

    abbrev orderly : ℕ → List ReadOut → Bool
    orderly n l = in_order first more true n l

    abbrev messaged : M → List ReadOut → List M
    messaged k l = messages_by first more some gathered m starts adds k l

    -- One call that reads

    pub read_order : (r v : ℕ) (h : HostOf M) (l : List ReadOut)
        → orderly h.stage (read_out first last r v ++ l)
        ≡ (may_read first last h.stage r && orderly (did_read_of first last gathered r v h).stage l)
    unfolding in_order
    read_order r v h l = go (within first last r)
      where
        go : (b : Bool) → orderly h.stage (cond b (gave r v ∷ []) [] ++ l)
            ≡ ((not b || (eqb r first || eqb r (first + h.stage)))
            && orderly (cond b (advance_of first last gathered r v h) h).stage l)
        go true = refl
        go false = refl

    pub read_messages : (r v : ℕ) (h : HostOf M) (l : List ReadOut)
        → (did_read_of first last gathered r v h).taken ++ messaged (did_read_of first last gathered r v h).so_far l
        ≡ h.taken ++ messaged h.so_far (read_out first last r v ++ l)
    unfolding messages_by
    read_messages r v h l = go (within first last r)
      where
        go : (b : Bool) → (cond b (advance_of first last gathered r v h) h).taken
            ++ messaged (cond b (advance_of first last gathered r v h) h).so_far l
            ≡ h.taken ++ messaged h.so_far (cond b (gave r v ∷ []) [] ++ l)
        go true =
            also_append (eqb r last) (gathered r v h.so_far) h.taken (messaged (gathered r v h.so_far) l)
        go false = refl

    -- A run: what a slot and a call do to a side's host is known

    module _ {S H C : Type 0} (host : S → HostOf M) (sends : S → S) (takes : ℕ → H → S → S → S) (hosted : C → S → S)
        (allowed : C → HostOf M → Bool) (by : C → S → List ReadOut)
        (slot_host : (d : ℕ) (h : H) (o s : S) → host (takes d h o (sends s)) ≡ host s)
        (call_order : (c : C) (s : S) (l : List ReadOut)
        → orderly (host s).stage (by c s ++ l) ≡ (allowed c (host s) && orderly (host (hosted c s)).stage l))
        (call_messages : (c : C) (s : S) (l : List ReadOut)
        → (host (hosted c s)).taken ++ messaged (host (hosted c s)).so_far l
        ≡ (host s).taken ++ messaged (host s).so_far (by c s ++ l)) (D E : ℕ)
      where
        abbrev next : EventOf H C → Pair S → Pair S
        next e w = step_by sends takes hosted D E e w

        abbrev reads : Direction → List (EventOf H C) → Pair S → List ReadOut
        reads d es w = reads_through by next d es w

        abbrev ruled : Direction → List (EventOf H C) → Pair S → Bool
        ruled d es w = every (λ e w. ruled_by allowed d e (host w.a) (host w.b)) next es w

        ruled_order : (d : Direction) (es : List (EventOf H C)) (w : Pair S)
            → ruled d es w ≡ orderly (host (far d w)).stage (reads d es w)
        unfolding every reads_through in_order
        ruled_order d [] w = refl
        ruled_order a_to_b (slot ha hb ∷ es) w =
            ruled_order a_to_b es (next (slot ha hb) w) ∙ rw (slot_host D hb (sends w.a) w.b)
        ruled_order b_to_a (slot ha hb ∷ es) w =
            ruled_order b_to_a es (next (slot ha hb) w) ∙ rw (slot_host E ha (sends w.b) w.a)
        ruled_order a_to_b (at_a c ∷ es) w = ruled_order a_to_b es (next (at_a c) w)
        ruled_order b_to_a (at_a c ∷ es) w = rw (ruled_order b_to_a es (next (at_a c) w), call_order)
        ruled_order a_to_b (at_b c ∷ es) w = rw (ruled_order a_to_b es (next (at_b c) w), call_order)
        ruled_order b_to_a (at_b c ∷ es) w = ruled_order b_to_a es (next (at_b c) w)

        taken_messages : (d : Direction) (es : List (EventOf H C)) (w : Pair S)
            → (host (far d (run_by next es w))).taken
            ≡ (host (far d w)).taken ++ messaged (host (far d w)).so_far (reads d es w)
        unfolding run_by reads_through messages_by
        taken_messages d [] w = sym (append-nil _)
        taken_messages a_to_b (slot ha hb ∷ es) w =
            taken_messages a_to_b es (next (slot ha hb) w) ∙ rw (slot_host D hb (sends w.a) w.b)
        taken_messages b_to_a (slot ha hb ∷ es) w =
            taken_messages b_to_a es (next (slot ha hb) w) ∙ rw (slot_host E ha (sends w.b) w.a)
        taken_messages a_to_b (at_a c ∷ es) w = taken_messages a_to_b es (next (at_a c) w)
        taken_messages b_to_a (at_a c ∷ es) w =
            let x = next (at_a c) w in
            taken_messages b_to_a es x ∙ call_messages c w.a (reads b_to_a es x)
        taken_messages a_to_b (at_b c ∷ es) w =
            let x = next (at_b c) w in
            taken_messages a_to_b es x ∙ call_messages c w.b (reads a_to_b es x)
        taken_messages b_to_a (at_b c ∷ es) w = taken_messages b_to_a es (next (at_b c) w)

        -- By the rule's words

        module _ (d : Direction) (es : List (EventOf H C)) (w : Pair S) where
          order_start : (host (far d w)).stage ≡ 0 → ruled d es w ≡ orderly 0 (reads d es w)
          order_start s = ruled_order d es w ∙ ap (λ (n : ℕ). orderly n (reads d es w)) s

          pub rule_words : (host (far d w)).stage ≡ 0 → (ruled d es w ≡ true) ↔ Takes true first more (reads d es w)
          rule_words s = (
            λ h. in_order_takes first more some (reads d es w) (sym (order_start s) ∙ h),
            λ t. order_start s ∙ takes_in_order first more some t,
          )

          pub taken_words : (host (far d w)).taken ≡ [] → (t : Takes true first more (reads d es w))
              → (host (far d (run_by next es w))).taken ≡ messages_of m t
          taken_words n t =
              taken_messages d es w
              ∙ (ap (λ (l : List M). l ++ messaged (host (far d w)).so_far (reads d es w)) n
              ∙ takes_messages first more some gathered m starts adds t (host (far d w)).so_far)
