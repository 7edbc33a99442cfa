-- A step of the sending host keeps what a reporter has in every run, and so does every call.
--   does         of every call: what it does in registers, by the rule, and what is kept
--   steps_agree  the ends and the hosts after the steps
-- Assumes nothing.
use Prim.Native.Nat.{ℕ, suc, ◌+◌, ◌-◌, ◌*◌, ◌<◌}
use mathlib.Core.Bool.{Bool, true, false, ◌&&◌}
use mathlib.Core.List.{List, [], ◌∷◌, ◌++◌, map, append_assoc, append-nil}
use mathlib.Core.Path.{◌≡◌, refl, sym, ap, subst, ◌∙◌}
use native.Mathlib.Omega.{arith}
use lib.Dec.{eqb, ltb}
use borrow.Author.Tests.{ltb-true, ltb-false, eqb-true, ne_eqb}
use Rattle.laws.proofs.Bools.{cond_true, cond_false, either, and_yes, and-true}
use Rattle.joined.specs.Joined.{also}
use Rattle.end.specs.declared.End.{End}
use Rattle.end.specs.declared.Next.{Next}
use Rattle.end.specs.Message.{Message}
use Rattle.end.specs.Registers.{read_of}
use Rattle.answer.specs.declared.Answer.{Answer}
use Rattle.answer.specs.declared.Answer.TheVariants.{Done}
use Rattle.answer.specs.Number.{number_of}
use Rattle.link.specs.Link.{Side}
use Rattle.report.specs.declared.SendingHost.{SendingHost}
use Rattle.report.specs.declared.Pushed.{Pushed}
use Rattle.report.specs.declared.Pulled.{Pulled}
use Rattle.report.specs.declared.Push.{Push}
use Rattle.report.specs.declared.Push.TheVariants.{Idle}
use Rattle.report.specs.Sending.{done, word_of, written_of, refusal, under_way, pushed_by, push_of}
use Rattle.report.specs.Taking.{fresh_taking, pull_of}
use Rattle.reportblocks.specs.Blocks.{Eight, IsBlock, counting, message_of, messages_of, messages_of_all, given_by}
use Rattle.reportblocks.specs.Blocks.{host_after}
use Rattle.reportblocks.specs.Carried.{AllBlocks}
use Rattle.reportlink.specs.Reporting.{Reporter, Call, offer, push, pull, other}
use Rattle.reportlink.specs.Reporting.{part_writes, puts, pushing, message, pulling, is_first}
use Rattle.reportlink.specs.Reporting.{on_side}
use Rattle.reportlink.specs.Demand.{still, StepsAgree, first}
use Rattle.reportlink.proofs.Accesses.{calls, by_rule}
use Rattle.reportlink.proofs.Kept.{Keeps, keeps_side, Does, offers, others, pulls}
use Rattle.reportlink.proofs.Pushing.{ok, chain, as_calls, puts_calls, puts_ruled, puts_end, puts_ok, puts_all}
use Rattle.reportlink.proofs.Pushing.{puts_refused, puts_taken, puts_written, part_small, part_accepted}
use Rattle.reportlink.proofs.Pulling.{all_end}
use Rattle.reportlink.proofs.Pulling.{one_end, pull_took, pull_none}

-- Push

-- the messages of a block from number n on
counting_first : (n : ℕ) → n < 16 → counting n (16 - n) ≡ n ∷ counting (suc n) (16 - suc n)
counting_first n h =
    let e : 16 - n ≡ suc (16 - suc n) = omega arith in ap (counting n) e

still_next : (b : List ℕ) (n : ℕ) → n < 16
    → map (message_of b) (counting n (16 - n)) ≡ message_of b n ∷ still (record { block = b; next = n + 1 })
still_next b n h =
    ap (map (message_of b)) (counting_first n h)
    ∙ ap (λ (l : List Message). message_of b n ∷ l) (sym (go (ltb (n + 1) 16) refl))
  where
    next : n + 1 ≡ suc n
    next = omega arith

    go : (t : Bool) → ltb (n + 1) 16 ≡ t
        → still (record { block = b; next = n + 1 }) ≡ map (message_of b) (counting (suc n) (16 - suc n))
    go true t =
        cond_true _ _ t
        ∙ (cond_false _ _ (ne_eqb (n + 1) 0 (λ z. omega arith))
        ∙ ap (λ (i : ℕ). map (message_of b) (counting i (16 - i))) next)
    go false t =
        let l = ltb-false (n + 1) 16 t in
        let e : 16 - suc n ≡ 0 = omega arith in
        cond_false _ _ t ∙ sym (ap (λ (i : ℕ). map (message_of b) (counting (suc n) i)) e)

all_snoc : (bs : List (List ℕ)) (b : List ℕ) → messages_of_all (bs ++ (b ∷ [])) ≡ messages_of_all bs ++ messages_of b
unfolding messages_of_all
all_snoc [] b = append-nil (messages_of b)
all_snoc (c ∷ bs) b =
    ap (λ (l : List Message). messages_of c ++ l) (all_snoc bs b)
    ∙ sym (append_assoc (messages_of c) (messages_of_all bs) (messages_of b))

blocks_snoc : (bs : List (List ℕ)) (b : List ℕ) → AllBlocks bs → IsBlock b → AllBlocks (bs ++ (b ∷ []))
blocks_snoc [] b h i = (i, tt)
blocks_snoc (c ∷ bs) b h i = (h.0, blocks_snoc bs b h.1 i)

-- the first four writes of a message
abbrev bytes : List ℕ → ℕ → List (ℕ × ℕ)
bytes b n = (2309, word_of b n 0) ∷ (2310, word_of b n 1) ∷ (2311, word_of b n 2) ∷ (2312, word_of b n 3) ∷ []

-- a refused write is no number 0
not_first : (a : Answer) → is_first (refusal a) ≡ false
not_first a = either (λ (p : Push). is_first p ≡ false) (eqb (number_of a) 4) _ _ (λ _. refl) (λ _. refl)

module _ (s : Reporter) (k : Keeps s) (u : under_way s.sending ≡ true) where
  abbrev b : List ℕ
  b = s.sending.block

  abbrev n : ℕ
  n = s.sending.next

  below : n < 16
  below = ltb-true n 16 u

  -- number n was accepted: the block counts as offered where it is number 0
  offered_now : messages_of_all (also (eqb n 0) b s.offered)
      ≡ (s.side.host.accepted ++ (message_of b n ∷ [])) ++ still (record { block = b; next = n + 1 })
  offered_now = go (eqb n 0) refl
    where
      acc : List Message
      acc = s.side.host.accepted

      go : (z : Bool) → eqb n 0 ≡ z
          → messages_of_all (also z b s.offered)
          ≡ (acc ++ (message_of b n ∷ [])) ++ still (record { block = b; next = n + 1 })
      go true z =
          let e = eqb-true n 0 z in
          all_snoc s.offered b
          ∙ (ap (λ (l : List Message). l ++ messages_of b)
          (k.has.accepted
          ∙ (ap (λ (l : List Message). acc ++ l) (cond_true _ _ u ∙ cond_true _ _ z) ∙ append-nil acc))
          ∙ (ap (λ (i : ℕ). acc ++ map (message_of b) (counting i (16 - i))) (sym e)
          ∙ (ap (λ (l : List Message). acc ++ l) (still_next b n below) ∙ sym (append_assoc acc (message_of b n ∷ []) _))))
      go false z =
          k.has.accepted
          ∙ (ap (λ (l : List Message). acc ++ l) (cond_true _ _ u ∙ (cond_false _ _ z ∙ still_next b n below))
          ∙ sym (append_assoc acc (message_of b n ∷ []) _))

  -- and the block that was to come has come
  asked_now : s.asked ≡ also (eqb n 0) b s.offered ++ first (record { block = b; next = n + 1 })
  asked_now = go (eqb n 0) refl
    where
      none : first (record { block = b; next = n + 1 }) ≡ []
      none = cond_false _ _ (last (ltb (n + 1) 16) (ne_eqb (n + 1) 0 (λ z. omega arith)))
        where
          last : (x : Bool) {y : Bool} → y ≡ false → (x && y) ≡ false
          last true e = e
          last false e = refl

      go : (z : Bool) → eqb n 0 ≡ z → s.asked ≡ also z b s.offered ++ first (record { block = b; next = n + 1 })
      go true z =
          k.has.asked
          ∙ (ap (λ (l : List (List ℕ)). s.offered ++ l) (cond_true _ _ (and-true _ _ u z))
          ∙ (sym (append-nil _) ∙ ap (λ (l : List (List ℕ)). (s.offered ++ (b ∷ [])) ++ l) (sym none)))
      go false z =
          k.has.asked
          ∙ ap (λ (l : List (List ℕ)). s.offered ++ l)
          (cond_false _ _ (and_yes _ u ∙ z) ∙ sym none)

  blocks_now : AllBlocks (also (eqb n 0) b s.offered)
  blocks_now =
      either AllBlocks (eqb n 0) _ _ (λ _. blocks_snoc s.offered b k.blocks k.block) (λ _. k.blocks)

  -- the writes of number n, and the step that makes them
  abbrev begin : Next
  begin = record { answer = Done; end = s.side.end }

  writes_are : chain (part_writes b n) begin ≡ written_of b n s.side.end
  unfolding chain
  writes_are = refl

  all_ok : done (written_of b n s.side.end).answer ≡ ok (part_writes b n) s.side
  all_ok =
      ap (λ (x : Next). done x.answer) (sym writes_are) ∙ puts_ok (part_writes b n) s.side begin refl refl

  -- the reporter after the step
  abbrev pushed_to : Side → Pushed → Reporter
  pushed_to t p = record {
    side = t;
    sending = p.host;
    taking = s.taking;
    asked = s.asked;
    offered = also (is_first p.what) b s.offered;
    handed = s.handed;
  }

  abbrev to : Side
  to = puts (part_writes b n) s.side

  part_kept : done (written_of b n s.side.end).answer ≡ true
      → Keeps (record {
        side = to;
        sending = record { block = b; next = n + 1 };
        taking = s.taking;
        asked = s.asked;
        offered = also (eqb n 0) b s.offered;
        handed = s.handed;
      })
  part_kept t = record {
    blocks = blocks_now;
    block = k.block;
    written = puts_written (part_writes b n) s.side ∙ k.written;
    has = record {
      asked = asked_now;
      accepted =
          offered_now
          ∙ ap (λ (l : List Message). l ++ still (record { block = b; next = n + 1 })) (sym accepted_now);
      taking = k.has.taking ∙ ap (host_after fresh_taking) (sym (puts_taken (part_writes b n) s.side));
      handed = k.has.handed ∙ ap (given_by fresh_taking) (sym (puts_taken (part_writes b n) s.side));
      eight = subst Eight (sym (puts_taken (part_writes b n) s.side)) k.has.eight;
    };
  }
    where
      o : ok (part_writes b n) s.side ≡ true
      o = sym all_ok ∙ t

      accepted_now : to.host.accepted ≡ s.side.host.accepted ++ (message_of b n ∷ [])
      accepted_now =
          ap (λ (x : Side). x.host.accepted) (puts_all (part_writes b n) s.side o)
          ∙ part_accepted b k.block n below s.side k.written o

  refused_kept : done (written_of b n s.side.end).answer ≡ false → Keeps (on_side (λ _. to) s)
  refused_kept t =
      keeps_side s to k
      (puts_refused (bytes b n) (32768 + n * 256) s.side (refl, (refl, (refl, (refl, tt)))) (sym all_ok ∙ t))
      (puts_taken (part_writes b n) s.side)
      (puts_written (part_writes b n) s.side)

  push_kept : Keeps (pushed_to to (pushed_by s.sending (written_of b n s.side.end)))
  push_kept =
      either (λ (p : Pushed). Keeps (pushed_to to p)) (done (written_of b n s.side.end).answer) _ _
      part_kept
      (λ t.
      subst (λ (f : Bool). Keeps (record {
        side = to;
        sending = s.sending;
        taking = s.taking;
        asked = s.asked;
        offered = also f b s.offered;
        handed = s.handed;
      }))
      (sym (not_first (written_of b n s.side.end).answer)) (refused_kept t))

  pushes : Does push s
  unfolding push_of
  pushes = record {
    made = as_calls (part_writes b n) (part_small b k.block n below) s.side;
    same = puts_calls (part_writes b n) (part_small b k.block n below) s.side ∙ sym (cond_true _ _ u);
    ruled = puts_ruled (part_writes b n) (part_small b k.block n below) s.side;
    keeps =
        subst Keeps
        (λ i. pushed_to (sym (cond_true to s.side u) i)
        (sym (cond_true (pushed_by s.sending (written_of b n s.side.end))
        (record { what = Idle; host = s.sending; end = s.side.end }) u) i))
        push_kept;
  }

still_pushes : (s : Reporter) → Keeps s → under_way s.sending ≡ false → Does push s
unfolding push_of calls by_rule
still_pushes s k u = record {
  made = [];
  same = sym (cond_false _ _ u);
  ruled = refl;
  keeps =
      subst Keeps
      (λ i. record {
        side = sym (cond_false (puts (part_writes s.sending.block s.sending.next) s.side) s.side u) i;
        sending = (sym idle i).host;
        taking = s.taking;
        asked = s.asked;
        offered = also (is_first (sym idle i).what) s.sending.block s.offered;
        handed = s.handed;
      })
      k;
}
  where
    idle : push_of s.sending s.side.end ≡ record { what = Idle; host = s.sending; end = s.side.end }
    idle = cond_false _ _ u

-- Every call

pub does : (c : Call) (s : Reporter) → Keeps s → Does c s
unfolding calls by_rule
does (offer b i) s k = record { made = []; same = refl; ruled = refl; keeps = offers b i s k }
does push s k = go (under_way s.sending) refl
  where
    go : (t : Bool) → under_way s.sending ≡ t → Does push s
    go true u = pushes s k u
    go false u = still_pushes s k u
does pull s k = pulls s k
does (other c i) s k = others c i s k

-- The ends

pushed_end : (h : SendingHost) (x : Next) → (pushed_by h x).end ≡ x.end
pushed_end h x = either (λ (p : Pushed). p.end ≡ x.end) (done x.answer) _ _ (λ _. refl) (λ _. refl)

pub steps_agree : (s : Reporter) → StepsAgree s
unfolding push_of chain
steps_agree s = record {
  offer_side = λ b k. refl;
  offer_host = λ b k. refl;
  push_end = push_go (under_way h) refl;
  push_host = refl;
  pull_end = pull_go (message (read_of e 2313)) refl;
  pull_host = refl;
  other_side = λ c k. refl;
  push_leaves = refl;
  pull_leaves = refl;
}
  where
    h : SendingHost
    h = s.sending

    e : End
    e = s.side.end

    to : Side
    to = puts (part_writes h.block h.next) s.side

    push_go : (t : Bool) → under_way h ≡ t → (pushing h s.side).end ≡ (push_of h e).end
    push_go true t =
        ap (λ (x : Side). x.end) (cond_true to s.side t)
        ∙ (sym (puts_end (part_writes h.block h.next) s.side (record { answer = Done; end = e }) refl refl)
        ∙ (sym (pushed_end h (written_of h.block h.next e))
        ∙ sym (ap (λ (p : Pushed). p.end) (cond_true _ _ t))))
    push_go false t =
        ap (λ (x : Side). x.end) (cond_false to s.side t) ∙ sym (ap (λ (p : Pushed). p.end) (cond_false _ _ t))

    pull_go : (t : Bool) → message (read_of e 2313) ≡ t → (pulling s.side).end ≡ (pull_of s.taking e).end
    pull_go true t =
        ap (λ (x : Side). x.end) (cond_true _ _ t)
        ∙ (all_end s.side ∙ sym (ap (λ (p : Pulled). p.end) (pull_took s.taking e t)))
    pull_go false t =
        ap (λ (x : Side). x.end) (cond_false _ _ t)
        ∙ (one_end s.side ∙ sym (pull_none s.taking e t).2)
