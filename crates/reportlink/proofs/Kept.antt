-- What a reporter has in every run, kept by an offer, by a step of the taking host and by every other call but a step of
-- the sending host.
--   Keeps        it
--   Does c s     the call c as calls on registers, by the rule; what is kept after it
--   keeps_reset, keeps_side   at the beginning; with a side whose host has the same lists
--   offers, others, pulls     of these calls
--   besides-*    which other calls there are: no fewer than these
-- Assumes nothing.
use Prim.Native.Nat.{ℕ, ◌+◌, ◌-◌, ◌<◌}
use mathlib.Core.Bool.{Bool, true, false, not, ◌&&◌, ◌||◌, true≢false, false≢true}
use mathlib.Core.Logic.{◌⊎◌, ⊎_elim}
use mathlib.Core.List.{List, [], ◌∷◌, ◌++◌, map, append-nil}
use mathlib.Core.Path.{◌≡◌, refl, sym, ap, subst, ◌∙◌}
use native.Mathlib.Omega.{arith}
use lib.Dec.{eqb, leb}
use lib.ListN.{length, length-set}
use borrow.Author.Tests.{eqb-true, eqb-false, ne_eqb, leb-true, le-leb}
use Rattle.laws.specs.Above.{above}
use Rattle.laws.proofs.Decide.{above_not}
use Rattle.laws.proofs.Bools.{no_if, cond_true, cond_false, either, and_both, and-true, and_no}
use Rattle.joined.specs.Joined.{also, bit15, within}
use Rattle.end.specs.Message.{Message}
use Rattle.end.specs.Registers.{read_of}
use Rattle.link.specs.Link.{Side, Host, Access, read, write, health, present, ruled_call, stores}
use Rattle.link.specs.Link.{answered0, hosted as called}
use Rattle.report.specs.declared.TakingHost.{TakingHost}
use Rattle.report.specs.declared.Offered.{Offered}
use Rattle.report.specs.declared.Pulled.{Pulled}
use Rattle.report.specs.declared.Taken.{Taken}
use Rattle.report.specs.Sending.{done, under_way, offer_of}
use Rattle.report.specs.Taking.{fresh_taking, take_of}
use Rattle.reportblocks.specs.Blocks.{Eight, IsBlock, messages_of_all, handed_over, given_by}
use Rattle.reportblocks.specs.Blocks.{host_after}
use Rattle.reportblocks.specs.Carried.{AllBlocks}
use Rattle.reportblocks.proofs.Taken.{after_append, given_append}
use Rattle.reportblocks.proofs.Carried.{eight_append}
use Rattle.reportlink.specs.Reporting.{Reporter, reset_reporter, besides, Call, offer, pull, other}
use Rattle.reportlink.specs.Reporting.{gets, message, given, hosted}
use Rattle.reportlink.specs.Reporting.{on_side}
use Rattle.reportlink.specs.Demand.{still, first, Has}
use Rattle.reportlink.proofs.Accesses.{calls, by_rule}
use Rattle.reportlink.proofs.Pulling.{five, gets_calls, brought, read_all, all_accepted, all_written}
use Rattle.reportlink.proofs.Pulling.{one_host, one_ruled, all_ruled, pull_took, pull_none}

pub record Keeps (s : Reporter) : Type 0 where
  pub blocks : AllBlocks s.offered
  pub block : IsBlock s.sending.block
  pub written : length s.side.host.written ≡ 4
  pub has : Has s

pub record Does (c : Call) (s : Reporter) : Type 0 where
  pub made : List Access
  pub same : calls made s.side ≡ (hosted c s).side
  pub ruled : by_rule made s.side ≡ true
  pub keeps : Keeps (hosted c s)

pub keeps_reset : Keeps reset_reporter
unfolding messages_of_all host_after given_by above
keeps_reset = record {
  blocks = tt;
  block = record { size = refl; bytes = refl };
  written = refl;
  has = record { asked = refl; accepted = refl; taking = refl; handed = refl; eight = tt };
}

-- a side whose host has the same lists
pub keeps_side : (s : Reporter) (t : Side) → Keeps s → t.host.accepted ≡ s.side.host.accepted
    → t.host.taken ≡ s.side.host.taken
    → length t.host.written ≡ length s.side.host.written
    → Keeps (on_side (λ _. t) s)
keeps_side s t k a b c = record {
  blocks = k.blocks;
  block = k.block;
  written = c ∙ k.written;
  has = record {
    asked = k.has.asked;
    accepted = k.has.accepted ∙ ap (λ (l : List Message). l ++ still s.sending) (sym a);
    taking = k.has.taking ∙ ap (host_after fresh_taking) (sym b);
    handed = k.has.handed ∙ ap (given_by fresh_taking) (sym b);
    eight = subst Eight (sym b) k.has.eight;
  };
}

-- Offer

pub offers : (b : List ℕ) (i : IsBlock b) (s : Reporter) → Keeps s → Keeps (hosted (offer b i) s)
unfolding offer_of
offers b i s k =
    either
    (λ (o : Offered). Keeps
    (record {
      side = s.side;
      sending = o.host;
      taking = s.taking;
      asked = also (done o.answer) b s.asked;
      offered = s.offered;
      handed = s.handed;
    }))
    (under_way s.sending) _ _
    (λ _. k)
    (λ f.
    record {
      blocks = k.blocks;
      block = i;
      written = k.written;
      has = record {
        asked =
            let none : first s.sending ≡ [] = cond_false _ _ (and_no _ f) in
            let all : s.asked ≡ s.offered =
            k.has.asked ∙ (ap (λ (l : List (List ℕ)). s.offered ++ l) none ∙ append-nil s.offered) in
            ap (λ (l : List (List ℕ)). l ++ (b ∷ [])) all;
        accepted =
            k.has.accepted
            ∙ ap (λ (l : List Message). s.side.host.accepted ++ l) (cond_false _ _ f);
        taking = k.has.taking;
        handed = k.has.handed;
        eight = k.has.eight;
      };
    })

-- Other calls

module _ (r : ℕ) (h : not (within 2314 2317 r) ≡ true) where
  outside : within 2314 2317 r ≡ true → ⊥
  outside t = true≢false (sym h ∙ ap not t)

  -- of the registers of a take only 3.2313 is read
  other_first : within 2313 2317 r ≡ true → r ≡ 2313
  other_first t =
      let b = and_both (leb 2313 r) (leb r 2317) t in
      let low = leb-true 2313 r b.0 in
      let high = leb-true r 2317 b.1 in
      go (eqb r 2313) refl
    where
      go : (e : Bool) → eqb r 2313 ≡ e → r ≡ 2313
      go true e = eqb-true r 2313 e
      go false e =
          let n = eqb-false r 2313 e in
          let b = and_both (leb 2313 r) (leb r 2317) t in
          let low = leb-true 2313 r b.0 in
          let high = leb-true r 2317 b.1 in
          absurd (outside (and-true _ _ (le-leb 2314 r (omega arith)) (le-leb r 2317 high)))

  other_rule : (g : Host) → ruled_call (read r) g ≡ true
  other_rule g = go (within 2313 2317 r) refl
    where
      go : (t : Bool) → within 2313 2317 r ≡ t → ruled_call (read r) g ≡ true
      go true t = ap (λ (i : ℕ). ruled_call (read i) g) (other_first t)
      go false t = ap (λ (b : Bool). not b || (eqb r 2313 || eqb r (2313 + g.stage))) t

  other_read : (s : Side)
      → ((called (read r) s).host.accepted ≡ s.host.accepted)
      × ((called (read r) s).host.taken ≡ s.host.taken)
      × ((called (read r) s).host.written ≡ s.host.written)
  other_read s =
      either
      (λ (g : Host).
      (g.accepted ≡ s.host.accepted) × (g.taken ≡ s.host.taken) × (g.written ≡ s.host.written))
      (within 2313 2317 r) _ _
      (λ t. (refl, cond_false _ _ (ne_eqb r 2317 (λ e. let f = other_first t in omega arith)), refl))
      (λ _. (refl, refl, refl))

pub others : (c : Access) (i : besides c ≡ true) (s : Reporter) → Keeps s → Does (other c i) s
unfolding calls by_rule
others (read r) i s k = record {
  made = read r ∷ [];
  same = refl;
  ruled = and-true _ _ (other_rule r i s.side.host) refl;
  keeps =
      let o = other_read r i s.side in
      keeps_side s (called (read r) s.side) k o.0 o.1 (ap length o.2);
}
others (write r v l) i s k = record {
  made = write r v l ∷ [];
  same = refl;
  ruled = refl;
  keeps =
      keeps_side s (called (write r v l) s.side) k
      (cond_false _ _ (not_accepted (eqb r 2308) (bit15 v) (answered0 r v s.side.end) i))
      refl
      (either (λ (x : List ℕ). length x ≡ length s.side.host.written)
      (stores r (answered0 r v s.side.end)) _ _
      (λ _. length-set s.side.host.written (r - 2309) v) (λ _. refl));
}
  where
    not_accepted : (a b c : Bool) → not (a && b) ≡ true → (a && (b && c)) ≡ false
    not_accepted true true c h = absurd (false≢true h)
    not_accepted true false c h = refl
    not_accepted false b c h = refl
others (health n) i s k =
    record { made = health n ∷ []; same = refl; ruled = refl; keeps = keeps_side s _ k refl refl refl }
others present i s k =
    record { made = present ∷ []; same = refl; ruled = refl; keeps = keeps_side s _ k refl refl refl }

-- Pull

-- a message that was taken goes to the taking host
module _ (s : Reporter) (k : Keeps s) (m : Message) where
  abbrev now_taken : Taken
  now_taken = take_of s.taking m.number m.bytes

  taken_host : now_taken.host ≡ host_after fresh_taking (s.side.host.taken ++ (m ∷ []))
  unfolding host_after
  taken_host =
      ap (λ (h : TakingHost). (take_of h m.number m.bytes).host) k.has.taking
      ∙ sym (after_append s.side.host.taken (m ∷ []) fresh_taking)

  taken_given : s.handed ++ handed_over now_taken.what now_taken.block
      ≡ given_by fresh_taking (s.side.host.taken ++ (m ∷ []))
  unfolding given_by
  taken_given =
      ap (λ (x : List (List ℕ)). x ++ handed_over now_taken.what now_taken.block) k.has.handed
      ∙ (ap (λ (h : TakingHost). given_by fresh_taking s.side.host.taken ++ gave h) k.has.taking
      ∙ (ap (λ (x : List (List ℕ)). given_by fresh_taking s.side.host.taken ++ x) (sym (append-nil _))
      ∙ sym (given_append s.side.host.taken (m ∷ []) fresh_taking)))
    where
      gave : TakingHost → List (List ℕ)
      gave h = handed_over (take_of h m.number m.bytes).what (take_of h m.number m.bytes).block

module _ (s : Reporter) (k : Keeps s) where
  pub pulls : Does pull s
  pulls = go (message (read_of s.side.end 2313)) refl
    where
      h : TakingHost
      h = s.taking

      m : Message
      m = brought s.side.end

      -- the reporter after the step
      after : Side → Pulled → Reporter
      after t p = record {
        side = t;
        sending = s.sending;
        taking = p.host;
        asked = s.asked;
        offered = s.offered;
        handed = s.handed ++ given p.what p.block;
      }

      go : (b : Bool) → message (read_of s.side.end 2313) ≡ b → Does pull s
      go true e = record {
        made = map read five;
        same = gets_calls five s.side ∙ sym (cond_true _ _ e);
        ruled = all_ruled s.side (and_both (done (read_of s.side.end 2313).answer) _ e).1;
        keeps =
            subst Keeps
            (λ i. after (sym (cond_true (gets five s.side) (gets (2313 ∷ []) s.side) e) i)
            (sym (pull_took h s.side.end e) i))
            (record {
              blocks = k.blocks;
              block = k.block;
              written = ap length (all_written s.side) ∙ k.written;
              has = record {
                asked = k.has.asked;
                accepted =
                    k.has.accepted ∙ ap (λ (l : List Message). l ++ still s.sending) (sym (all_accepted s.side));
                taking = taken_host s k m ∙ ap (host_after fresh_taking) (sym (read_all s.side));
                handed = taken_given s k m ∙ ap (given_by fresh_taking) (sym (read_all s.side));
                eight =
                    subst Eight (sym (read_all s.side))
                    (eight_append s.side.host.taken (m ∷ []) k.has.eight (refl, tt));
              };
            });
      }
      go false e = record {
        made = map read (2313 ∷ []);
        same = gets_calls (2313 ∷ []) s.side ∙ sym (cond_false _ _ e);
        ruled = one_ruled s.side;
        keeps =
            let n = pull_none h s.side.end e in
            let o = one_host s.side in
            subst Keeps
            (λ i. record {
              side = sym (cond_false (gets five s.side) (gets (2313 ∷ []) s.side) e) i;
              sending = s.sending;
              taking = sym n.0 i;
              asked = s.asked;
              offered = s.offered;
              handed = (sym (append-nil s.handed) ∙ ap (λ (x : List (List ℕ)). s.handed ++ x) (sym n.1)) i;
            })
            (keeps_side s (gets (2313 ∷ []) s.side) k o.1 o.0 (ap length o.2));
      }

-- What besides allows is no less than it says

pub besides_read : (r : ℕ) → (r < 2314) ⊎ (2317 < r) → besides (read r) ≡ true
besides_read r o = ap not (no_if (within 2314 2317 r) (λ t. outside_of (and_both (leb 2314 r) (leb r 2317) t)))
  where
    outside_of : (leb 2314 r ≡ true) × (leb r 2317 ≡ true) → ⊥
    outside_of b =
        let x = leb-true 2314 r b.0 in
        let y = leb-true r 2317 b.1 in
        ⊎_elim (λ l. above_not l x) (λ l. above_not l y) o

pub besides_write : (r v : ℕ) (l : v < 65536) → ¬ (r ≡ 2308) ⊎ (bit15 v ≡ false) → besides (write r v l) ≡ true
besides_write r v l =
    ⊎_elim (λ n. ap (λ (t : Bool). not (t && bit15 v)) (ne_eqb r 2308 n)) (λ e. ap not (and_last (eqb r 2308) e))
  where
    and_last : (a : Bool) {b : Bool} → b ≡ false → (a && b) ≡ false
    and_last true e = e
    and_last false e = refl

pub besides_health : (n : ℕ) → besides (health n) ≡ true
besides_health n = refl
