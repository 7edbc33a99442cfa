-- What each call does, for every host, end and message: see specs/Does.antt. The block of a host has 128 bytes of eight
-- bits, and a message eight: Rust's types say so.
--   sending_fresh, offer_does, push_does
--   taking_fresh, take_does, pull_does
-- Assumes nothing.
use Prim.Native.Nat.{ℕ, zero, suc, ◌+◌, ◌*◌, ◌<◌}
use mathlib.Core.List.{List, [], ◌∷◌}
use mathlib.Core.Logic.{⊎_elim}
use mathlib.Core.Path.{◌≡◌, refl, sym, subst, ◌∙◌}
use native.Mathlib.Omega.{arith}
use lib.ListN.{length, get_or}
use Rattle.laws.proofs.Lists.{below_four}
use Rattle.answer.specs.Number.{number_of}
use Rattle.end.specs.declared.End.{End}
use Rattle.end.specs.Registers.{read_of}
use Rattle.endlaws.proofs.Calls.{status_leaves, reads_follow}
use Rattle.report.specs.declared.SendingHost.{SendingHost}
use Rattle.report.specs.declared.TakingHost.{TakingHost}
use Rattle.report.specs.Sending.{word_of, fresh_sending, offer_of, push_of}
use Rattle.report.specs.Taking.{zeros, filled_of, fresh_taking, take_of, past, words_of, pull_of}
use Rattle.reportlaws.specs.Does.{Bytes, Holds, FreshSending, Offers, Control, Carries, Pushes, FreshTaking}
use Rattle.reportlaws.specs.Does.{Filled, Takes, Reads, Pulls}
use Rattle.reportlaws.specs.Rows.{written, read}
use Rattle.reportlaws.proofs.Blocks.{zeros_are, filled_is}
use Rattle.reportlaws.proofs.Cases.{offer_case, control_of, sent_to, sent, push_case, more_or_last}
use Rattle.reportlaws.proofs.Cases.{more_or_starts, more_or_out, last_or_starts, last_or_out, starts_or_out}
use Rattle.reportlaws.proofs.Cases.{take_case, number_at, pull_case}

-- Sending

pub sending_fresh : FreshSending fresh_sending
sending_fresh = record { next = refl; block = zeros_are }

pub offer_does : (h : SendingHost) (b : List ℕ) → Offers h b (offer_of h b)
offer_does h b =
    offer_case h b (Offers h b)
    (λ u. record { free = λ f. absurd (f u); under_way = λ _. record { answer = refl; host = refl } })
    (λ f. record { free = λ _. record { answer = refl; next = refl; block = refl }; under_way = λ u. absurd (f u) })

control_is : (n : ℕ) → n < 16 → Control n (control_of n)
control_is n h = record {
  bit_15 = omega arith;
  bits_14_to_12 = omega arith;
  number = omega arith;
  bits_7_to_0 = omega arith;
}

carries : (b : List ℕ) (n : ℕ) (e : End) → Bytes 128 b → number_of (written e) ≡ 0 → n < 16
    → Carries b n e (sent_to b n e)
carries b n e (_, s) o h = record {
  word = word_of b n;
  control = control_of n;
  bytes = λ i _. let even = s (8 * n + 2 * i) in record { low = omega arith; high = omega arith };
  number = control_is n h;
  writes = sent b n e o h;
}

pub push_does : (h : SendingHost) (e : End) → Bytes 128 h.block → Pushes h e (push_of h e)
push_does h e s =
    push_case h e (Pushes h e)
    (λ f. record {
      idle = λ _. refl;
      waits = λ u _. absurd (f u);
      refused = λ u _ _. absurd (f u);
      sends = λ u _. absurd (f u);
      stays = λ _. (refl, refl);
    })
    (λ u w. record {
      idle = λ f. absurd (f u);
      waits = λ _ _. refl;
      refused = λ _ _ d. absurd (d w);
      sends = λ _ o. absurd (omega arith);
      stays = λ _. (refl, refl);
    })
    (λ u c d. record {
      idle = λ f. absurd (f u);
      waits = λ _ w. absurd (d w);
      refused = λ _ _ _. refl;
      sends = λ _ o. absurd (c o);
      stays = λ _. (refl, refl);
    })
    (λ u o. record {
      idle = λ f. absurd (f u);
      waits = λ _ w. absurd (omega arith);
      refused = λ _ c _. absurd (c o);
      sends = λ _ _. record { what = refl; next = refl; block = refl; end = carries h.block h.next e s o u };
      stays = ⊎_elim (λ f. absurd (f u)) (λ c. absurd (c o));
    })

-- Taking

pub taking_fresh : FreshTaking fresh_taking
taking_fresh = record { turn = refl; block = zeros_are }

pub take_does : (h : TakingHost) (n : ℕ) (m : List ℕ) → length h.block ≡ 128 → length m ≡ 8
    → Takes h n m (take_of h n m)
take_does h n m s k =
    take_case h n m (Takes h n m)
    (λ x. record {
      more = λ _. record {
        what = refl;
        turn = refl;
        part = filled_is h.block n m s (omega (arith, x.0)) k;
        block = zeros_are;
      };
      last = λ y. absurd (more_or_last h n x y);
      starts = λ y. absurd (more_or_starts h n x y);
      out_of_turn = λ y. absurd (more_or_out h n x y);
    })
    (λ x. record {
      more = λ y. absurd (more_or_last h n y x);
      last = λ _. record {
        what = refl;
        block = filled_is h.block 15 m s (omega arith) k;
        host = taking_fresh;
      };
      starts = λ y. absurd (last_or_starts h n x y);
      out_of_turn = λ y. absurd (last_or_out h n x y);
    })
    (λ x. record {
      more = λ y. absurd (more_or_starts h n y x);
      last = λ y. absurd (last_or_starts h n y x);
      starts = λ _. record { what = refl; turn = refl; part = started; block = zeros_are };
      out_of_turn = λ y. absurd (starts_or_out h n x y);
    })
    (λ x. record {
      more = λ y. absurd (more_or_out h n y x);
      last = λ y. absurd (last_or_out h n y x);
      starts = λ y. absurd (starts_or_out h n y x);
      out_of_turn = λ _. record { what = refl; block = zeros_are; host = taking_fresh };
    })
  where
    started : Filled (λ i. 0) 0 m (filled_of zeros 0 m)
    started =
        let f = filled_is zeros 0 m zeros_are.0 (omega arith) k in
        record { size = f.size; new = f.new; others = λ i o. f.others i o ∙ zeros_are.1 i }

-- what 3.2314 + i of an end reads, after those before it
abbrev word_at : End → ℕ → ℕ
word_at e zero = (read_of e 2314).value
word_at e (suc zero) = (read_of (past 2314 e) 2315).value
word_at e (suc (suc zero)) = (read_of (past 2315 (past 2314 e)) 2316).value
word_at e (suc (suc (suc i))) = (read_of (past 2316 (past 2315 (past 2314 e))) 2317).value

reads : (e : End) → number_of (read e) ≡ 0
    → Reads e
    ((2313, (read_of e 2313).value) ∷ (2314, word_at e 0) ∷ (2315, word_at e 1) ∷ (2316, word_at e 2) ∷ (2317, word_at e 3)
    ∷ [])
    (words_of e).end
reads e h =
    let leaves = status_leaves e in
    let a =
    subst (λ (f : End). number_of (read_of f 2314).answer ≡ 0) leaves
    (reads_follow e 2313 2314 (omega arith) (omega arith) h) in
    let b = reads_follow e 2314 2315 (omega arith) (omega arith) a in
    let c = reads_follow (past 2314 e) 2315 2316 (omega arith) (omega arith) b in
    let d = reads_follow (past 2315 (past 2314 e)) 2316 2317 (omega arith) (omega arith) c in (
      h,
      refl,
      subst (λ (f : End). Reads f
          ((2314, word_at e 0) ∷ (2315, word_at e 1) ∷ (2316, word_at e 2) ∷ (2317, word_at e 3) ∷ []) (words_of e).end)
          (sym leaves)
          (a, refl, (b, refl, (c, refl, (d, refl, refl)))),
    )

pub pull_does : (h : TakingHost) (e : End) → length h.block ≡ 128 → Pulls h e (pull_of h e)
pull_does h e s =
    pull_case h e (Pulls h e)
    (λ c. record {
      refused = λ _. (refl, record { host = refl; end = refl; block = zeros_are });
      empty = λ o _. absurd (c o);
      took = λ o _. absurd (c o);
    })
    (λ o b. record {
      refused = λ c. absurd (c o);
      empty = λ _ _. (refl, record { host = refl; end = refl; block = zeros_are });
      took = λ _ k. absurd (omega arith);
    })
    (λ o b. record {
      refused = λ c. absurd (c o);
      empty = λ _ k. absurd (omega arith);
      took = λ _ _. record {
        status = (read_of e 2313).value;
        word = word_at e;
        message = (words_of e).bytes;
        taken = take_of h (number_at e) (words_of e).bytes;
        reads = reads e o;
        size = refl;
        bytes = below_four
            (λ (i : ℕ). Holds (word_at e i) (get_or (words_of e).bytes (2 * i) 0) (get_or (words_of e).bytes (2 * i + 1) 0))
            (record { low = refl; high = refl })
            (record { low = refl; high = refl })
            (record { low = refl; high = refl })
            (record { low = refl; high = refl });
        takes = take_does h (number_at e) (words_of e).bytes s refl;
        what = refl;
        block = refl;
        host = refl;
      };
    })
