-- What a call gives, by the rows of specs/Rows.antt: what holds in each row holds of the result. Of the end only what
-- endlaws says by calls and answers is used.
--   offer_case, push_case, take_case, pull_case
--   Open e          a write to 3.2309 of the end e would be answered 0
--   open_byte, open_after, open_control   such an end takes a write of bytes and is such after it, and takes the number
--   control_of n    what is written to 3.2308 for number n
--   after r v e     the end after v was written to the register r
--   sent_to b n e   the end after number n of the block b was written; sent, each of its writes is answered 0
--   ROW-or-ROW      no two rows hold of one message
--   number_at e      the number of the message that an end has
-- Assumes nothing.
use Prim.Native.Nat.{ℕ, ◌+◌, ◌*◌, ◌/◌, ◌%◌, ◌<◌}
use mathlib.Core.Bool.{Bool, true, false}
use mathlib.Core.List.{List, [], ◌∷◌}
use mathlib.Core.Logic.{◌⊎◌, inl, inr, ⊎_elim}
use mathlib.Core.Path.{◌≡◌, refl, sym, ap, subst, ◌∙◌}
use native.Mathlib.Omega.{arith}
use lib.Dec.{eqb, ltb}
use borrow.Author.Tests.{ltb-true, ltb-false, eqb-true, eqb-false, eq-eqb, ne_eqb}
use Rattle.laws.proofs.Bools.{either, and_both, cond_true, cond_false}
use Rattle.laws.proofs.Decide.{Decides, decides_and, above_row, eq_row}
use Rattle.crc.specs.Bits.{odd}
use Rattle.answer.specs.declared.Answer.TheVariants.{Done, Blocked}
use Rattle.answer.specs.Number.{number_of}
use Rattle.end.specs.declared.End.{End}
use Rattle.end.specs.declared.Next.{Next}
use Rattle.end.specs.Registers.{read_of, write_of}
use Rattle.endlaws.proofs.Answers.{write_refused}
use Rattle.endlaws.proofs.Calls.{bytes_alike, bytes_leave, control_follows, status_leaves}
use Rattle.report.specs.declared.SendingHost.{SendingHost}
use Rattle.report.specs.declared.Offered.{Offered}
use Rattle.report.specs.declared.Push.{Push}
use Rattle.report.specs.declared.Pushed.{Pushed}
use Rattle.report.specs.declared.TakingHost.{TakingHost}
use Rattle.report.specs.declared.Take.TheVariants as Take
use Rattle.report.specs.declared.Taken.{Taken}
use Rattle.report.specs.declared.Pull.TheVariants as Pull
use Rattle.report.specs.declared.Pulled.{Pulled}
use Rattle.report.specs.Sending.{word_of, then_write, written_of, pushed_by, offer_of, push_of}
use Rattle.report.specs.Taking.{zeros, filled_of, in_turn, fresh_taking, whole_or, take_of, words_of, took, pulled_by, pull_of}
use Rattle.reportlaws.specs.Does.{Writes}
use Rattle.reportlaws.specs.Rows.{UnderWay, written, More, Last, Starts, OutOfTurn, read, bit_15}

-- Sending

pub offer_case : (h : SendingHost) (b : List ℕ) (P : Offered → Type 0)
    → (UnderWay h → P (record { answer = Blocked; host = h }))
    → (¬ UnderWay h → P (record { answer = Done; host = record { block = b; next = 0 } }))
    → P (offer_of h b)
unfolding offer_of
offer_case h b P u f =
    either P (ltb h.next 16) _ _ (λ t. u (ltb-true _ _ t)) (λ t. f ((above_row h.next 16).fails t))

abbrev pub control_of : ℕ → ℕ
control_of n = 32768 + n * 256

abbrev Open : End → Type 0
Open e = number_of (written e) ≡ 0

module _ (e : End) (o : Open e) where
  pub open_byte : (i v : ℕ) → i < 4 → number_of (write_of e (2309 + i) v).answer ≡ 0
  open_byte i v h = ap number_of (bytes_alike e i 0 v 0 h (omega arith)) ∙ o

  pub open_after : (i v : ℕ) → i < 4 → Open (write_of e (2309 + i) v).end
  open_after i v h = ap number_of (bytes_leave e i 0 v 0 h (omega arith)) ∙ o

  pub open_control : (n : ℕ) → n < 16 → number_of (write_of e 2308 (control_of n)).answer ≡ 0
  open_control n h = control_follows e 0 0 n (omega arith) h o

abbrev pub after : ℕ → ℕ → End → End
after r v e = (write_of e r v).end

abbrev pub sent_to : List ℕ → ℕ → End → End
sent_to b n e =
    after 2308 (control_of n)
    (after 2312 (word_of b n 3) (after 2311 (word_of b n 2) (after 2310 (word_of b n 1) (after 2309 (word_of b n 0) e))))

module _ {x : Next} (r v : ℕ) where
  -- one more write, after one that was answered 0
  more : (f : End) (s u : ℕ) → number_of (write_of f s u).answer ≡ 0 → x ≡ write_of f s u
      → then_write r v x ≡ write_of (write_of f s u).end r v
  more f s u h p = ap (then_write r v) p ∙ cond_true _ _ (eq-eqb _ _ h)

  -- no more writes
  no_more : (y : Next) → ¬ (number_of y.answer ≡ 0) → x ≡ y → then_write r v x ≡ y
  no_more y h p = ap (then_write r v) p ∙ cond_false _ _ (ne_eqb _ _ h)

module _ (b : List ℕ) (n : ℕ) (e : End) where
  pub sent : Open e → n < 16
      → Writes e
      ((2309, word_of b n 0) ∷ (2310, word_of b n 1) ∷ (2311, word_of b n 2) ∷ (2312, word_of b n 3)
      ∷ (2308, control_of n) ∷ [])
      (sent_to b n e)
  sent o h =
      let o1 = open_after e o 0 (word_of b n 0) (omega arith) in
      let o2 = open_after _ o1 1 (word_of b n 1) (omega arith) in
      let o3 = open_after _ o2 2 (word_of b n 2) (omega arith) in
      let o4 = open_after _ o3 3 (word_of b n 3) (omega arith) in (
        open_byte e o 0 _ (omega arith),
        (
          open_byte _ o1 1 _ (omega arith),
          (open_byte _ o2 2 _ (omega arith), (open_byte _ o3 3 _ (omega arith), (open_control _ o4 n h, refl))),
        ),
      )

  written_all : Open e → n < 16 → (number_of (written_of b n e).answer ≡ 0) × ((written_of b n e).end ≡ sent_to b n e)
  written_all o h =
      let (a0, (a1, (a2, (a3, (a4, _))))) = sent o h in
      let p =
      more 2308 _ _ 2312 _ a3 (more 2312 _ _ 2311 _ a2 (more 2311 _ _ 2310 _ a1 (more 2310 _ e 2309 _ a0 refl))) in
      (ap (λ (x : Next). number_of x.answer) p ∙ a4, ap (λ (x : Next). x.end) p)

  written_not : ¬ Open e → written_of b n e ≡ record { answer = written e; end = e }
  written_not c =
      let a = bytes_alike e 0 0 (word_of b n 0) 0 (omega arith) (omega arith) in
      let f = write_refused e 2309 (word_of b n 0) (λ k. c (ap number_of (sym a) ∙ k)) in
      let y : Next = record { answer = written e; end = e } in
      no_more 2308 _ y c (no_more 2312 _ y c (no_more 2311 _ y c (no_more 2310 _ y c
      (λ i. record { answer = a i; end = f i }))))

pub push_case : (h : SendingHost) (e : End) (P : Pushed → Type 0)
    → (¬ UnderWay h → P (record { what = Push.Idle; host = h; end = e }))
    → (UnderWay h → number_of (written e) ≡ 4 → P (record { what = Push.Waits; host = h; end = e }))
    → (UnderWay h → ¬ (number_of (written e) ≡ 0) → ¬ (number_of (written e) ≡ 4)
    → P (record { what = Push.Refused (written e); host = h; end = e }))
    → (UnderWay h → number_of (written e) ≡ 0
    → P (record {
      what = Push.Part h.next;
      host = record { block = h.block; next = h.next + 1 };
      end = sent_to h.block h.next e;
    }))
    → P (push_of h e)
unfolding push_of
push_case h e P idle waits refused sends =
    either P (ltb h.next 16) _ _
    (λ t. go (ltb-true _ _ t) (eqb (number_of (written e)) 0) refl)
    (λ t. idle ((above_row h.next 16).fails t))
  where
    x : Next
    x = written_of h.block h.next e

    go : UnderWay h → (t : Bool) → eqb (number_of (written e)) 0 ≡ t → P (pushed_by h x)
    go u true t =
        let w = written_all h.block h.next e (eqb-true _ _ t) u in
        subst P
        (sym
        (cond_true _ _ (eq-eqb _ _ w.0)
        ∙ ap (λ (f : End). record {
          what = Push.Part h.next;
          host = record { block = h.block; next = h.next + 1 };
          end = f;
        }) w.1))
        (sends u (eqb-true _ _ t))
    go u false t =
        let c = eqb-false _ _ t in
        subst P (sym (ap (pushed_by h) (written_not h.block h.next e c) ∙ cond_false _ _ (ne_eqb _ _ c)))
        (either (λ (w : Push). P (record { what = w; host = h; end = e })) (eqb (number_of (written e)) 4) _ _
        (λ k. waits u (eqb-true _ _ k)) (λ k. refused u c (eqb-false _ _ k)))

-- Taking

module _ (h : TakingHost) (n : ℕ) where
  pub more_or_last : More h n → Last h n → ⊥
  more_or_last (l, _) (q, _) = omega arith

  pub more_or_starts : More h n → Starts h n → ⊥
  more_or_starts (_, k) (z, c) = c (k ∙ z)

  pub more_or_out : More h n → OutOfTurn h n → ⊥
  more_or_out (l, k) (_, o) = ⊎_elim (λ x. omega arith) (λ x. x k) o

  pub last_or_starts : Last h n → Starts h n → ⊥
  last_or_starts (q, _) (z, _) = omega arith

  pub last_or_out : Last h n → OutOfTurn h n → ⊥
  last_or_out (q, k) (_, o) = ⊎_elim (λ x. omega arith) (λ x. x (k ∙ sym q)) o

  pub starts_or_out : Starts h n → OutOfTurn h n → ⊥
  starts_or_out (z, _) (k, _) = k z

pub take_case : (h : TakingHost) (n : ℕ) (m : List ℕ) (P : Taken → Type 0)
    → (More h n
    → P (record {
      what = Take.Part n;
      block = zeros;
      host = record { block = filled_of h.block n m; turn = n + 1 };
    }))
    → (Last h n → P (record { what = Take.Whole; block = filled_of h.block 15 m; host = fresh_taking }))
    → (Starts h n
    → P (record { what = Take.Part 0; block = zeros; host = record { block = filled_of zeros 0 m; turn = 1 } }))
    → (OutOfTurn h n → P (record { what = Take.Out n; block = zeros; host = fresh_taking }))
    → P (take_of h n m)
unfolding take_of
take_case h n m P more last starts out =
    either P (in_turn h.turn n) _ _
    (λ t. let b = and_both (ltb n 16) _ t in turned (ltb-true _ _ b.0) (eqb-true _ _ b.1))
    (λ t. either P (eqb n 0) _ _
    (λ z. starts (eqb-true _ _ z, λ k. in_turn_lem.fails t (omega (arith, eqb-true n 0 z), eqb-true n 0 z ∙ sym k)))
    (λ z. out (eqb-false _ _ z, none (ltb n 16) refl t)))
  where
    in_turn_lem : Decides (in_turn h.turn n) ((n < 16) × (n ≡ h.turn))
    in_turn_lem = decides_and _ _ (above_row n 16) (eq_row n h.turn)

    turned : n < 16 → n ≡ h.turn → P (whole_or (filled_of h.block n m) n)
    turned l k =
        either P (eqb n 15) _ _
        (λ t.
        let q = eqb-true n 15 t in
        subst (λ (j : ℕ). P (record { what = Take.Whole; block = filled_of h.block j m; host = fresh_taking })) (sym q)
        (last (q, sym k ∙ q)))
        (λ t. more (let d = eqb-false n 15 t in omega arith, sym k))

    none : (t : Bool) → ltb n 16 ≡ t → in_turn h.turn n ≡ false → (15 < n) ⊎ ¬ (h.turn ≡ n)
    none true l t = inr (λ k. in_turn_lem.fails t (ltb-true _ _ l, sym k))
    none false l t = inl (ltb-false n 16 l)

abbrev pub number_at : End → ℕ
number_at e = (read_of e 2313).value / 256 % 16

pub pull_case : (h : TakingHost) (e : End) (P : Pulled → Type 0)
    → (¬ (number_of (read e) ≡ 0) → P (record { what = Pull.Refused (read e); block = zeros; host = h; end = e }))
    → (number_of (read e) ≡ 0 → bit_15 e ≡ 0 → P (record { what = Pull.Empty; block = zeros; host = h; end = e }))
    → (number_of (read e) ≡ 0 → bit_15 e ≡ 1 → P (took (take_of h (number_at e) (words_of e).bytes) (words_of e).end))
    → P (pull_of h e)
unfolding pull_of odd
pull_case h e P refused empty took =
    subst (λ (f : End). P (pulled_by h (record { answer = read e; value = (read_of e 2313).value; end = f })))
    (sym (status_leaves e))
    (either P (eqb (number_of (read e)) 0) _ _
    (λ t. either P (eqb ((read_of e 2313).value / 32768 % 2) 1) _ _
    (λ b. took (eqb-true _ _ t) (set (eqb-true _ _ b)))
    (λ b. empty (eqb-true _ _ t) (clear (eqb-false _ _ b))))
    (λ t. refused (eqb-false _ _ t)))
  where
    set : (read_of e 2313).value / 32768 % 2 ≡ 1 → bit_15 e ≡ 1
    set h = omega arith

    clear : ¬ ((read_of e 2313).value / 32768 % 2 ≡ 1) → bit_15 e ≡ 0
    clear h = omega arith
