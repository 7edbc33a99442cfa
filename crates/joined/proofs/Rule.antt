-- Reads that keep the rule of Joined.antt are by its words in Rule.antt, and take their messages.
--   stage_by r v n     the stage after n, where register r gave v
--   in_order anew n l  the reads l keep the rule, for a host at stage n; where anew, it may begin again
--   first_read_lem, next_read, last_read, anew_read  of one read
--   passed, completed  of the next reads of a take, short of its last register and up to it
--   takes_in_order     reads by the rule's words keep the rule
--   not_again          where not anew, the first register is not read again
--   anew_too           what is by document 01's sentence alone is by the rule
--   in_order_takes     reads that keep the rule are by its words
--   messages_by k l    the messages that reads take, where k was read so far
--   takes_messages     reads by the rule's words take the messages of their complete takes
-- Assumes nothing.
use Prim.Native.Nat.{ℕ, suc, ◌+◌, ◌≤◌, ◌<◌}
use mathlib.Core.Bool.{Bool, true, false, cond, ◌&&◌, ◌||◌, false≢true}
use mathlib.Core.List.{List, [], ◌∷◌, ◌++◌, append_assoc, append-nil}
use mathlib.Core.Path.{◌≡◌, refl, sym, ap, ◌∙◌, subst}
use native.Mathlib.Omega.{arith}
use lib.Dec.{eqb}
use lib.ListN.{length, length-append}
use borrow.Author.Tests.{eqb-true, eqb-false, eq-eqb, ne_eqb}
use Rattle.laws.proofs.Bools.{and_both, or_cases}
use Rattle.joined.specs.Joined.{also, bit15}
use Rattle.joined.specs.Rule.{ReadOut, gave, reads_from, Takes, none, looked, took, begun, again, messages_of}

-- a test that is true by its second part
or_second : (a b : Bool) → b ≡ true → (a || b) ≡ true
or_second true b h = refl
or_second false b h = h

module _ (first more : ℕ) where
  abbrev pub stage_by : ℕ → ℕ → ℕ → ℕ
  stage_by r v n = cond (eqb r first) (cond (bit15 v) 1 0) (cond (eqb r (first + more)) 0 (n + 1))

  unfoldable pub in_order : Bool → ℕ → List ReadOut → Bool
  in_order anew n [] = true
  in_order anew n (x ∷ l) =
      ((anew && eqb x.register first) || eqb x.register (first + n))
      && in_order anew (stage_by x.register x.value n) l

  -- One read

  -- in its turn
  turn : (anew : Bool) (n r : ℕ) → r ≡ first + n → ((anew && eqb r first) || eqb r (first + n)) ≡ true
  turn anew n r is = or_second (anew && eqb r first) (eqb r (first + n)) (eq-eqb r (first + n) is)

  first_read_lem : (anew : Bool) (v : ℕ) (l : List ReadOut)
      → in_order anew 0 (gave first v ∷ l) ≡ in_order anew (cond (bit15 v) 1 0) l
  unfolding in_order
  first_read_lem anew v l = rw (turn anew 0 first (omega arith), eq-eqb first first refl)

  anew_read : (n v : ℕ) (l : List ReadOut) → in_order true n (gave first v ∷ l) ≡ in_order true (cond (bit15 v) 1 0) l
  unfolding in_order
  anew_read n v l = rw (eq-eqb first first refl)

  module _ (anew : Bool) (r v n : ℕ) (l : List ReadOut) (is : r ≡ first + n) (on : 1 ≤ n) where
    not_first : eqb r first ≡ false
    not_first = ne_eqb r first (λ h. omega (arith, h, is, on))

    next_read : n < more → in_order anew n (gave r v ∷ l) ≡ in_order anew (n + 1) l
    unfolding in_order
    next_read h =
        rw (turn anew n r is, not_first, ne_eqb r (first + more) (λ e. omega (arith, e, is, h)))

    last_read : n ≡ more → in_order anew n (gave r v ∷ l) ≡ in_order anew 0 l
    unfolding in_order
    last_read h = rw (turn anew n r is, not_first, eq-eqb r (first + more) (omega (arith, is, h)))

  -- The next reads of a take

  passed : (anew : Bool) (vs : List ℕ) (r n : ℕ) (l : List ReadOut) → r ≡ first + n → 1 ≤ n → n + length vs ≤ more
      → in_order anew n (reads_from r vs ++ l) ≡ in_order anew (n + length vs) l
  unfolding reads_from
  passed anew [] r n l is on h = ap (λ (k : ℕ). in_order anew k l) (omega arith)
  passed anew (v ∷ vs) r n l is on h =
      next_read anew r v n (reads_from (suc r) vs ++ l) is on (omega (arith, h))
      ∙ (passed anew vs (suc r) (n + 1) l (omega (arith, is)) (omega arith) (omega (arith, h))
      ∙ ap (λ (k : ℕ). in_order anew k l) (omega arith))

  completed : (anew : Bool) (vs : List ℕ) (r n : ℕ) (l : List ReadOut) → r ≡ first + n → 1 ≤ n → n ≤ more
      → n + length vs ≡ suc more → in_order anew n (reads_from r vs ++ l) ≡ in_order anew 0 l
  unfolding reads_from
  completed anew [] r n l is on h k = absurd (omega (arith, h, k))
  completed anew (v ∷ []) r n l is on h k = last_read anew r v n l is on (omega (arith, k))
  completed anew (v ∷ (u ∷ vs)) r n l is on h k =
      next_read anew r v n (reads_from (suc r) (u ∷ vs) ++ l) is on (omega (arith, k))
      ∙ completed anew (u ∷ vs) (suc r) (n + 1) l (omega (arith, is)) (omega arith) (omega (arith, k))
      (omega (arith, k))

  -- From the rule's words

  module _ (some : 1 ≤ more) where
    begins : (anew : Bool) (v : ℕ) (l : List ReadOut) → bit15 v ≡ true
        → in_order anew 0 (gave first v ∷ l) ≡ in_order anew 1 l
    begins anew v l e = first_read_lem anew v l ∙ ap (λ (b : Bool). in_order anew (cond b 1 0) l) e

    pub takes_in_order : {anew : Bool} {l : List ReadOut} → Takes anew first more l → in_order anew 0 l ≡ true
    unfolding in_order
    takes_in_order none = refl
    takes_in_order {anew} (looked {l} v e t) =
        first_read_lem anew v l ∙ (ap (λ (b : Bool). in_order anew (cond b 1 0) l) e ∙ takes_in_order t)
    takes_in_order {anew} (took {l} v vs e n t) =
        begins anew v (reads_from (suc first) vs ++ l) e
        ∙ (completed anew vs (suc first) 1 l (omega arith) (omega arith) some (omega (arith, n)) ∙ takes_in_order t)
    takes_in_order {anew} (begun v vs e n) =
        begins anew v (reads_from (suc first) vs) e
        ∙ (ap (in_order anew 1) (sym (append-nil (reads_from (suc first) vs)))
        ∙ passed anew vs (suc first) 1 [] (omega arith) (omega arith) (omega (arith, n)))
    takes_in_order {anew} (again {l} v vs w a e n t) =
        begins anew v (reads_from (suc first) vs ++ (gave first w ∷ l)) e
        ∙ (passed anew vs (suc first) 1 (gave first w ∷ l) (omega arith) (omega arith) (omega (arith, n))
        ∙ (sooner anew a ∙ takes_in_order t))
      where
        sooner : (b : Bool) → b ≡ true
            → in_order b (1 + length vs) (gave first w ∷ l) ≡ in_order b 0 (gave first w ∷ l)
        sooner true h = anew_read (1 + length vs) w l ∙ sym (first_read_lem true w l)
        sooner false h = absurd (false≢true h)

    pub not_again : (v w : ℕ) (l : List ReadOut) → bit15 v ≡ true
        → Takes false first more (gave first v ∷ gave first w ∷ l) → ⊥
    unfolding in_order
    not_again v w l e t =
        false≢true
        (rw (ne_eqb first (first + 1) (λ h. omega (arith, h)))
        at (sym (begins false v (gave first w ∷ l) e) ∙ takes_in_order t))

    -- takes by document 01's sentence alone are by the rule
    pub anew_too : {l : List ReadOut} → Takes false first more l → Takes true first more l
    anew_too none = none
    anew_too (looked v e t) = looked v e (anew_too t)
    anew_too (took v vs e n t) = took v vs e n (anew_too t)
    anew_too (begun v vs e n) = begun v vs e n
    anew_too (again v vs w a e n t) = absurd (false≢true a)

    -- To the rule's words

    -- one value more
    shift : (vs : List ℕ) (q r s : ℕ) (l : List ReadOut) → r ≡ q + length vs
        → reads_from q (vs ++ (s ∷ [])) ++ l ≡ reads_from q vs ++ (gave r s ∷ l)
    unfolding reads_from
    shift [] q r s l is = ap (λ (k : ℕ). gave k s ∷ l) (omega (arith, is))
    shift (v ∷ vs) q r s l is =
        ap (λ (m : List ReadOut). gave q v ∷ m) (shift vs (suc q) r s l (omega (arith, is)))

    -- a read is known by its register
    read_is : (x : ReadOut) (r : ℕ) → x.register ≡ r → x ≡ gave r x.value
    read_is x r t = λ i. record { register = t i; value = x.value }

    -- reads l that keep the rule are by its words, at the start of a take and behind its first reads
    pub record Follows (l : List ReadOut) : Type 0 where
      pub start : in_order true 0 l ≡ true → Takes true first more l
      pub behind : (v : ℕ) (vs : List ℕ) → bit15 v ≡ true → length vs < more → in_order true (1 + length vs) l ≡ true
          → Takes true first more (gave first v ∷ (reads_from (suc first) vs ++ l))

    module _ (l : List ReadOut) (f : Follows l) where
      -- the first register begins a take
      opens : (s : ℕ) → in_order true (cond (bit15 s) 1 0) l ≡ true → Takes true first more (gave first s ∷ l)
      unfolding reads_from
      opens s k = go (bit15 s) refl
        where
          go : (b : Bool) → bit15 s ≡ b → Takes true first more (gave first s ∷ l)
          go true t = f.behind s [] t some (rw t at k)
          go false t = looked s t (f.start (rw t at k))

      -- the next one goes on with it
      goes_on : (v : ℕ) (vs : List ℕ) (r s : ℕ) → bit15 v ≡ true → length vs < more → r ≡ first + (1 + length vs)
          → in_order true (1 + length vs) (gave r s ∷ l) ≡ true
          → Takes true first more (gave first v ∷ (reads_from (suc first) vs ++ (gave r s ∷ l)))
      goes_on v vs r s e n is k = go (eqb (1 + length vs) more) refl
        where
          longer : length (vs ++ (s ∷ [])) ≡ 1 + length vs
          longer = length-append vs (s ∷ []) ∙ omega arith

          moved : Takes true first more (gave first v ∷ (reads_from (suc first) (vs ++ (s ∷ [])) ++ l))
              → Takes true first more (gave first v ∷ (reads_from (suc first) vs ++ (gave r s ∷ l)))
          moved =
              subst (λ (m : List ReadOut). Takes true first more (gave first v ∷ m))
              (shift vs (suc first) r s l (omega (arith, is)))

          go : (b : Bool) → eqb (1 + length vs) more ≡ b
              → Takes true first more (gave first v ∷ (reads_from (suc first) vs ++ (gave r s ∷ l)))
          go true t =
              let h = eqb-true (1 + length vs) more t in
              moved (took v (vs ++ (s ∷ [])) e (longer ∙ h)
              (f.start (sym (last_read true r s (1 + length vs) l is (omega arith) h) ∙ k)))
          go false t =
              let h : 1 + length vs < more = omega (arith, n, eqb-false (1 + length vs) more t) in
              moved (f.behind v (vs ++ (s ∷ [])) e (omega (arith, longer, h))
              (ap (λ (m : ℕ). in_order true m l) (omega (arith, longer))
              ∙ (sym (next_read true r s (1 + length vs) l is (omega arith) h) ∙ k)))

    one_more : (x : ReadOut) (l : List ReadOut) → Follows l → Follows (x ∷ l)
    unfolding in_order
    one_more x l f = record { start = start; behind = behind }
      where
        known : (n r : ℕ) → x.register ≡ r → in_order true n (x ∷ l) ≡ true
            → in_order true n (gave r x.value ∷ l) ≡ true
        known n r h k = ap (λ (y : ReadOut). in_order true n (y ∷ l)) (sym (read_is x r h)) ∙ k

        back : (P : List ReadOut → List ReadOut) (r : ℕ) → x.register ≡ r
            → Takes true first more (P (gave r x.value ∷ l)) → Takes true first more (P (x ∷ l))
        back P r h = subst (λ (y : ReadOut). Takes true first more (P (y ∷ l))) (sym (read_is x r h))

        opened : (n : ℕ) → x.register ≡ first → in_order true n (x ∷ l) ≡ true
            → Takes true first more (gave first x.value ∷ l)
        opened n h k = opens l f x.value (sym (anew_read n x.value l) ∙ known n first h k)

        which : (n : ℕ) → in_order true n (x ∷ l) ≡ true
            → (eqb x.register first || eqb x.register (first + n)) ≡ true
        which n k = (and_both (eqb x.register first || eqb x.register (first + n)) _ k).0

        start : in_order true 0 (x ∷ l) ≡ true → Takes true first more (x ∷ l)
        start k = back (λ m. m) first is (opened 0 is k)
          where
            is : x.register ≡ first
            is =
                or_cases (eqb x.register first) (eqb x.register (first + 0)) (eqb-true x.register first)
                (λ h. eqb-true x.register (first + 0) h ∙ omega arith) (which 0 k)

        behind : (v : ℕ) (vs : List ℕ) → bit15 v ≡ true → length vs < more → in_order true (1 + length vs) (x ∷ l) ≡ true
            → Takes true first more (gave first v ∷ (reads_from (suc first) vs ++ (x ∷ l)))
        behind v vs e n k =
            or_cases (eqb x.register first) (eqb x.register (first + (1 + length vs)))
            (λ h.
            let is = eqb-true x.register first h in
            back (λ m. gave first v ∷ (reads_from (suc first) vs ++ m)) first is
            (again v vs x.value refl e n (opened (1 + length vs) is k)))
            (λ h.
            let is = eqb-true x.register (first + (1 + length vs)) h in
            back (λ m. gave first v ∷ (reads_from (suc first) vs ++ m)) (first + (1 + length vs)) is
            (goes_on l f v vs (first + (1 + length vs)) x.value e n refl (known (1 + length vs) _ is k)))
            (which (1 + length vs) k)

    follows : (l : List ReadOut) → Follows l
    unfolding in_order
    follows [] = record {
      start = λ k. none;
      behind = λ v vs e n k.
          subst (λ (m : List ReadOut). Takes true first more (gave first v ∷ m))
          (sym (append-nil (reads_from (suc first) vs))) (begun v vs e n);
    }
    follows (x ∷ l) = one_more x l (follows l)

    pub in_order_takes : (l : List ReadOut) → in_order true 0 l ≡ true → Takes true first more l
    in_order_takes l k = (follows l).start k

    -- The messages that reads take: the first register gives a message without words, each other one a word more

    module _ {M : Type 0} (gathered : ℕ → ℕ → M → M) (m : ℕ → List ℕ → M)
        (starts : (v : ℕ) (k : M) → gathered first v k ≡ m v [])
        (adds : (r v u : ℕ) (us : List ℕ) → eqb r first ≡ false → gathered r v (m u us) ≡ m u (us ++ (v ∷ [])))
      where
        unfoldable pub messages_by : M → List ReadOut → List M
        messages_by k [] = []
        messages_by k (x ∷ l) =
            also (eqb x.register (first + more)) (gathered x.register x.value k) []
            ++ messages_by (gathered x.register x.value k) l

        -- one read
        first_message : (v : ℕ) (k : M) (l : List ReadOut) → messages_by k (gave first v ∷ l) ≡ messages_by (m v []) l
        unfolding messages_by
        first_message v k l = rw (ne_eqb first (first + more) (λ h. omega (arith, h, some)), starts v k)

        module _ (r v n u : ℕ) (us : List ℕ) (l : List ReadOut) (is : r ≡ first + n) (on : 1 ≤ n) where
          other : eqb r first ≡ false
          other = ne_eqb r first (λ h. omega (arith, h, is, on))

          next_message : n < more → messages_by (m u us) (gave r v ∷ l) ≡ messages_by (m u (us ++ (v ∷ []))) l
          unfolding messages_by
          next_message h =
              rw (ne_eqb r (first + more) (λ e. omega (arith, e, is, h)), adds r v u us other)

          last_message : n ≡ more
              → messages_by (m u us) (gave r v ∷ l) ≡ m u (us ++ (v ∷ [])) ∷ messages_by (m u (us ++ (v ∷ []))) l
          unfolding messages_by
          last_message h = rw (eq-eqb r (first + more) (omega (arith, is, h)), adds r v u us other)

        -- the next reads of a take
        passed_messages : (vs : List ℕ) (r n u : ℕ) (us : List ℕ) (l : List ReadOut) → r ≡ first + n → 1 ≤ n
            → n + length vs ≤ more
            → messages_by (m u us) (reads_from r vs ++ l) ≡ messages_by (m u (us ++ vs)) l
        unfolding reads_from
        passed_messages [] r n u us l is on h = ap (λ (k : List ℕ). messages_by (m u k) l) (sym (append-nil us))
        passed_messages (v ∷ vs) r n u us l is on h =
            next_message r v n u us (reads_from (suc r) vs ++ l) is on (omega (arith, h))
            ∙ (passed_messages vs (suc r) (n + 1) u (us ++ (v ∷ [])) l (omega (arith, is)) (omega arith)
            (omega (arith, h))
            ∙ ap (λ (k : List ℕ). messages_by (m u k) l) (append_assoc us (v ∷ []) vs))

        completed_messages : (vs : List ℕ) (r n u : ℕ) (us : List ℕ) (l : List ReadOut) → r ≡ first + n → 1 ≤ n
            → n ≤ more → n + length vs ≡ suc more
            → messages_by (m u us) (reads_from r vs ++ l) ≡ m u (us ++ vs) ∷ messages_by (m u (us ++ vs)) l
        unfolding reads_from
        completed_messages [] r n u us l is on h k = absurd (omega (arith, h, k))
        completed_messages (v ∷ []) r n u us l is on h k = last_message r v n u us l is on (omega (arith, k))
        completed_messages (v ∷ (w ∷ vs)) r n u us l is on h k =
            next_message r v n u us (reads_from (suc r) (w ∷ vs) ++ l) is on (omega (arith, k))
            ∙ (completed_messages (w ∷ vs) (suc r) (n + 1) u (us ++ (v ∷ [])) l (omega (arith, is)) (omega arith)
            (omega (arith, k)) (omega (arith, k))
            ∙ ap (λ (k : List ℕ). m u k ∷ messages_by (m u k) l) (append_assoc us (v ∷ []) (w ∷ vs)))

        pub takes_messages : {anew : Bool} {l : List ReadOut} (t : Takes anew first more l) (k : M)
            → messages_by k l ≡ messages_of m t
        unfolding messages_by messages_of
        takes_messages none k = refl
        takes_messages (looked {l} v e t) k = first_message v k l ∙ takes_messages t (m v [])
        takes_messages (took {l} v vs e n t) k =
            first_message v k (reads_from (suc first) vs ++ l)
            ∙ (completed_messages vs (suc first) 1 v [] l (omega arith) (omega arith) some (omega (arith, n))
            ∙ ap (λ (k : List M). m v vs ∷ k) (takes_messages t (m v vs)))
        takes_messages (begun v vs e n) k =
            first_message v k (reads_from (suc first) vs)
            ∙ (ap (messages_by (m v [])) (sym (append-nil (reads_from (suc first) vs)))
            ∙ passed_messages vs (suc first) 1 v [] [] (omega arith) (omega arith) (omega (arith, n)))
        takes_messages (again {l} v vs w a e n t) k =
            first_message v k (reads_from (suc first) vs ++ (gave first w ∷ l))
            ∙ (passed_messages vs (suc first) 1 v [] (gave first w ∷ l) (omega arith) (omega arith) (omega (arith, n))
            ∙ (first_message w (m v vs) l ∙ (sym (first_message w k l) ∙ takes_messages t k)))
