-- A step of the sending host, as writes of crate link.
--   ok ws s          each of the writes ws is answered 0, one after the other
--   all ws s         a side after all of them
--   chain ws x       the writes as the step makes them, on an end
--   Small ws         each value has sixteen bits; as_calls: the writes that are made, as calls
--   puts_calls, puts_ruled   a side after writes is a side after calls, which are by the rule
--   puts_end, puts_ok   the end after writes, and whether all were answered 0, as the step has them
--   puts_all, puts_refused, puts_taken, puts_written   what the host has after them
--   part_accepted    all writes of number n of a block are answered 0: that message is accepted
-- Assumes nothing.
use Prim.Native.Nat.{ℕ, ◌+◌, ◌-◌, ◌*◌, ◌/◌, ◌%◌, ◌≤◌, ◌<◌}
use mathlib.Core.Bool.{Bool, true, false, cond, ◌&&◌, true≢false}
use mathlib.Core.List.{List, [], ◌∷◌, ◌++◌}
use mathlib.Core.Path.{◌≡◌, refl, sym, ap, ap₂, ◌∙◌}
use native.Mathlib.Omega.{arith}
use lib.Dec.{eqb}
use lib.ListN.{length, get_or, take, drop, set, length-set, length-drop}
use lib.Seq.{get_or-drop, get_or-take, length-take-le}
use Rattle.laws.proofs.Bools.{cond_true, cond_false, either, and_both, and-true, and_no}
use Rattle.laws.proofs.AboveLaws.{above_get_d}
use Rattle.laws.proofs.Lists.{eight}
use Rattle.joined.specs.Joined.{bit15}
use Rattle.crc.specs.Bits.{odd}
use Rattle.weights.specs.Weights.{halves}
use Rattle.end.specs.declared.End.{End}
use Rattle.end.specs.declared.Next.{Next}
use Rattle.end.specs.Registers.{write_of}
use Rattle.link.specs.Link.{Side, Access, write, stores, message_side, bytes_of, answered0, written}
use Rattle.report.specs.Sending.{done, word_of, then_write}
use Rattle.reportblocks.specs.Blocks.{IsBlock, message_of}
use Rattle.reportlink.specs.Reporting.{part_writes, puts}
use Rattle.reportlink.proofs.Accesses.{calls, by_rule}

abbrev Writes : Type 0
Writes = List (ℕ × ℕ)

unfoldable pub ok : Writes → Side → Bool
ok [] s = true
ok (w ∷ ws) s = answered0 w.0 w.1 s.end && ok ws (written w.0 w.1 s)

unfoldable pub all : Writes → Side → Side
all [] s = s
all (w ∷ ws) s = all ws (written w.0 w.1 s)

unfoldable pub chain : Writes → Next → Next
chain [] x = x
chain (w ∷ ws) x = chain ws (then_write w.0 w.1 x)

abbrev pub Small : Writes → Type 0
Small [] = Unit {0}
Small (w ∷ ws) = (w.1 < 65536) × Small ws

-- As calls

unfoldable pub as_calls : (ws : Writes) → Small ws → Side → List Access
as_calls [] l s = []
as_calls (w ∷ ws) l s =
    write w.0 w.1 l.0
    ∷ cond (answered0 w.0 w.1 s.end) (as_calls ws l.1 (written w.0 w.1 s)) []

pub puts_calls : (ws : Writes) (l : Small ws) (s : Side) → calls (as_calls ws l s) s ≡ puts ws s
unfolding as_calls calls puts
puts_calls [] l s = refl
puts_calls (w ∷ ws) l s = go (answered0 w.0 w.1 s.end) (puts_calls ws l.1 (written w.0 w.1 s))
  where
    go : (b : Bool)
        → calls (as_calls ws l.1 (written w.0 w.1 s)) (written w.0 w.1 s) ≡ puts ws (written w.0 w.1 s)
        → calls (cond b (as_calls ws l.1 (written w.0 w.1 s)) []) (written w.0 w.1 s)
        ≡ cond b (puts ws (written w.0 w.1 s)) (written w.0 w.1 s)
    go true i = i
    go false i = refl

pub puts_ruled : (ws : Writes) (l : Small ws) (s : Side) → by_rule (as_calls ws l s) s ≡ true
unfolding as_calls by_rule
puts_ruled [] l s = refl
puts_ruled (w ∷ ws) l s = go (answered0 w.0 w.1 s.end) (puts_ruled ws l.1 (written w.0 w.1 s))
  where
    go : (b : Bool) → by_rule (as_calls ws l.1 (written w.0 w.1 s)) (written w.0 w.1 s) ≡ true
        → by_rule (cond b (as_calls ws l.1 (written w.0 w.1 s)) []) (written w.0 w.1 s) ≡ true
    go true i = i
    go false i = refl

-- On an end

chain_stays : (ws : Writes) (x : Next) → done x.answer ≡ false → chain ws x ≡ x
unfolding chain
chain_stays [] x h = refl
chain_stays (w ∷ ws) x h = ap (chain ws) (cond_false _ _ h) ∙ chain_stays ws x h

module _ (w : ℕ × ℕ) (ws : Writes) (s : Side) (x : Next) (e : x.end ≡ s.end) (k : done x.answer ≡ true) where
  made : then_write w.0 w.1 x ≡ write_of s.end w.0 w.1
  made = cond_true _ _ k ∙ ap (λ (f : End). write_of f w.0 w.1) e

pub puts_end : (ws : Writes) (s : Side) (x : Next) → x.end ≡ s.end → done x.answer ≡ true
    → (chain ws x).end ≡ (puts ws s).end
unfolding chain puts
puts_end [] s x e k = e
puts_end (w ∷ ws) s x e k =
    ap (λ (y : Next). (chain ws y).end) (made w ws s x e k)
    ∙ go (answered0 w.0 w.1 s.end) refl
    (puts_end ws (written w.0 w.1 s) (write_of s.end w.0 w.1) refl)
  where
    go : (b : Bool) → answered0 w.0 w.1 s.end ≡ b
        → (answered0 w.0 w.1 s.end ≡ true
        → (chain ws (write_of s.end w.0 w.1)).end ≡ (puts ws (written w.0 w.1 s)).end)
        → (chain ws (write_of s.end w.0 w.1)).end
        ≡ (cond b (puts ws (written w.0 w.1 s)) (written w.0 w.1 s)).end
    go true h f = f h
    go false h f = ap (λ (y : Next). y.end) (chain_stays ws (write_of s.end w.0 w.1) h)

pub puts_ok : (ws : Writes) (s : Side) (x : Next) → x.end ≡ s.end → done x.answer ≡ true
    → done (chain ws x).answer ≡ ok ws s
unfolding chain ok
puts_ok [] s x e k = k
puts_ok (w ∷ ws) s x e k =
    ap (λ (y : Next). done (chain ws y).answer) (made w ws s x e k)
    ∙ go (answered0 w.0 w.1 s.end) refl
    (puts_ok ws (written w.0 w.1 s) (write_of s.end w.0 w.1) refl)
  where
    go : (b : Bool) → answered0 w.0 w.1 s.end ≡ b
        → (answered0 w.0 w.1 s.end ≡ true
        → done (chain ws (write_of s.end w.0 w.1)).answer ≡ ok ws (written w.0 w.1 s))
        → done (chain ws (write_of s.end w.0 w.1)).answer ≡ b && ok ws (written w.0 w.1 s)
    go true h f = f h
    go false h f = ap (λ (y : Next). done y.answer) (chain_stays ws (write_of s.end w.0 w.1) h) ∙ h

-- What the host has

pub puts_all : (ws : Writes) (s : Side) → ok ws s ≡ true → puts ws s ≡ all ws s
unfolding ok puts all
puts_all [] s h = refl
puts_all (w ∷ ws) s h =
    let b = and_both (answered0 w.0 w.1 s.end) (ok ws (written w.0 w.1 s)) h in
    cond_true _ _ b.0 ∙ puts_all ws (written w.0 w.1 s) b.1

abbrev pub Bytes : Writes → Type 0
Bytes [] = Unit {0}
Bytes (w ∷ ws) = (eqb w.0 2308 ≡ false) × Bytes ws

bytes_accept : (w : ℕ × ℕ) (s : Side) → eqb w.0 2308 ≡ false
    → (written w.0 w.1 s).host.accepted ≡ s.host.accepted
bytes_accept w s h = cond_false _ _ (and_no _ h)

refused_accept : (w : ℕ × ℕ) (s : Side) → answered0 w.0 w.1 s.end ≡ false
    → (written w.0 w.1 s).host.accepted ≡ s.host.accepted
refused_accept w s h = cond_false _ _ (last (eqb w.0 2308) (bit15 w.1) h)
  where
    last : (a b : Bool) {c : Bool} → c ≡ false → (a && (b && c)) ≡ false
    last true true h = h
    last true false h = refl
    last false b h = refl

-- where not all writes were answered 0, no message was accepted
pub puts_refused : (ws : Writes) (v : ℕ) (s : Side) → Bytes ws → ok (ws ++ ((2308, v) ∷ [])) s ≡ false
    → (puts (ws ++ ((2308, v) ∷ [])) s).host.accepted ≡ s.host.accepted
unfolding ok puts
puts_refused [] v s b h = go (answered0 2308 v s.end) refl h
  where
    go : (a : Bool) → answered0 2308 v s.end ≡ a → (a && true) ≡ false
        → (cond a (written 2308 v s) (written 2308 v s)).host.accepted ≡ s.host.accepted
    go true e h = absurd (true≢false h)
    go false e h = refused_accept (2308, v) s e
puts_refused (w ∷ ws) v s b h =
    go (answered0 w.0 w.1 s.end) h (puts_refused ws v (written w.0 w.1 s) b.1)
  where
    next : Side
    next = written w.0 w.1 s

    go : (a : Bool) → (a && ok (ws ++ ((2308, v) ∷ [])) next) ≡ false
        → (ok (ws ++ ((2308, v) ∷ [])) next ≡ false
        → (puts (ws ++ ((2308, v) ∷ [])) next).host.accepted ≡ next.host.accepted)
        → (cond a (puts (ws ++ ((2308, v) ∷ [])) next) next).host.accepted ≡ s.host.accepted
    go true h f = f h ∙ bytes_accept w s b.0
    go false h f = bytes_accept w s b.0

pub puts_taken : (ws : Writes) (s : Side) → (puts ws s).host.taken ≡ s.host.taken
unfolding puts
puts_taken [] s = refl
puts_taken (w ∷ ws) s =
    either (λ (t : Side). t.host.taken ≡ s.host.taken) (answered0 w.0 w.1 s.end) _ _
    (λ _. puts_taken ws (written w.0 w.1 s)) (λ _. refl)

one_written : (w : ℕ × ℕ) (s : Side) → length (written w.0 w.1 s).host.written ≡ length s.host.written
one_written w s =
    either (λ (l : List ℕ). length l ≡ length s.host.written) (stores w.0 (answered0 w.0 w.1 s.end)) _ _
    (λ _. length-set s.host.written (w.0 - 2309) w.1) (λ _. refl)

pub puts_written : (ws : Writes) (s : Side) → length (puts ws s).host.written ≡ length s.host.written
unfolding puts
puts_written [] s = refl
puts_written (w ∷ ws) s =
    either (λ (t : Side). length t.host.written ≡ length s.host.written) (answered0 w.0 w.1 s.end) _ _
    (λ _. puts_written ws (written w.0 w.1 s) ∙ one_written w s) (λ _. one_written w s)

-- The message of number n

module _ (b : List ℕ) (k : IsBlock b) (n : ℕ) (h : n < 16) where
  byte : (i : ℕ) → get_or b i 0 ≤ 255
  byte i = above_get_d 255 b i k.bytes

  pub word_small : (i : ℕ) → word_of b n i < 65536
  word_small i = small _ _ (byte (8 * n + 2 * i)) (byte (8 * n + 2 * i + 1))
    where
      small : (x y : ℕ) → x ≤ 255 → y ≤ 255 → x + y * 256 < 65536
      small x y p q = omega arith

  pub part_small : Small (part_writes b n)
  part_small = (word_small 0, (word_small 1, (word_small 2, (word_small 3, (omega arith, tt)))))

  -- byte j of the message
  at : (i j : ℕ) → i ≡ 8 * n + j → j < 8 → get_or b i 0 ≡ get_or (take 8 (drop (8 * n) b)) j 0
  at i j e l =
      ap (λ (x : ℕ). get_or b x 0) e
      ∙ (sym (get_or-drop (8 * n) b j 0) ∙ sym (get_or-take 8 (drop (8 * n) b) j 0 l))

  low : (x y : ℕ) → x ≤ 255 → (x + y * 256) % 256 ≡ x
  low x y p = omega arith

  high : (x y : ℕ) → x ≤ 255 → (x + y * 256) / 256 ≡ y
  high x y p = omega arith

  word_halves : (i : ℕ) → i < 4
      → halves (word_of b n i)
      ≡ get_or (take 8 (drop (8 * n) b)) (2 * i) 0 ∷ get_or (take 8 (drop (8 * n) b)) (2 * i + 1) 0 ∷ []
  word_halves i l =
      ap₂ (λ (x y : ℕ). x ∷ y ∷ [])
      (low _ _ (byte (8 * n + 2 * i)) ∙ at (8 * n + 2 * i) (2 * i) refl (omega arith))
      (high _ _ (byte (8 * n + 2 * i)) ∙ at (8 * n + 2 * i + 1) (2 * i + 1) (omega arith) (omega arith))

  part_bytes : bytes_of (word_of b n 0 ∷ word_of b n 1 ∷ word_of b n 2 ∷ word_of b n 3 ∷ []) ≡ take 8 (drop (8 * n) b)
  unfolding bytes_of
  part_bytes =
      let e = k.size in
      four (word_halves 0 (omega arith)) (word_halves 1 (omega arith)) (word_halves 2 (omega arith))
      (word_halves 3 (omega arith))
      ∙ eight (take 8 (drop (8 * n) b)) (length-take-le 8 (drop (8 * n) b) (simp length-drop (omega arith)))
    where
      four : {p q r t x y z u : List ℕ} → p ≡ x → q ≡ y → r ≡ z → t ≡ u
          → p ++ (q ++ (r ++ (t ++ []))) ≡ x ++ (y ++ (z ++ (u ++ [])))
      four a b c d = λ i. a i ++ (b i ++ (c i ++ (d i ++ [])))

  part_number : (32768 + n * 256) / 256 % 16 ≡ n
  part_number = omega arith

  part_asks : bit15 (32768 + n * 256) ≡ true
  unfolding odd
  part_asks = let e : (32768 + n * 256) / 32768 ≡ 1 = omega arith in ap odd e

  four_set : (l : List ℕ) (x y z u : ℕ) → length l ≡ 4
      → set (set (set (set l 0 x) 1 y) 2 z) 3 u ≡ x ∷ y ∷ z ∷ u ∷ []
  four_set [] x y z u e = absurd (omega arith)
  four_set (a ∷ []) x y z u e = absurd (omega arith)
  four_set (a ∷ c ∷ []) x y z u e = absurd (omega arith)
  four_set (a ∷ c ∷ d ∷ []) x y z u e = absurd (omega arith)
  four_set (a ∷ c ∷ d ∷ f ∷ []) x y z u e = refl
  four_set (a ∷ c ∷ d ∷ f ∷ g ∷ l) x y z u e = absurd (omega arith)

  -- bytes that were stored
  stored : (i v : ℕ) (s : Side) → message_side (2309 + i) ≡ true → answered0 (2309 + i) v s.end ≡ true
      → (written (2309 + i) v s).host.written ≡ set s.host.written i v
  stored i v s m a =
      cond_true _ _ (and-true _ _ m a)
      ∙ (let e : 2309 + i - 2309 ≡ i = omega arith in ap (λ (j : ℕ). set s.host.written j v) e)

  pub part_accepted : (s : Side) → length s.host.written ≡ 4 → ok (part_writes b n) s ≡ true
      → (all (part_writes b n) s).host.accepted ≡ s.host.accepted ++ (message_of b n ∷ [])
  unfolding ok all
  part_accepted s e o =
      let s1 = written 2309 (word_of b n 0) s in
      let s2 = written 2310 (word_of b n 1) s1 in
      let s3 = written 2311 (word_of b n 2) s2 in
      let s4 = written 2312 (word_of b n 3) s3 in
      let o1 = and_both (answered0 2309 (word_of b n 0) s.end) _ o in
      let o2 = and_both (answered0 2310 (word_of b n 1) s1.end) _ o1.1 in
      let o3 = and_both (answered0 2311 (word_of b n 2) s2.end) _ o2.1 in
      let o4 = and_both (answered0 2312 (word_of b n 3) s3.end) _ o3.1 in
      let o5 = and_both (answered0 2308 (32768 + n * 256) s4.end) _ o4.1 in
      let w : s4.host.written ≡ word_of b n 0 ∷ word_of b n 1 ∷ word_of b n 2 ∷ word_of b n 3 ∷ [] =
      stored 3 (word_of b n 3) s3 refl o4.0
      ∙ (ap (λ (l : List ℕ). set l 3 (word_of b n 3))
      (stored 2 (word_of b n 2) s2 refl o3.0
      ∙ ap (λ (l : List ℕ). set l 2 (word_of b n 2))
      (stored 1 (word_of b n 1) s1 refl o2.0
      ∙ ap (λ (l : List ℕ). set l 1 (word_of b n 1)) (stored 0 (word_of b n 0) s refl o1.0)))
      ∙ four_set s.host.written _ _ _ _ e) in
      cond_true _ _ (and-true _ _ part_asks o5.0)
      ∙ ap₂ (λ (x : ℕ) (y : List ℕ). s.host.accepted ++ (record { number = x; bytes = y } ∷ []))
      part_number (ap bytes_of w ∙ part_bytes)
