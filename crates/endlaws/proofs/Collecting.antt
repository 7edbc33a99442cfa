-- What the collection holds while symbols are taken.
--   collects l c   the collection c after the symbols l
--   Odds l         every symbol of l is unmarked and odd
--   Sound l        nothing, or an unmarked even symbol and then Odds: a frame's beginning
--   Holding c p    the collection c holds exactly the symbols p
--   Trace ts c     c holds the last symbols of ts, and they are a frame's beginning of at most eleven
-- Assumes nothing.
use Prim.Native.Nat.{ℕ, suc, ◌+◌, ◌≤◌, ◌<◌}
use mathlib.Core.Bool.{Bool, true, false, not, ◌&&◌, false≢true}
use mathlib.Core.List.{List, [], ◌∷◌, ◌++◌, append_assoc, append-nil}
use mathlib.Core.Path.{◌≡◌, refl, sym, ap, ap₂, ◌∙◌}
use native.Mathlib.Nat.{not-suc-le-zero}
use native.Mathlib.Numerals.{add-one}
use native.Mathlib.Omega.{arith}
use lib.Dec.{eqb}
use lib.ListN.{length, set, take, length-append, drop_of_length-le}
use lib.Seq.{take-suc-set, set_split}
use borrow.Author.Tests.{ne_eqb, eq-eqb, eqb-true, eqb-false}
use Rattle.frame.specs.Frame.{marked, even, crc_right}
use Rattle.receiver.specs.declared.Collector.{Collector}
use Rattle.receiver.specs.Receiving.{completes, placed, count_with, collected, accepts}
use Rattle.laws.proofs.Bools.{cond_true, cond_false}
use Rattle.endlaws.proofs.Shapes.{placed_length}

unfoldable pub collects : List ℕ → Collector → Collector
collects [] c = c
collects (s ∷ l) c = collects l (collected s c)

abbrev pub Odds : List ℕ → Type 0
Odds [] = Unit {0}
Odds (s ∷ l) = (marked s ≡ false) × (even s ≡ false) × Odds l

abbrev pub Sound : List ℕ → Type 0
Sound [] = Unit {0}
Sound (s ∷ l) = (marked s ≡ false) × (even s ≡ true) × Odds l

pub record Holding (c : Collector) (p : List ℕ) : Type 0 where
  pub whole : length c.symbols ≡ 12
  pub count : c.count ≡ length p
  pub held : take (length p) c.symbols ≡ p

pub holding_none : (c : Collector) → length c.symbols ≡ 12 → c.count ≡ 0 → Holding c []
holding_none c h k = record { whole = h; count = k; held = refl }

pub holding_start : (s : ℕ) (c : Collector) → length c.symbols ≡ 12 → marked s ≡ false → even s ≡ true
    → Holding (collected s c) (s ∷ [])
holding_start s c h m v = record {
  whole = placed_length s c h;
  count = cond_false _ _ m ∙ cond_true _ _ v;
  held = ap (take 1) (cond_false _ _ m ∙ cond_true _ _ v) ∙ take-suc-set c.symbols 0 s (omega arith);
}

-- an odd symbol is added
added : (s : ℕ) (c : Collector) (p : List ℕ) → Holding c p → 0 < length p → marked s ≡ false → even s ≡ false
    → placed s c ≡ set c.symbols (length p) s
added s c p h a m v =
    cond_false _ _ m
    ∙ (cond_false _ _ v
    ∙ (cond_false _ _ (ne_eqb c.count 0 (λ e. omega (arith, h.count)))
    ∙ ap (λ (n : ℕ). set c.symbols n s) h.count))

pub holding_more : (s : ℕ) (c : Collector) (p : List ℕ) → Holding c p → 0 < length p → length p ≤ 10
    → marked s ≡ false → even s ≡ false → Holding (collected s c) (p ++ (s ∷ []))
holding_more s c p h a b m v = record {
  whole = placed_length s c h.whole;
  count =
      cond_false _ _ m
      ∙ (cond_false _ _ v
      ∙ (cond_false _ _ (ne_eqb c.count 0 (λ e. omega (arith, h.count)))
      ∙ (cond_false _ _ (ne_eqb c.count 11 (λ e. omega (arith, h.count)))
      ∙ (ap (λ (n : ℕ). n + 1) h.count ∙ sym (length-append p (s ∷ []))))));
  held =
      ap (λ (n : ℕ). take n (placed s c)) (length-append p (s ∷ []) ∙ add-one (length p))
      ∙ (ap (take (suc (length p))) (added s c p h a m v)
      ∙ (take-suc-set c.symbols (length p) s (omega (arith, h.whole))
      ∙ ap (λ (l : List ℕ). l ++ (s ∷ [])) h.held));
}

pub holding_odds : (l : List ℕ) (c : Collector) (p : List ℕ) → Holding c p → 0 < length p → length p + length l ≤ 11
    → Odds l → Holding (collects l c) (p ++ l)
unfolding collects
holding_odds [] c p h a b o = rw (append-nil p) h
holding_odds (s ∷ l) c p h a b o =
    rw (append_assoc p (s ∷ []) l) at
    (holding_odds l (collected s c) (p ++ (s ∷ []))
    (holding_more s c p h a (fits (length p) (length l) b) o.0 o.1)
    (rw (length-append p (s ∷ [])) (omega arith)) (rw (length-append p (s ∷ [])) (omega arith)) o.2)
  where
    fits : (m n : ℕ) → m + suc n ≤ 11 → m ≤ 10
    fits m n k = omega arith

-- a frame's beginning, taken by any collection, is held
pub holding_frame : (x : ℕ) (l : List ℕ) (c : Collector) → length c.symbols ≡ 12 → Sound (x ∷ l) → length l ≤ 10
    → Holding (collects (x ∷ l) c) (x ∷ l)
unfolding collects
holding_frame x l c h s k =
    holding_odds l (collected x c) (x ∷ []) (holding_start x c h s.0 s.1) (omega arith) (omega arith) s.2

-- the twelfth symbol: what is held and this symbol
pub placed_twelfth : (s : ℕ) (c : Collector) (p : List ℕ) → Holding c p → length p ≡ 11 → marked s ≡ false
    → even s ≡ false
    → placed s c ≡ p ++ (s ∷ [])
placed_twelfth s c p h k m v =
    added s c p h (omega arith) m v
    ∙ (set_split c.symbols (length p) s (omega (arith, h.whole))
    ∙ ap₂ (λ (a b : List ℕ). a ++ (s ∷ b)) h.held
    (drop_of_length-le c.symbols {i = suc (length p)} (omega (arith, h.whole))))

-- its CRC decides
pub accepts_twelfth : (s : ℕ) (c : Collector) (p : List ℕ) → Holding c p → length p ≡ 11 → marked s ≡ false
    → even s ≡ false
    → accepts s c ≡ crc_right (p ++ (s ∷ []))
accepts_twelfth s c p h k m v =
    ap (λ (b : Bool). b && crc_right (placed s c)) completed ∙ ap crc_right (placed_twelfth s c p h k m v)
  where
    completed : completes s c ≡ true
    completed = rw (m, v, eq-eqb c.count 11 (h.count ∙ k))

-- a symbol that completes nothing: marked, even, or not the twelfth
pub accepts_only : (s : ℕ) (c : Collector) → accepts s c ≡ true
    → (marked s ≡ false) × (even s ≡ false) × (c.count ≡ 11)
accepts_only s c h = go (marked s) (even s) (eqb c.count 11) refl h
  where
    go : (m v n : Bool) → eqb c.count 11 ≡ n → ((not m && (not v && n)) && crc_right (placed s c)) ≡ true
        → (m ≡ false) × (v ≡ false) × (c.count ≡ 11)
    go true v n e h = absurd (false≢true h)
    go false true n e h = absurd (false≢true h)
    go false false true e h = (refl, refl, eqb-true c.count 11 e)
    go false false false e h = absurd (false≢true h)

-- Symbols taken since the collection was empty

pub record Trace (ts : List ℕ) (c : Collector) : Type 0 where
  pub before : List ℕ
  pub now : List ℕ
  pub split : ts ≡ before ++ now
  pub holding : Holding c now
  pub sound : Sound now
  pub few : length now ≤ 11

pub odds_snoc : (l : List ℕ) (s : ℕ) → Odds l → marked s ≡ false → even s ≡ false → Odds (l ++ (s ∷ []))
odds_snoc [] s o m v = (m, v, tt)
odds_snoc (x ∷ l) s o m v = (o.0, o.1, odds_snoc l s o.2 m v)

pub sound_snoc : (l : List ℕ) (s : ℕ) → Sound l → 0 < length l → marked s ≡ false → even s ≡ false
    → Sound (l ++ (s ∷ []))
sound_snoc [] s o k m v = absurd (not-suc-le-zero k)
sound_snoc (x ∷ l) s o k m v = (o.0, o.1, odds_snoc l s o.2 m v)

-- the collection is emptied, or stays empty
trace_empty : (ts : List ℕ) (s : ℕ) (c : Collector) → length c.symbols ≡ 12 → count_with s c ≡ 0
    → Trace (ts ++ (s ∷ [])) (collected s c)
trace_empty ts s c h k = record {
  before = ts ++ (s ∷ []);
  now = [];
  split = sym (append-nil (ts ++ (s ∷ [])));
  holding = holding_none (collected s c) (placed_length s c h) k;
  sound = tt;
  few = omega arith;
}

trace_step : (ts : List ℕ) (s : ℕ) (c : Collector) → Trace ts c → Trace (ts ++ (s ∷ [])) (collected s c)
trace_step ts s c t = go (marked s) (even s) (eqb c.count 0) (eqb c.count 11) refl refl refl refl
  where
    go : (m v z f : Bool) → marked s ≡ m → even s ≡ v → eqb c.count 0 ≡ z → eqb c.count 11 ≡ f
        → Trace (ts ++ (s ∷ [])) (collected s c)
    go true v z f mm vv zz ff = trace_empty ts s c t.holding.whole (cond_true _ _ mm)
    go false true z f mm vv zz ff = record {
      before = ts;
      now = s ∷ [];
      split = refl;
      holding = holding_start s c t.holding.whole mm vv;
      sound = (mm, vv, tt);
      few = omega arith;
    }
    go false false true f mm vv zz ff =
        trace_empty ts s c t.holding.whole (cond_false _ _ mm ∙ (cond_false _ _ vv ∙ cond_true _ _ zz))
    go false false false true mm vv zz ff =
        trace_empty ts s c t.holding.whole
        (cond_false _ _ mm ∙ (cond_false _ _ vv ∙ (cond_false _ _ zz ∙ cond_true _ _ ff)))
    go false false false false mm vv zz ff = record {
      before = t.before;
      now = t.now ++ (s ∷ []);
      split = ap (λ (l : List ℕ). l ++ (s ∷ [])) t.split ∙ append_assoc t.before t.now (s ∷ []);
      holding = holding_more s c t.now t.holding fits.0 fits.1 mm vv;
      sound = sound_snoc t.now s t.sound fits.0 mm vv;
      few = rw (length-append t.now (s ∷ [])) (let f = fits.1 in omega arith);
    }
      where
        fits : (0 < length t.now) × (length t.now ≤ 10)
        fits =
            omega (arith, t.holding.count, t.few, eqb-false c.count 0 zz, eqb-false c.count 11 ff)

pub trace_all : (l ts : List ℕ) (c : Collector) → Trace ts c → Trace (ts ++ l) (collects l c)
unfolding collects
trace_all [] ts c t = rw (append-nil ts) t
trace_all (s ∷ l) ts c t =
    rw (append_assoc ts (s ∷ []) l) at (trace_all l (ts ++ (s ∷ [])) (collected s c) (trace_step ts s c t))

pub trace_start : (c : Collector) → length c.symbols ≡ 12 → c.count ≡ 0 → Trace [] c
trace_start c h k = record {
  before = [];
  now = [];
  split = refl;
  holding = holding_none c h k;
  sound = tt;
  few = omega arith;
}
