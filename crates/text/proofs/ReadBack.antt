-- What is printed is read as the same number.
--   glyph_read        a digit's byte counts what the digit does
--   long_append     a word that spells q, and a digit d behind it, spell q * base + d
--   hex_read          the digits of hex_of spell the value, where it has no more
--   short_read        so do those of short_of; decimal_read, those of decimal_of
-- Assumes nothing.
use Prim.Native.Nat.{ℕ, zero, suc, ◌+◌, ◌*◌, ◌/◌, ◌%◌, ◌^◌, ◌≤◌, ◌<◌}
use mathlib.Core.Bool.{Bool, true, false, cond}
use mathlib.Core.List.{List, [], ◌∷◌, ◌++◌}
use mathlib.Core.Path.{◌≡◌, refl, ap, ◌∙◌}
use native.Mathlib.Nat.{mod-lt, div-add-mod', div-le_self, div-lt_iff_lt-mul, pow-suc, pow-zero}
use native.Mathlib.Omega.{arith}
use borrow.Author.Tests.{lt-ltb, le-ltb, lt-leb, ltb-true, ltb-false}
use lib.Dec.{leb, ltb, lit<, lit≤}
use Rattle.std.specs.Prelude.{Result, Ok, Err}
use Rattle.text.specs.declared.fault.Fault.{Fault}
use Rattle.text.specs.Numbers.{digit_of, long_of}
use Rattle.text.specs.Printed.{glyph_of, hex_of, short_of, decimal_of}

glyph_by : (d : ℕ) (t : Bool) → ltb d 10 ≡ t → d < 16 → digit_of (glyph_of d) ≡ d
unfolding digit_of
glyph_by d true e h =
    let small : d < 10 = ltb-true d 10 e in
    rw e (simp (le-ltb (48 + d) 48 (omega arith), lt-ltb (48 + d) 58 (omega arith)) (omega arith))
glyph_by d false e h =
    let large : 10 ≤ d = ltb-false d 10 e in
    rw e
    (simp (
      le-ltb (55 + d) 48 (omega arith),
      le-ltb (55 + d) 58 (omega arith),
      le-ltb (55 + d) 65 (omega arith),
      lt-ltb (55 + d) 71 (omega arith),
    ) (omega arith))

pub glyph_read : (d : ℕ) → d < 16 → digit_of (glyph_of d) ≡ d
glyph_read d h = glyph_by d (ltb d 10) refl h

wrong : (f : Fault) (q : ℕ) → Err f ≡ Ok q → ⊥
wrong f q e = let z : ◌≡◌ {A = ℕ} 0 1 = cc in omega arith

-- a word that goes on with the digit b, where it spells a number
goes_on : (s t : Bool) (x : Result ℕ Fault) (f g : Fault) (q : ℕ)
    → cond s (Err f) (cond t (Err g) x) ≡ Ok q
    → (s ≡ false) × (t ≡ false) × (x ≡ Ok q)
goes_on true t x f g q e = absurd (wrong f q e)
goes_on false true x f g q e = absurd (wrong g q e)
goes_on false false x f g q e = (refl, refl, e)

pub long_append : (base most v : ℕ) (l : List ℕ) (q d g : ℕ) → long_of base most v l ≡ Ok q
    → digit_of g ≡ d → d < base → q * base + d ≤ most
    → long_of base most v (l ++ (g ∷ [])) ≡ Ok (q * base + d)
unfolding long_of
long_append base most v [] q d g e k h m =
    let same : v ≡ q = cc in
    rw (same, k, lt-leb base d h, le-ltb most (q * base + d) m)
long_append base most v (b ∷ l) q d g e k h m =
    let next = v * base + digit_of b in
    let on = goes_on (leb base (digit_of b)) (ltb most next) (long_of base most next l) _ _ q e in
    rw (on.0, on.1) (long_append base most next l q d g on.2 k h m)

below : (b n v : ℕ) → 0 < b → v < b ^ suc n → v / b < b ^ n
below b n v p h = (div-lt_iff_lt-mul p).1 (rw pow-suc at h)

pub hex_read : (n v most : ℕ) → v < 16 ^ n → v ≤ most → long_of 16 most 0 (hex_of n v) ≡ Ok v
unfolding long_of
hex_read zero v most h m = ap Ok (omega arith)
hex_read (suc n) v most h m =
    long_append 16 most 0 (hex_of n (v / 16)) (v / 16) (v % 16) _
    (hex_read n (v / 16) most (below 16 n v (lit< tt) h) (omega (arith, div-le_self v 16)))
    (glyph_read (v % 16) (mod-lt v (lit< tt)))
    (mod-lt v (lit< tt))
    (rw (div-add-mod' v 16) m)
    ∙ ap Ok (div-add-mod' v 16)

short_by : (b n v most : ℕ) (t : Bool) → ltb v b ≡ t → 0 < b → b ≤ 16 → v < b ^ n → v ≤ most
    → long_of b most 0 (short_of b n v) ≡ Ok v
unfolding long_of
short_by b zero v most t e p q h m = ap Ok (omega (arith, pow-zero b))
short_by b (suc n) v most true e p q h m =
    rw e
    (long_append b most 0 [] 0 v (glyph_of v) refl (glyph_read v (omega (arith, ltb-true v b e))) (ltb-true v b e)
    (omega arith)
    ∙ ap Ok (omega arith))
short_by b (suc n) v most false e p q h m =
    rw e
    (long_append b most 0 (short_of b n (v / b)) (v / b) (v % b) (glyph_of (v % b))
    (short_by b n (v / b) most (ltb (v / b) b) refl p q (below b n v p h) (omega (arith, div-le_self v b)))
    (glyph_read (v % b) (omega (arith, mod-lt v p)))
    (mod-lt v p)
    (rw (div-add-mod' v b) m)
    ∙ ap Ok (div-add-mod' v b))

pub short_read : (b n v most : ℕ) → 0 < b → b ≤ 16 → v < b ^ n → v ≤ most
    → long_of b most 0 (short_of b n v) ≡ Ok v
short_read b n v most = short_by b n v most (ltb v b) refl

pub decimal_read : (v most : ℕ) → v < 2 ^ 64 → v ≤ most → long_of 10 most 0 (decimal_of v) ≡ Ok v
decimal_read v most h m = short_read 10 20 v most (lit< tt) (lit≤ tt) (omega arith) m
