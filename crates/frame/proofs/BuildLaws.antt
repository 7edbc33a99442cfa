-- The turns of the loops in `build` and `crc_right`: the symbols or bytes stored so far and those still to come are the
-- whole. Assumes nothing.
use Prim.Native.Nat.{ℕ, zero, suc, ◌+◌, ◌*◌, ◌/◌, ◌%◌, ◌<◌}
use native.Mathlib.Omega.{arith}
use mathlib.Core.List.{List, [], ◌∷◌, ◌++◌, map}
use mathlib.Core.Bool.{true}
use mathlib.Core.Path.{◌≡◌, refl, ap, ap₂, sym, ◌∙◌}
use borrow.Author.Tests.{lt-ltb}
use lib.Dec.{eqb, ltb, lit<, lit≤}
use lib.ListN.{length, take, drop, set, get_or, length-set, get_or-append}
use lib.Seq.{take_at, take_all, get_or-append-add}
use Rattle.std.proofs.lemmas.List.{get_or-map}
use Rattle.frame.specs.Frame.{crc_of, data_of, odd_symbol, symbols, build, crc_right}
use Rattle.laws.proofs.Lists.{fill_copy, fill_copy_end}
use Rattle.frame.proofs.FrameLaws.{symbol_for, crc_of_below, crc_bytes, build_symbols, with_crc_length, build_length}

-- the first i symbols of s, and what is left of the frame, are the frame
abbrev pub Building : List ℕ → List ℕ → ℕ → Type 0
Building l s i = take i s ++ drop i (build l) ≡ build l

symbols_at : (l : List ℕ) (i : ℕ) → i < length l → get_or (symbols l) i 0 ≡ symbol_for (ltb 0 i) (get_or l i 0)
unfolding symbols
symbols_at [] i h = absurd (omega arith)
symbols_at (d ∷ l) zero h = refl
symbols_at (d ∷ l) (suc i) h = rw (lt-ltb 0 (suc i) (omega arith)) (get_or-map odd_symbol l i 0 0 (omega arith))

-- the symbol of the byte at place i: one of the ten, or of the CRC's two
placed : (l s : List ℕ) (i x : ℕ) → length l ≡ 10 → length s ≡ 12 → i < 12
    → x ≡ symbol_for (ltb 0 i) (get_or (l ++ crc_bytes l) i 0) → Building l s i → Building l (set s i x) (i + 1)
placed l s i x n m h e b =
    rw (e ∙ sym (symbols_at (l ++ crc_bytes l) i (rw (with_crc_length l n) h)) ∙ ap (λ (t : List ℕ). get_or t i 0) (sym (build_symbols l)))
    (fill_copy (build l) s (build l) i (rw (build_length l n) h) (rw m h) b)

pub build_more : (l s : List ℕ) (i x : ℕ) → length l ≡ 10 → length s ≡ 12 → i < 10
    → x ≡ symbol_for (ltb 0 i) (get_or l i 0) → Building l s i → Building l (set s i x) (i + 1)
build_more l s i x n m h e b =
    placed l s i x n m (omega arith)
    (e ∙ ap (symbol_for (ltb 0 i)) (sym (get_or-append l (crc_bytes l) 0 i (rw n h)))) b

-- the two bytes of the CRC
crc_at : (l : List ℕ) (i : ℕ) → length l ≡ 10 → get_or (l ++ crc_bytes l) (10 + i) 0 ≡ get_or (crc_bytes l) i 0
crc_at l i n = ap (λ (k : ℕ). get_or (l ++ crc_bytes l) (k + i) 0) (sym n) ∙ get_or-append-add l (crc_bytes l) i 0

pub build_last : (l s : List ℕ) (c x y : ℕ) → length l ≡ 10 → length s ≡ 12 → c ≡ crc_of l
    → x ≡ symbol_for true (c % 256)
    → y ≡ symbol_for true (c / 256 % 256) → Building l s 10 → set (set s 10 x) 11 y ≡ build l
unfolding crc_bytes
build_last l s c x y n m e u v b =
    fill_copy_end (build l) (set (set s 10 x) 11 y) (build l) 12
    (rw (build_length l n) (lit≤ tt)) (rw (length-set, length-set, m) (lit≤ tt))
    (placed l (set s 10 x) 11 y n (length-set s 10 x ∙ m) (lit< tt)
    (v ∙ ap odd_symbol (ap (λ (k : ℕ). k / 256 % 256) e ∙ high (crc_of l) (crc_of_below l) ∙ sym (crc_at l 1 n)))
    (placed l s 10 x n m (lit< tt)
    (u ∙ ap odd_symbol (ap (λ (k : ℕ). k % 256) e ∙ sym (crc_at l 0 n))) b))
  where
    high : (k : ℕ) → k < 65536 → k / 256 % 256 ≡ k / 256
    high k h = omega arith

-- the first i bytes of s, and the data of what is left of the symbols, are the data of the symbols
abbrev pub Reading : List ℕ → List ℕ → ℕ → Type 0
Reading l s i = take i s ++ map data_of (drop i l) ≡ map data_of l

pub data_last : (l s : List ℕ) (i c : ℕ) → i ≡ 10 → length s ≡ 10 → c ≡ crc_of s → Reading l s i
    → eqb c (data_of (get_or l 10 0) + data_of (get_or l 11 0) * 256) ≡ crc_right l
unfolding crc_right
data_last l s i c t m e b =
    ap₂ eqb (e ∙ ap crc_of bytes) (omega arith)
  where
    bytes : s ≡ take 10 (map data_of l)
    bytes =
        sym (take_at s (map data_of (drop 10 l)) 10 m)
        ∙ ap (λ (t : List ℕ). take 10 (t ++ map data_of (drop 10 l))) (sym (take_all 10 s (rw m (lit≤ tt))))
        ∙ ap (take 10) (rw t at b)
