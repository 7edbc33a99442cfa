-- A collection on a line: one symbol more of what the partner sent, marked or not, keeps it in step with the line, and
-- a frame is accepted only whole. The argument is the crate protocol's, over a built frame's symbols.
--   Sync c x       the collection c is empty, or it has the frame of the cell x, the last that arrived, up to its place
--   NextCell x y   y is sent after x: the same frame's next place, or place 0
--   line_next      each cell of a line is next to the one before it
--   Joins s c y    what the symbol s of the cell y does to the collection c: marked_joins, sound_joins
--   sound_counted, sound_accepts   a collection that has all of the frame so far has the next symbol too; with the last
--                  one the frame is accepted
-- Assumes nothing.
use Prim.Native.Nat.{ℕ, zero, suc, ◌+◌, ◌%◌, ◌≤◌, ◌<◌}
use mathlib.Core.Bool.{Bool, true, false, false≢true}
use mathlib.Core.List.{List}
use mathlib.Core.Path.{◌≡◌, refl, sym, ap, ◌∙◌}
use native.Mathlib.Omega.{arith}
use lib.Dec.{eqb, ltb}
use lib.ListN.{length}
use borrow.Author.Tests.{ne_eqb, lt-leb, ltb-true, ltb-false}
use Rattle.frame.specs.Frame.{build, marked, even}
use Rattle.frame.proofs.FrameLaws.{build_length, build_below, build_first, build_rest, build_crc}
use Rattle.receiver.specs.declared.Collector.{Collector}
use Rattle.receiver.specs.Receiving.{placed, count_with, collected, accepts}
use Rattle.laws.proofs.Bools.{and_both}
use Rattle.protocol.specs.Steps as steps
use Rattle.protocol.proofs.Collects as collects
use Rattle.protocol.proofs.Collects.{Begins, Comes, marked_begins}
use Rattle.link.proofs.Line.{Frame, Cell, cell_at, symbol_in, Line}

abbrev pub Sync : Collector → Cell → Type 0
Sync c x = Begins (build x.frame.ten) x.place c.symbols c.count

pub record NextCell (x y : Cell) : Type 0 where
  pub frame : 0 < y.place → x.frame ≡ y.frame
  pub place : 0 < y.place → x.place + 1 ≡ y.place
  pub within : y.place < 12
  pub ten : length y.frame.ten ≡ 10

pub line_next : {cs : List Cell} → Line cs → (d : ℕ) → d < length cs → NextCell (cell_at cs (suc d)) (cell_at cs d)
line_next {cs} line d h = record {
  frame = line.same d;
  place = λ p. later p (line.places d h) (line.within d) (line.within (suc d)) (line.places (suc d));
  within = line.within d;
  ten = line.ten d;
}
  where
    later : {p q : ℕ} → 0 < q → (q + (d + 1)) % 12 ≡ length cs % 12 → q < 12 → p < 12
        → (suc d < length cs → (p + (suc d + 1)) % 12 ≡ length cs % 12) → p + 1 ≡ q
    later {p} {q} some at w w' f = go (ltb (suc d) (length cs)) refl
      where
        go : (b : Bool) → ltb (suc d) (length cs) ≡ b → p + 1 ≡ q
        go true t = let g = f (ltb-true (suc d) (length cs) t) in omega arith
        go false t = let g = ltb-false (suc d) (length cs) t in omega arith

pub record Joins (s : ℕ) (c : Collector) (y : Cell) : Type 0 where
  pub sync : Sync (collected s c) y
  pub frame_is : accepts s c ≡ true → placed s c ≡ build y.frame.ten

pub marked_joins : (s : ℕ) (c : Collector) (y : Cell) → marked s ≡ true → Joins s c y
marked_joins s c y m = record {
  sync = rw m (marked_begins (build y.frame.ten) y.place (even s) s c.symbols c.count);
  frame_is = rw m λ h. absurd (false≢true h);
}

module _ (c : Collector) (x y : Cell) (twelve : length c.symbols ≡ 12) (upto : c.count ≤ 11) (sync : Sync c x)
    (next : NextCell x y) where
  unmarked : marked (symbol_in y) ≡ false
  unmarked = lt-leb 512 (symbol_in y) (build_below y.frame.ten y.place)

  parity : eqb y.place 0 ≡ even (symbol_in y)
  parity = go y.place refl
    where
      go : (q : ℕ) → y.place ≡ q → eqb y.place 0 ≡ even (symbol_in y)
      go zero z = rw z (sym (build_first y.frame.ten next.ten))
      go (suc q) z =
          ne_eqb y.place 0 (λ e. omega arith)
          ∙ sym (build_rest y.frame.ten y.place next.ten (omega arith) next.within)

  comes : Comes (build x.frame.ten) x.place (build y.frame.ten) y.place c.symbols c.count
  comes = record {
    before = sync;
    same = λ h. ap (λ (f : Frame). build f.ten) (next.frame h);
    next = next.place;
    within = next.within;
    frame = build_length y.frame.ten next.ten;
    room = twelve;
    count = upto;
  }

  abbrev s : ℕ
  s = symbol_in y

  frame_whole : steps.completes false (even s) c.count ≡ true
      → steps.placed false (even s) s c.symbols c.count ≡ build y.frame.ten
  frame_whole = collects.sound_whole 0 comes (even s) parity

  pub sound_joins : Joins (symbol_in y) c y
  sound_joins = record {
    sync = rw unmarked (collects.sound_begins 0 comes (even s) parity);
    frame_is = rw unmarked λ h. frame_whole (and_both _ _ h).0;
  }

  pub sound_counted : (0 < y.place → c.count ≡ y.place) → count_with (symbol_in y) c ≡ (y.place + 1) % 12
  sound_counted all = rw unmarked (collects.sound_counted 0 comes (even s) parity all)

  pub sound_accepts : y.place ≡ 11 → c.count ≡ 11 → accepts (symbol_in y) c ≡ true
  sound_accepts z k = rw unmarked (rw (frame_whole done, done) (build_crc y.frame.ten next.ten))
    where
      done : steps.completes false (even s) c.count ≡ true
      done = rw (sym parity, z, k)
