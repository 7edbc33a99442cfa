-- What a side has sent, as cells: the frame and the place in it of each symbol, newest first.
--   Frame        the ten bytes it was built from, and two counts when it was made: own messages acknowledged, partner's
--                messages entered
--   Cell         a frame and a place in it
--   silent_cell  what stands before the first cell: it says nothing
--   cell_at, frame_at   the cell of i slots ago, and its frame
--   rank f       twice the acknowledged count, and one more for Valid: it never falls along a line
--   symbol_in c  the symbol at that place
--   Line         the cells of a line: whole frames, place after place, in order
--   SenderOk     a sender's position and symbols, and what it sent, are those of its line
--   falls        what never rises with age is at most what it is now
--   line_push    one cell more
-- Assumes nothing.
pub mod Words
pub mod Sent
pub mod Arriving
pub mod Collecting
use Prim.Native.Nat.{ℕ, zero, suc, ◌+◌, ◌*◌, ◌%◌, ◌≤◌, ◌<◌}
use mathlib.Core.List.{List, ◌∷◌, map}
use mathlib.Core.Path.{◌≡◌}
use native.Mathlib.Nat.{le_refl, le_trans}
use native.Mathlib.Omega.{arith}
use lib.ListN.{length, get_or, replicate}
use Rattle.frame.specs.Frame.{build}
use Rattle.protocol.specs.Steps.{num}
use Rattle.link.proofs.Line.Words.{said}

pub record Frame : Type 0 where
  pub ten : List ℕ
  pub ack_count : ℕ
  pub enter_count : ℕ

pub record Cell : Type 0 where
  pub frame : Frame
  pub place : ℕ

abbrev pub silent_cell : Cell
silent_cell = record { frame = record { ten = replicate 10 0; ack_count = 0; enter_count = 0 }; place = 0 }

abbrev pub cell_at : List Cell → ℕ → Cell
cell_at cs i = get_or cs i silent_cell

abbrev pub frame_at : List Cell → ℕ → Frame
frame_at cs i = (cell_at cs i).frame

abbrev pub rank : Frame → ℕ
rank f = 2 * f.ack_count + num (said f.ten).valid

abbrev pub symbol_in : Cell → ℕ
symbol_in c = get_or (build c.frame.ten) c.place 0

pub record Line (cs : List Cell) : Type 0 where
  pub ten : (i : ℕ) → length (frame_at cs i).ten ≡ 10
  pub within : (i : ℕ) → (cell_at cs i).place < 12
  pub places : (i : ℕ) → i < length cs → ((cell_at cs i).place + (i + 1)) % 12 ≡ length cs % 12
  pub same : (i : ℕ) → 0 < (cell_at cs i).place → frame_at cs (suc i) ≡ frame_at cs i
  pub ranks : (i : ℕ) → rank (frame_at cs (suc i)) ≤ rank (frame_at cs i)
  pub entries : (i : ℕ) → (frame_at cs (suc i)).enter_count ≤ (frame_at cs i).enter_count

pub record SenderOk (p : ℕ) (l sent : List ℕ) (cs : List Cell) : Type 0 where
  pub position : p ≡ length cs % 12
  pub current : 0 < p → l ≡ build (frame_at cs 0).ten
  pub symbols : sent ≡ map symbol_in cs

pub falls : (f : ℕ → ℕ) → ((i : ℕ) → f (suc i) ≤ f i) → (i : ℕ) → f i ≤ f 0
falls f h zero = le_refl (f 0)
falls f h (suc i) = le_trans (h i) (falls f h i)

pub line_push : {cs : List Cell} → Line cs → (c : Cell) → c.place ≡ length cs % 12 → length c.frame.ten ≡ 10
    → (0 < c.place → frame_at cs 0 ≡ c.frame) → rank (frame_at cs 0) ≤ rank c.frame
    → (frame_at cs 0).enter_count ≤ c.frame.enter_count → Line (c ∷ cs)
line_push {cs} line c at long same ranks entries = record {
  ten = tens;
  within = withins;
  places = at_places;
  same = sames;
  ranks = all_ranks;
  entries = all_entries;
}
  where
    tens : (i : ℕ) → length (frame_at (c ∷ cs) i).ten ≡ 10
    tens zero = long
    tens (suc i) = line.ten i

    withins : (i : ℕ) → (cell_at (c ∷ cs) i).place < 12
    withins zero = omega arith
    withins (suc i) = line.within i

    at_places : (i : ℕ) → i < length (c ∷ cs) → ((cell_at (c ∷ cs) i).place + (i + 1)) % 12 ≡ length (c ∷ cs) % 12
    at_places zero h = omega arith
    at_places (suc i) h = let p : i < length cs = omega arith in omega (arith, line.places i p)

    sames : (i : ℕ) → 0 < (cell_at (c ∷ cs) i).place → frame_at (c ∷ cs) (suc i) ≡ frame_at (c ∷ cs) i
    sames zero h = same h
    sames (suc i) h = line.same i h

    all_ranks : (i : ℕ) → rank (frame_at (c ∷ cs) (suc i)) ≤ rank (frame_at (c ∷ cs) i)
    all_ranks zero = ranks
    all_ranks (suc i) = line.ranks i

    all_entries : (i : ℕ) → (frame_at (c ∷ cs) (suc i)).enter_count ≤ (frame_at (c ∷ cs) i).enter_count
    all_entries zero = entries
    all_entries (suc i) = line.entries i
