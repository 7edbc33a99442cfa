-- Every call keeps the shape of an end.
--   after_shaped                 each call keeps it (the end after reset has it: crate end, reset_shaped)
--   placed_keeps, placed_length  what storing a received symbol keeps
--   counted_keeps                what counting it keeps
--   tallied_below                counts of sixteen bits stay such
-- Assumes nothing.
use Prim.Native.Nat.{ℕ, suc, ◌+◌, ◌<◌, ◌≤◌, ◌%◌, ◌/◌}
use mathlib.Core.Bool.{Bool, true, false}
use mathlib.Core.List.{List, map}
use mathlib.Core.Path.{◌≡◌, ap, ◌∙◌}
use native.Mathlib.Omega.{arith}
use lib.Dec.{eqb, ltb}
use lib.ListN.{length, get_or, set, take, drop, length-set, length-take, length-drop, length-map}
use borrow.Author.Tests.{eqb-false, ltb-true}
use Rattle.frame.proofs.FrameLaws.{build_length, above_data}
use Rattle.frame.specs.Frame.{data_of, marked, even}
use Rattle.frame.specs.declared.reason.Reason.{Reason}
use Rattle.frame.specs.declared.reason.Reason.TheVariants.{Nothing, Accepted, Crc, Marked, Parity}
use Rattle.end.specs.declared.End.{End}
use Rattle.receiver.specs.declared.Collector.{Collector}
use Rattle.receiver.specs.declared.Counts.{Counts}
use Rattle.receiver.specs.declared.Inbox.{Inbox}
use Rattle.receiver.specs.Counting.{most, more, tallied, listed}
use Rattle.laws.specs.Above.{above}
use Rattle.end.specs.Sending.{ten_bytes, frame_start, started}
use Rattle.receiver.specs.Receiving.{placed, count_with, said_by, accepts, reason_by, enters, entered}
use Rattle.end.specs.Taking.{settled, taken}
use Rattle.end.specs.Registers.{written}
use Rattle.end.specs.Calls.{Call, after}
use Rattle.end.specs.Shape.{Shaped}
use Rattle.laws.proofs.Bools.{either}
use Rattle.laws.proofs.AboveLaws.{above_get_d, above_set}
use Rattle.endlaws.proofs.Done.{after_keeps}

-- symbols 2 to 9 of twelve are eight bytes
eight : (l : List ℕ) → length l ≡ 12 → length (map data_of (take 8 (drop 2 l))) ≡ 8
eight l h = length-map (take 8 (drop 2 l)) data_of ∙ (length-take 8 (drop 2 l) ∙ rw (length-drop 2 l, h))

pub ten_length : (a l : Bool) (e : End) → length e.outbox.bytes ≡ 8 → length e.sender.symbols ≡ 12
    → length (ten_bytes a l e) ≡ 10
ten_length a true e h k = rw h
ten_length a false e h k = ap (λ (n : ℕ). suc (suc n)) (eight e.sender.symbols k)

start_shaped : (n : Bool) (e : End) → Shaped e → Shaped (started n e)
unfolding frame_start
start_shaped true e h = search (build_length, ten_length)
start_shaped false e h = h

-- a property of the collected symbols that storing an unmarked symbol keeps
pub placed_keeps : (P : List ℕ → Type 0) (s : ℕ) (c : Collector)
    → P c.symbols
    → ((i : ℕ) → marked s ≡ false → P (set c.symbols i s))
    → P (placed s c)
placed_keeps P s c p q =
    either P (marked s) _ _ (λ _. p)
    (λ m. either P (even s) _ _ (λ _. q 0 m)
    (λ _. either P (eqb c.count 0) _ _ (λ _. p) (λ _. q c.count m)))

-- a property of the count that emptying, starting and adding keep
pub counted_keeps : (P : ℕ → Type 0) (s : ℕ) (c : Collector) → P 0 → P 1 → (¬ (c.count ≡ 11) → P (c.count + 1))
    → P (count_with s c)
counted_keeps P s c none one more =
    either P (marked s) _ _ (λ _. none)
    (λ _. either P (even s) _ _ (λ _. one)
    (λ _. either P (eqb c.count 0) _ _ (λ _. none)
    (λ _. either P (eqb c.count 11) _ _ (λ _. none) (λ t. more (eqb-false c.count 11 t)))))

pub placed_length : (s : ℕ) (c : Collector) → length c.symbols ≡ 12 → length (placed s c) ≡ 12
placed_length s c h = placed_keeps (λ (l : List ℕ). length l ≡ 12) s c h (λ i _. length-set c.symbols i s ∙ h)

entered_length : (b : Bool) (l : List ℕ) (i : Inbox) → length l ≡ 12 → length i.bytes ≡ 8
    → length (entered b l i).bytes ≡ 8
entered_length true l i h k = eight l h
entered_length false l i h k = k

entered_below : (b : Bool) (l : List ℕ) (i : Inbox) → above 255 i.bytes ≡ false
    → above 255 (entered b l i).bytes ≡ false
entered_below true l i k = above_data (take 8 (drop 2 l))
entered_below false l i k = k

-- a count stays one of sixteen bits, and so do all four
more_below : (n : ℕ) → n ≤ most → more n ≤ most
more_below n h = either (λ (m : ℕ). m ≤ most) (ltb n most) (n + 1) n (λ t. omega (arith, ltb-true n most t)) (λ _. h)

one_more : (l : List ℕ) (i : ℕ) → above most l ≡ false → above most (set l i (more (get_or l i 0))) ≡ false
one_more l i h = above_set most l i (more (get_or l i 0)) (more_below (get_or l i 0) (above_get_d most l i h)) h

tallied_below : (r : Reason) (k : Counts) → above most (listed k) ≡ false → above most (listed (tallied r k)) ≡ false
unfolding tallied
tallied_below Nothing k h = h
tallied_below Accepted k h = one_more (listed k) 0 h
tallied_below Crc k h = one_more (listed k) 1 h
tallied_below (Marked n) k h = one_more (listed k) 2 h
tallied_below (Parity n) k h = one_more (listed k) 3 h

-- whether the message of the frame that s completes enters
abbrev pub enters_now : ℕ → End → Bool
enters_now s e = enters (accepts s e.collector) (said_by (placed s e.collector)) (settled e)

taken_shaped : (s : ℕ) (e : End) → Shaped e → Shaped (taken s e)
unfolding taken
taken_shaped s e h = record {
  sending = h.sending;
  collecting = placed_length s e.collector h.collecting;
  eight_out = h.eight_out;
  eight_in =
      entered_length (enters_now s e) (placed s e.collector) (settled e)
      (placed_length s e.collector h.collecting) h.eight_in;
  bytes_out = h.bytes_out;
  bytes_in = entered_below (enters_now s e) (placed s e.collector) (settled e) h.bytes_in;
  counts = tallied_below (reason_by s e.collector) e.counts h.counts;
}

bytes_length : (l : List ℕ) (i j x y : ℕ) → length l ≡ 8 → length (set (set l i x) j y) ≡ 8
bytes_length l i j x y h = length-set (set l i x) j y ∙ (length-set l i x ∙ h)

bytes_below : (l : List ℕ) (i j v : ℕ) → v < 65536 → above 255 l ≡ false
    → above 255 (set (set l i (v % 256)) j (v / 256)) ≡ false
bytes_below l i j v h k =
    above_set 255 (set l i (v % 256)) j (v / 256) (omega arith) (above_set 255 l i (v % 256) (omega arith) k)

written_shaped : (e : End) (r v : ℕ) → v < 65536 → Shaped e → Shaped (written e r v)
written_shaped e r v k h = record {
  sending = h.sending;
  collecting = h.collecting;
  eight_out =
      either (λ (l : List ℕ). length l ≡ 8) (eqb r 2308) _ _ (λ _. h.eight_out)
      (λ _. bytes_length e.outbox.bytes _ _ _ _ h.eight_out);
  eight_in = h.eight_in;
  bytes_out =
      either (λ (l : List ℕ). above 255 l ≡ false) (eqb r 2308) _ _ (λ _. h.bytes_out)
      (λ _. bytes_below e.outbox.bytes _ _ v k h.bytes_out);
  bytes_in = h.bytes_in;
  counts = h.counts;
}

pub after_shaped : (c : Call) (e : End) → Shaped e → Shaped (after c e)
after_shaped c e h =
    after_keeps Shaped e
    (λ _. record {
      sent = start_shaped (eqb e.sender.position 0) e h;
      took = λ s _. taken_shaped s e h;
      got = λ r. h;
      wrote = λ r v k. written_shaped e r v k h;
      set = λ x _. h;
    })
    h c
