-- What is true of the record of every end whose arrays have their lengths.
--   NAME-spelled         each of an end's four arrays, element by element
--   two_back             a number from its two bytes; flag_back, a bool from its byte
--   record_length        a record's length; front_length, back_length, of its two parts that older versions have too
--   body_fits            an end's bytes behind the head are within their limits
--   read_back            the end of an end's record is that end
--   NAME-fits            a bool's byte, a byte, and the high and the low byte of a symbol are within their limits
--   written_accepted     the record of an end that answer 1 does not meet is not refused
-- Assumes nothing.
use Prim.Native.Nat.{ℕ, ◌+◌, ◌*◌, ◌/◌, ◌%◌, ◌≤◌}
use mathlib.Core.Bool.{Bool, true, false}
use mathlib.Core.List.{List, ◌++◌}
use mathlib.Core.Path.{◌≡◌, refl, ap}
use native.Mathlib.Nat.{div-add-mod}
use native.Mathlib.Omega.{arith}
use lib.Dec.{eqb, ltb}
use lib.ListN.{length, get_or, length-append}
use borrow.Author.Tests.{le-ltb}
use Rattle.end.specs.declared.End.{End}
use Rattle.receiver.specs.Counting.{listed}
use Rattle.receiver.specs.Presence.{lasting}
use Rattle.laws.specs.Above.{above}
use Rattle.end.specs.Good.{bad}
use Rattle.end.proofs.Laws.{good}
use Rattle.end.specs.Shape.{Shaped}
use Rattle.laws.proofs.AboveLaws.{above_get_d}
use Rattle.recordspec.specs.Record.{size, flag, two, front_of, back_of, body_of, record_of, end_of, presence_of}
use Rattle.recordspec.specs.Record.{limits, exceeds, wrong_head, refused_by, refused}
use Rattle.laws.proofs.Pieces.{Spelled, spelled}

-- Bytes

pub two_back : (n : ℕ) → 256 * (n / 256) + n % 256 ≡ n
two_back n = div-add-mod n 256

pub flag_back : (b : Bool) → eqb (flag b) 1 ≡ b
flag_back true = refl
flag_back false = refl

pub flag_fits : (b : Bool) → ltb 1 (flag b) ≡ false
flag_fits true = refl
flag_fits false = refl

byte_fits : (l : List ℕ) → above 255 l ≡ false → (i : ℕ) → ltb 255 (get_or l i 0) ≡ false
byte_fits l h i = le-ltb 255 _ (above_get_d 255 l i h)

high_fits : (l : List ℕ) → above 511 l ≡ false → (i : ℕ) → ltb 1 (get_or l i 0 / 256) ≡ false
high_fits l h i = le-ltb 1 _ (half (get_or l i 0) (above_get_d 511 l i h))
  where
    half : (x : ℕ) → x ≤ 511 → x / 256 ≤ 1
    half x h = omega arith

count_fits : (l : List ℕ) → above 65535 l ≡ false → (i : ℕ) → ltb 255 (get_or l i 0 / 256) ≡ false
count_fits l h i = le-ltb 255 _ (high (get_or l i 0) (above_get_d 65535 l i h))
  where
    high : (x : ℕ) → x ≤ 65535 → x / 256 ≤ 255
    high x h = omega arith

presence_high : (x : ℕ) → x ≤ lasting → x / 256 ≤ 3
presence_high x h = omega arith

low_fits : (x : ℕ) → ltb 255 (x % 256) ≡ false
low_fits x = le-ltb 255 (x % 256) (omega arith)

-- Records: with the arrays spelled, the record of an end and the end of a record compute

module _ (e : End) (h : Shaped e) where
  sent_spelled : Spelled 12 e.sender.symbols
  sent_spelled = spelled 12 _ h.sending

  collected_spelled : Spelled 12 e.collector.symbols
  collected_spelled = spelled 12 _ h.collecting

  out_spelled : Spelled 8 e.outbox.bytes
  out_spelled = spelled 8 _ h.eight_out

  pub in_spelled : Spelled 8 e.inbox.bytes
  in_spelled = spelled 8 _ h.eight_in

  pub front_length : length (front_of e) ≡ 68
  unfolding front_of
  front_length = rw (sent_spelled, collected_spelled, out_spelled)

  pub back_length : length (back_of e) ≡ 28
  unfolding back_of
  back_length = rw in_spelled

  pub record_length : length (record_of e) ≡ size
  unfolding record_of body_of
  record_length =
      rw (length-append (front_of e) (back_of e ++ two e.presence), length-append (back_of e) (two e.presence))
      (rw (front_length, back_length))

  pub read_back : end_of (record_of e) ≡ e
  unfolding record_of body_of front_of back_of end_of
  read_back =
      rw (sent_spelled, collected_spelled, out_spelled, in_spelled)
      (simp (two_back, flag_back) (rw (← sent_spelled, ← collected_spelled, ← out_spelled, ← in_spelled)))

  pub body_fits : bad e ≡ false → exceeds (body_of e) limits ≡ false
  unfolding body_of front_of back_of limits exceeds
  body_fits b =
      let g = good e b in
      let fit = count_fits (listed e.counts) h.counts in
      rw (sent_spelled, collected_spelled, out_spelled, in_spelled)
      (simp (
        flag_fits,
        low_fits,
        high_fits _ g.sending,
        high_fits _ g.collecting,
        byte_fits _ h.bytes_out,
        byte_fits _ h.bytes_in,
        le-ltb 11 _ g.position,
        le-ltb 11 _ g.count,
        le-ltb 3 _ g.health,
        le-ltb 3 _ g.loaded,
        le-ltb 3 _ g.partner,
        le-ltb 15 _ g.number,
        le-ltb 15 _ g.number_in,
        fit 0,
        fit 1,
        fit 2,
        fit 3,
        le-ltb 3 _ (presence_high e.presence g.presence),
      ))

  presence_back : presence_of (record_of e) ≡ e.presence
  unfolding end_of
  presence_back = ap (λ (x : End). x.presence) read_back

  pub written_accepted : bad e ≡ false → refused (record_of e) ≡ false
  unfolding record_of refused refused_by wrong_head
  written_accepted b =
      rw (record_length, presence_back, le-ltb 768 _ (good e b).presence) (body_fits b)
