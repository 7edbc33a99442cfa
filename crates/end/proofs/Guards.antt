-- What the calls on an end do, in plain terms: these laws and cases refuse a definition that is wrong together with its
-- code. (Longer laws stand in crate endlaws, where an edit does not pay for them.)
--   reset_shaped         the end after reset has arrays of the right length, and bytes in them
--   message_reads_back   what is written to 3.2309 to 3.2312 reads back
--   message_leaves       and the bytes of the other three stay
--   control_reads_back   so does what is written to 3.2308, every bit that can be written
--   worked-*             the registers of an end with another value in every number, and the first two symbols of its
--                        next frame, with each of its bools set alone, worked out by hand
--   seven-*              P7 of document 01: a message written, read back, and sent
-- Assumes nothing.
use Prim.Native.Nat.{ℕ, ◌+◌, ◌*◌, ◌/◌, ◌%◌, ◌<◌}
use mathlib.Core.Bool.{Bool, false, xor}
use mathlib.Core.List.{List, [], ◌∷◌, map}
use mathlib.Core.Logic.{◌≢◌}
use mathlib.Core.Path.{◌≡◌, refl, ap₂, ◌∙◌}
use native.Mathlib.Omega.{arith}
use lib.Dec.{eqb}
use lib.ListN.{length, get_or, set, length-set}
use lib.Seq.{get_or-set_same, get_or-set_other}
use Rattle.laws.specs.Above.{above}
use Rattle.crc.specs.Bits.{odd, bits, number, odd_ones}
use Rattle.crc.specs.Crc.{plus, times, shift, run, crc}
use Rattle.frame.specs.Frame.{generator, stream, crc_of, even, even_symbol, odd_symbol, symbols, build}
use Rattle.end.specs.declared.End.{End}
use Rattle.end.specs.Good.{bad, reset_of}
use Rattle.end.specs.Parts.{with_sender, with_outbox, at_position, with_bytes}
use Rattle.end.specs.Registers.{write_bytes, read_of, write_of}
use Rattle.end.specs.Sending.{acked, frame_start, send_of}
use Rattle.end.specs.Shape.{Shaped}
use Rattle.end.specs.Worked.{worked}
use Rattle.end.proofs.RegisterLaws.{read_message, write_message}

pub reset_shaped : Shaped reset_of
unfolding above
reset_shaped = search

-- 3.2309 to 3.2312

still : (e : End) (l : List ℕ) → bad e ≡ false → bad (with_outbox e (with_bytes e.outbox l)) ≡ false
unfolding bad
still e l h = h

-- two bytes stored at an even place and the next, read as a pair
pair_stored : (l : List ℕ) (k v : ℕ) → k + 1 < length l → v < 65536
    → get_or (set (set l k (v % 256)) (k + 1) (v / 256)) k 0
    + 256 * get_or (set (set l k (v % 256)) (k + 1) (v / 256)) (k + 1) 0
    ≡ v
pair_stored l k v h b =
    let low = get_or-set_other (set l k (v % 256)) (k + 1) k (v / 256) 0 (λ e. absurd (omega (arith, e)))
    ∙ get_or-set_same l k (v % 256) 0 (omega arith) in
    let high = get_or-set_same (set l k (v % 256)) (k + 1) (v / 256) 0 (rw length-set h) in
    ap₂ (λ (x y : ℕ). x + 256 * y) low high ∙ omega arith

module _ (e : End) (i v : ℕ) (g : bad e ≡ false) (p : e.outbox.pending ≡ false) (f : i < 4) where
  abbrev stored : End
  stored = with_outbox e (write_bytes e.outbox i v)

  pub message_reads_back : length e.outbox.bytes ≡ 8 → v < 65536
      → (read_of (write_of e (2309 + i) v).end (2309 + i)).value ≡ v
  message_reads_back n b =
      rw (write_message e i v g p f, read_message stored i (still e stored.outbox.bytes g) f)
      (pair_stored e.outbox.bytes (2 * i) v (omega arith) b)

  pub message_leaves : (j : ℕ) → j ≢ 2 * i → j ≢ 2 * i + 1
      → get_or (write_of e (2309 + i) v).end.outbox.bytes j 0 ≡ get_or e.outbox.bytes j 0
  message_leaves j a b =
      rw (write_message e i v g p f)
      (get_or-set_other (set e.outbox.bytes (2 * i) (v % 256)) (2 * i + 1) j (v / 256) 0 b
      ∙ get_or-set_other e.outbox.bytes (2 * i) j (v % 256) 0 a)

-- 3.2308: bit 15, bits 11:8 and bit 2

control_reads_back : (read_of (write_of reset_of 2308 0x8F04).end 2308).value ≡ 0x8F04
unfolding above bad read_of write_of odd
control_reads_back = refl

-- Every field: what the end of Worked.antt reads and sends, with each of its seventeen bools set alone

abbrev each : ((ℕ → Bool) → ℕ) → List ℕ
each f =
    map (λ i. f (λ n. eqb n i))
    (0 ∷ 1 ∷ 2 ∷ 3 ∷ 4 ∷ 5 ∷ 6 ∷ 7 ∷ 8 ∷ 9 ∷ 10 ∷ 11 ∷ 12 ∷ 13 ∷ 14 ∷ 15 ∷ 16 ∷ [])

-- at the start of a frame
abbrev starting : (ℕ → Bool) → End
starting b = with_sender (worked b) (at_position (worked b).sender 0)

-- 3.2308: pending, register toggle, Received, received toggle, PingTx, PingRx; number 13 and health 2 as loaded
worked_control :
    each (λ b. (read_of (worked b) 2308).value)
    ≡ 0x0D02 ∷ 0x0D02 ∷ 0x8D02 ∷ 0x4D02 ∷ 0x2D02 ∷ 0x1D02 ∷ 0x0D06 ∷ 0x0D0A ∷ 0x0D02 ∷ 0x0D02 ∷ 0x0D02 ∷ 0x0D02
    ∷ 0x0D02 ∷ 0x0D02 ∷ 0x0D02 ∷ 0x0D02 ∷ 0x0D02 ∷ []
unfolding above bad read_of
worked_control = refl

-- 3.2313: full, toggle; number 14 and health 3
worked_status :
    each (λ b. (read_of (worked b) 2313).value)
    ≡ 0x0E03 ∷ 0x0E03 ∷ 0x0E03 ∷ 0x0E03 ∷ 0x0E03 ∷ 0x0E03 ∷ 0x0E03 ∷ 0x0E03 ∷ 0x0E03 ∷ 0x0E03 ∷ 0x0E03 ∷ 0x0E03
    ∷ 0x0E03 ∷ 0x0E03 ∷ 0x0E03 ∷ 0x8E03 ∷ 0x4E03 ∷ []
unfolding above bad read_of
worked_status = refl

-- 3.2309 to 3.2312, and 3.2314 to 3.2317
worked_words :
    map (λ r. (read_of (worked (λ n. false)) r).value)
    (2309 ∷ 2310 ∷ 2311 ∷ 2312 ∷ 2314 ∷ 2315 ∷ 2316 ∷ 2317 ∷ [])
    ≡ 0x160B ∷ 0x2C21 ∷ 0x4237 ∷ 0x584D ∷ 0xCAC9 ∷ 0xCCCB ∷ 0xCECD ∷ 0xD0CF ∷ []
unfolding above bad read_of
worked_words = refl

-- symbol 0: PingTx, the echo; health 1
worked_zero :
    each (λ b. (send_of (starting b)).symbol)
    ≡ 0x101 ∷ 0x101 ∷ 0x101 ∷ 0x101 ∷ 0x101 ∷ 0x101 ∷ 0x005 ∷ 0x101 ∷ 0x009 ∷ 0x101 ∷ 0x101 ∷ 0x101 ∷ 0x101
    ∷ 0x101 ∷ 0x101 ∷ 0x101 ∷ 0x101 ∷ []
unfolding above bad odd bits number odd_ones plus times shift run crc xor generator stream crc_of even even_symbol
    odd_symbol symbols build acked frame_start send_of
worked_zero = refl

-- symbol 1: Toggle, Ack, TogAck; Valid 0, and number 2 as it was
worked_one :
    each (λ b. (send_of (send_of (starting b)).end).symbol)
    ≡ 0x142 ∷ 0x002 ∷ 0x002 ∷ 0x002 ∷ 0x002 ∷ 0x002 ∷ 0x002 ∷ 0x002 ∷ 0x002 ∷ 0x002 ∷ 0x002 ∷ 0x002 ∷ 0x002
    ∷ 0x002 ∷ 0x122 ∷ 0x002 ∷ 0x112 ∷ []
unfolding above bad odd bits number odd_ones plus times shift run crc xor generator stream crc_of even even_symbol
    odd_symbol symbols build acked frame_start send_of
worked_one = refl

-- P7: 3.2309 written 2211, 3.2308 written 8500

seven : End
seven = (write_of (write_of reset_of 2309 0x2211).end 2308 0x8500).end

seven_waits : (read_of seven 2308).value ≡ 0x8500
unfolding above bad read_of write_of seven odd
seven_waits = refl

seven_bytes : (read_of seven 2309).value ≡ 0x2211
unfolding above bad read_of write_of seven odd
seven_bytes = refl

-- its frame's first four symbols, and what 3.2308 reads after the first
seven_sent :
    (send_of seven).symbol ∷ (send_of (send_of seven).end).symbol ∷ (send_of (send_of (send_of seven).end).end).symbol ∷ []
    ≡ 0x000 ∷ 0x085 ∷ 0x111 ∷ []
unfolding above bad read_of write_of seven odd bits number odd_ones plus times shift run crc xor generator stream crc_of
    even even_symbol odd_symbol symbols build acked frame_start send_of
seven_sent = refl

seven_loaded : (read_of (send_of seven).end 2308).value ≡ 0x4500
unfolding above bad read_of write_of seven odd bits number odd_ones plus times shift run crc xor generator stream crc_of
    even even_symbol odd_symbol symbols build acked frame_start send_of
seven_loaded = refl
