-- Reading and writing a register, register by register.
--   outside-*           the numbers outside 3.2308 to 3.2317
--   read-*, write-*     what read_of and write_of give, for an end that answer 1 does not meet
--   mask-*              the code's mask picks out the bits of 3.2308 that cannot be written
-- Assumes nothing.
use Prim.Native.Nat.{ℕ, ◌+◌, ◌*◌, ◌/◌, ◌%◌, ◌<◌}
use mathlib.Core.Bool.{Bool, true, false, ◌&&◌, ◌||◌}
use mathlib.Core.Path.{◌≡◌, refl, sym, ap, ap₂, ◌∙◌}
use native.Mathlib.Omega.{arith}
use lib.Bits.{bit_and, and_block, and_mask}
use lib.Dec.{ltb}
use lib.Pow.{split}
use borrow.Author.Tests.{lt-ltb, le-ltb, ltb-false}
use Rattle.laws.proofs.Lists.{below_four}
use Rattle.answer.specs.declared.Answer.TheVariants.{Done, NoRegister, ReadOnly, ReadOnlyBits, Blocked}
use Rattle.end.specs.declared.End.{End}
use Rattle.end.specs.Good.{bad}
use Rattle.end.specs.Registers.{outside, read_only, pair, value_of, read_end, read_of, read_only_bits, blocked}
use Rattle.end.specs.Registers.{write_bytes, written, write_of}
use Rattle.laws.proofs.Bools.{cond_true, cond_false, and_yes, and_no}

pub outside_below : (r : ℕ) → r < 2308 → outside r ≡ true
outside_below r h = rw (lt-ltb r 2308 h)

pub outside_beyond : (r : ℕ) → 2317 < r → outside r ≡ true
outside_beyond r h = rw (le-ltb r 2308 (omega arith), lt-ltb 2317 r h)

-- Reading

pub read_done : (e : End) (r : ℕ) → bad e ≡ false → outside r ≡ false →
    read_of e r ≡ record { answer = Done; value = value_of e r; end = read_end e r }
unfolding read_of
read_done e r b o = cond_false _ _ b ∙ cond_false _ _ o

pub read_outside : (e : End) (r : ℕ) → bad e ≡ false → outside r ≡ true →
    read_of e r ≡ record { answer = NoRegister; value = 0; end = e }
unfolding read_of
read_outside e r b o = cond_false _ _ b ∙ cond_true _ _ o

pub read_message : (e : End) (i : ℕ) → bad e ≡ false → i < 4 →
    read_of e (2309 + i) ≡ record { answer = Done; value = pair e.outbox.bytes i; end = e }
read_message e i b =
    below_four
    (λ (i : ℕ). read_of e (2309 + i) ≡ record { answer = Done; value = pair e.outbox.bytes i; end = e })
    (read_done e 2309 b refl)
    (read_done e 2310 b refl)
    (read_done e 2311 b refl)
    (read_done e 2312 b refl)
    i

-- reading 3.2317 makes the receive register empty
abbrev pub emptied : Bool → End → End
emptied kept e = record {
  sender = e.sender;
  outbox = e.outbox;
  collector = e.collector;
  heard = e.heard;
  inbox = record {
    expected = e.inbox.expected;
    acknowledge = e.inbox.acknowledge;
    full = kept && e.inbox.full;
    toggle = e.inbox.toggle;
    number = e.inbox.number;
    bytes = e.inbox.bytes;
  };
  counts = e.counts;
  presence = e.presence;
}

pub read_received : (e : End) (i : ℕ) → bad e ≡ false → i < 4 →
    read_of e (2314 + i) ≡ record { answer = Done; value = pair e.inbox.bytes i; end = emptied (ltb i 3) e }
read_received e i b =
    below_four
    (λ (i : ℕ).
    read_of e (2314 + i) ≡ record { answer = Done; value = pair e.inbox.bytes i; end = emptied (ltb i 3) e })
    (read_done e 2314 b refl)
    (read_done e 2315 b refl)
    (read_done e 2316 b refl)
    (read_done e 2317 b refl)
    i

-- Writing

-- ones at bits 14:12, 7:3 and 1:0
abbrev pub ones : ℕ
ones = (7 * 512 + 31) * 8 + 3

-- a mask of these picks out what stands there
mask_is : (m v : ℕ) → m ≡ ones → bit_and v m ≡ (v / 4096 % 8 * 512 + v / 8 % 32) * 8 + v % 4
mask_is m v q =
    ap (bit_and v) q
    ∙ low
    ∙ ap₂ (λ (x y : ℕ). x * 8 + y) (high ∙ ap₂ (λ (x y : ℕ). x * 512 + y) (and_mask _ 3 ∙ top) (and_mask _ 5 ∙ middle))
    (and_mask _ 2 ∙ bottom)
  where
    low : bit_and v ones ≡ bit_and (v / 8) (7 * 512 + 31) * 8 + bit_and (v % 8) 3
    low =
        ap (λ (n : ℕ). bit_and n ones) (sym (split v 3))
        ∙ and_block 3 (v / 8) (7 * 512 + 31) (v % 8) 3 (omega arith) (omega arith)

    high : bit_and (v / 8) (7 * 512 + 31) ≡ bit_and (v / 8 / 512) 7 * 512 + bit_and (v / 8 % 512) 31
    high =
        ap (λ (n : ℕ). bit_and n (7 * 512 + 31)) (sym (split (v / 8) 9))
        ∙ and_block 9 (v / 8 / 512) 7 (v / 8 % 512) 31 (omega arith) (omega arith)

    top : v / 8 / 512 % 8 ≡ v / 4096 % 8
    top = omega arith

    middle : v / 8 % 512 % 32 ≡ v / 8 % 32
    middle = omega arith

    bottom : v % 8 % 4 ≡ v % 4
    bottom = omega arith

pub mask_set : {m : ℕ} (v : ℕ) → (bit_and v m ≡ 0 → ⊥) → m ≡ ones → read_only_bits 2308 v ≡ true
mask_set {m} v h q = go (ltb 0 (v / 4096 % 8)) (ltb 0 (v / 8 % 32)) (ltb 0 (v % 4)) refl refl refl
  where
    go : (a b c : Bool) → ltb 0 (v / 4096 % 8) ≡ a → ltb 0 (v / 8 % 32) ≡ b → ltb 0 (v % 4) ≡ c → (a || (b || c)) ≡ true
    go true b c f g k = refl
    go false true c f g k = refl
    go false false true f g k = refl
    go false false false f g k =
        let is = mask_is m v q in
        absurd (h (omega (arith, ltb-false 0 (v / 4096 % 8) f, ltb-false 0 (v / 8 % 32) g, ltb-false 0 (v % 4) k)))

pub mask_clear : {m : ℕ} (v : ℕ) → bit_and v m ≡ 0 → m ≡ ones → read_only_bits 2308 v ≡ false
mask_clear {m} v h q =
    let is = mask_is m v q in
    rw (
      le-ltb 0 (v / 4096 % 8) (omega arith),
      le-ltb 0 (v / 8 % 32) (omega arith),
      le-ltb 0 (v % 4) (omega arith),
    )

pub write_done : (e : End) (r v : ℕ) → bad e ≡ false → outside r ≡ false → read_only r ≡ false
    → read_only_bits r v ≡ false → blocked e r v ≡ false → write_of e r v ≡ record { answer = Done; end = written e r v }
unfolding write_of
write_done e r v b o n m k = rw (b, o, n, m, k)

pub write_blocked : (e : End) (r v : ℕ) → bad e ≡ false → outside r ≡ false → read_only r ≡ false
    → read_only_bits r v ≡ false → blocked e r v ≡ true → write_of e r v ≡ record { answer = Blocked; end = e }
unfolding write_of
write_blocked e r v b o n m k = rw (b, o, n, m, k)

pub write_bits : (e : End) (r v : ℕ) → bad e ≡ false → outside r ≡ false → read_only r ≡ false
    → read_only_bits r v ≡ true → write_of e r v ≡ record { answer = ReadOnlyBits; end = e }
unfolding write_of
write_bits e r v b o n m = rw (b, o, n, m)

pub write_only : (e : End) (r v : ℕ) → bad e ≡ false → outside r ≡ false → read_only r ≡ true →
    write_of e r v ≡ record { answer = ReadOnly; end = e }
unfolding write_of
write_only e r v b o n = rw (b, o, n)

pub write_outside : (e : End) (r v : ℕ) → bad e ≡ false → outside r ≡ true →
    write_of e r v ≡ record { answer = NoRegister; end = e }
unfolding write_of
write_outside e r v b o = rw (b, o)

pub write_message : (e : End) (i v : ℕ) → bad e ≡ false → e.outbox.pending ≡ false → i < 4 →
    write_of e (2309 + i) v ≡ record {
      answer = Done;
      end = record {
        sender = e.sender;
        outbox = write_bytes e.outbox i v;
        collector = e.collector;
        heard = e.heard;
        inbox = e.inbox;
        counts = e.counts;
        presence = e.presence;
      };
    }
write_message e i v b p =
    below_four
    (λ (i : ℕ).
    write_of e (2309 + i) v ≡ record {
      answer = Done;
      end = record {
        sender = e.sender;
        outbox = write_bytes e.outbox i v;
        collector = e.collector;
        heard = e.heard;
        inbox = e.inbox;
        counts = e.counts;
        presence = e.presence;
      };
    })
    (write_done e 2309 v b refl refl refl (and_no _ p))
    (write_done e 2310 v b refl refl refl (and_no _ p))
    (write_done e 2311 v b refl refl refl (and_no _ p))
    (write_done e 2312 v b refl refl refl (and_no _ p))
    i

pub write_full : (e : End) (i v : ℕ) → bad e ≡ false → e.outbox.pending ≡ true → i < 4 →
    write_of e (2309 + i) v ≡ record { answer = Blocked; end = e }
write_full e i v b p =
    below_four (λ (i : ℕ). write_of e (2309 + i) v ≡ record { answer = Blocked; end = e })
    (write_blocked e 2309 v b refl refl refl (and_yes _ p))
    (write_blocked e 2310 v b refl refl refl (and_yes _ p))
    (write_blocked e 2311 v b refl refl refl (and_yes _ p))
    (write_blocked e 2312 v b refl refl refl (and_yes _ p))
    i

pub write_received : (e : End) (i v : ℕ) → bad e ≡ false → i < 4 →
    write_of e (2314 + i) v ≡ record { answer = ReadOnly; end = e }
write_received e i v b =
    below_four (λ (i : ℕ). write_of e (2314 + i) v ≡ record { answer = ReadOnly; end = e })
    (write_only e 2314 v b refl refl)
    (write_only e 2315 v b refl refl)
    (write_only e 2316 v b refl refl)
    (write_only e 2317 v b refl refl)
    i
