-- The answer table's rows 1, 2, 3, 10 (request #101) and 4, in plain terms. (Row 5 is 1023 < s, row 6 is 3 < h.)
--   Met e            row 1: position or count above 11, a stored symbol above 511, a health above 3, a number above 15,
--                    and with request #107 a presence above 768
--   Outside r        row 2: not one of 3.2308 to 3.2317
--   Received r       row 3: one of 3.2313 to 3.2317
--   ReadOnlyBit i    bit i of 3.2308 cannot be written: it is one of 14:12, 7:3 and 1:0
--   SetsReadOnly r v row 10: a write to 3.2308 with such a bit set
--   Pending e r v    row 4: while a message is pending, a write to 3.2308 with bit 15 set, or to 3.2309 to 3.2312
-- Assumes nothing.
use Rattle.std.specs.Prelude.{ℕ, ◌<◌, ◌≤◌, ◌/◌, ◌%◌, ◌^◌, true, ◌⊎◌, ◌≡◌, get_or}
use Rattle.end.specs.declared.End.{End}

pub data Met (e : End) : Type 0 where
  position : 11 < e.sender.position → Met e
  count : 11 < e.collector.count → Met e
  sending : (i : ℕ) → 511 < get_or e.sender.symbols i 0 → Met e
  collecting : (i : ℕ) → 511 < get_or e.collector.symbols i 0 → Met e
  health : 3 < e.sender.health → Met e
  loaded : 3 < e.sender.loaded → Met e
  partner : 3 < e.heard.health → Met e
  number : 15 < e.outbox.number → Met e
  received : 15 < e.inbox.number → Met e
  presence : 768 < e.presence → Met e

abbrev pub Outside : ℕ → Type 0
Outside r = (r < 2308) ⊎ (2317 < r)

abbrev pub Received : ℕ → Type 0
Received r = (2313 ≤ r) × (r ≤ 2317)

abbrev pub ReadOnlyBit : ℕ → Type 0
ReadOnlyBit i = ((12 ≤ i) × (i ≤ 14)) ⊎ (((3 ≤ i) × (i ≤ 7)) ⊎ (i ≤ 1))

pub record SetsReadOnly (r v : ℕ) : Type 0 where
  pub control : r ≡ 2308
  pub bit : ℕ
  pub read_only : ReadOnlyBit bit
  pub set : v / 2 ^ bit % 2 ≡ 1

abbrev pub Pending : End → ℕ → ℕ → Type 0
Pending e r v = (e.outbox.pending ≡ true) × (((r ≡ 2308) × (v / 32768 % 2 ≡ 1)) ⊎ ((2309 ≤ r) × (r ≤ 2312)))
