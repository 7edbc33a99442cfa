-- What taking one symbol does, in plain terms: these laws and cases refuse a definition that is wrong together with its
-- code.
--   Plain s        an unmarked odd symbol
--   mark_empties, even_starts, odd_ignored, odd_added, twelfth_stored   the collection after each kind of symbol
--   heard_stays    what was heard stays unless a frame is accepted
--   released, held settling, with every symbol: on Valid 0 or acknowledge 0, and else nothing
--   lapses_one, lasts_anew   presence
--   taken-*        a frame with every field set, taken symbol by symbol after a mark and a broken collection
-- Assumes nothing.
use Prim.Native.Nat.{ℕ, ◌+◌, ◌-◌, ◌<◌}
use mathlib.Core.Bool.{Bool, true, false, ◌&&◌, xor, true≢false}
use mathlib.Core.List.{List, [], ◌∷◌, ◌++◌}
use mathlib.Core.Path.{◌≡◌, refl}
use lib.ListN.{set, replicate}
use borrow.Author.Tests.{eq-eqb, ne_eqb}
use native.Mathlib.Omega.{arith}
use Rattle.crc.specs.Bits.{odd, bits, number, odd_ones}
use Rattle.crc.specs.Crc.{plus, times, shift, run, crc}
use Rattle.frame.specs.declared.reason.Reason.TheVariants.{Nothing}
use Rattle.frame.specs.Frame.{marked, even, generator, stream, crc_of, crc_right}
use Rattle.receiver.specs.declared.Collector.{Collector}
use Rattle.receiver.specs.declared.Heard.{Heard}
use Rattle.receiver.specs.declared.Inbox.{Inbox}
use Rattle.receiver.specs.declared.Counts.{Counts}
use Rattle.receiver.specs.Counting.{no_counts, tallied, listed}
use Rattle.receiver.specs.Receiving.{collected, accepts, Outcome, steps_of}

abbrev Plain : ℕ → Type 0
Plain s = (marked s ≡ false) × (even s ≡ false)

-- The collection

module _ (s : ℕ) (c : Collector) where
  pub mark_empties : marked s ≡ true → collected s c ≡ record { symbols = c.symbols; count = 0 }
  mark_empties m = rw m

  pub even_starts : marked s ≡ false → even s ≡ true
      → collected s c ≡ record { symbols = set c.symbols 0 s; count = 1 }
  even_starts m e = rw (m, e)

  pub odd_ignored : Plain s → c.count ≡ 0 → collected s c ≡ record { symbols = c.symbols; count = 0 }
  odd_ignored p z = rw (p.0, p.1, eq-eqb c.count 0 z)

  pub odd_added : Plain s → 0 < c.count → c.count < 11
      → collected s c ≡ record { symbols = set c.symbols c.count s; count = c.count + 1 }
  odd_added p z h =
      rw (p.0, p.1, ne_eqb c.count 0 (λ e. absurd (omega (arith, e, z))))
      (rw (ne_eqb c.count 11 (λ e. absurd (omega (arith, e, h)))))

  pub twelfth_stored : Plain s → c.count ≡ 11
      → collected s c ≡ record { symbols = set c.symbols 11 s; count = 0 }
  twelfth_stored p e = rw (p.0, p.1, e)

-- What was heard, the receive register and presence, after a symbol

module _ (s : ℕ) (c : Collector) (h : Heard) (i : Inbox) (k : Counts) (left : ℕ) where
  abbrev then : Outcome
  then = steps_of s c h i k left

  module _ (n : accepts s c ≡ false) where
    pub heard_stays : then.heard ≡ h
    heard_stays = rw n

    -- settling comes with every symbol, a marked one too
    pub released : (h.valid && i.acknowledge) ≡ false
        → then.inbox ≡ record {
          expected = h.toggle;
          acknowledge = false;
          full = i.full;
          toggle = i.toggle;
          number = i.number;
          bytes = i.bytes;
        }
    released r = go h.valid i.acknowledge refl refl r
      where
        go : (v a : Bool) → h.valid ≡ v → i.acknowledge ≡ a → (v && a) ≡ false
            → then.inbox ≡ record {
              expected = h.toggle;
              acknowledge = false;
              full = i.full;
              toggle = i.toggle;
              number = i.number;
              bytes = i.bytes;
            }
        go true true e f g = absurd (true≢false g)
        go true false e f g = rw (n, e, f)
        go false a e f g = rw (n, e)

    pub held : h.valid ≡ true → i.acknowledge ≡ true → then.inbox ≡ i
    held e f = rw (n, e, f)

    pub lapses_one : then.presence ≡ left - 1
    lapses_one = rw n

  pub lasts_anew : accepts s c ≡ true → then.presence ≡ 768
  lasts_anew a = rw a

-- A frame with health 2, PingRx 1, PingTx 0, Valid 1, Toggle 0, Ack 1, TogAck 0, number 5 and the bytes 11 to 88 (hex).
-- A mark comes before it, and two symbols that its first one breaks

reset : Outcome
reset = record {
  reason = Nothing;
  collector = record { symbols = replicate 12 0; count = 0 };
  heard = record {
    health = 0;
    got = false;
    ping = false;
    valid = false;
    toggle = false;
    ack = false;
    togack = false;
  };
  inbox = record {
    expected = false;
    acknowledge = false;
    full = false;
    toggle = false;
    number = 0;
    bytes = replicate 8 0;
  };
  counts = no_counts;
  presence = 0;
}

take_all : List ℕ → Outcome → Outcome
take_all [] o = o
take_all (s ∷ l) o = take_all l (steps_of s o.collector o.heard o.inbox o.counts o.presence)

noise : List ℕ
noise = 0x300 ∷ 0x000 ∷ 0x100 ∷ []

frame : List ℕ
frame =
    0x00A ∷ 0x1A5 ∷ 0x111 ∷ 0x122 ∷ 0x133 ∷ 0x144 ∷ 0x155 ∷ 0x166 ∷ 0x177 ∷ 0x188 ∷ 0x106 ∷ 0x13C ∷ []

after : Outcome
after = take_all (noise ++ frame) reset

taken_heard : after.heard ≡ record {
  health = 2;
  got = true;
  ping = false;
  valid = true;
  toggle = false;
  ack = true;
  togack = false;
}
unfolding odd bits number odd_ones plus times shift run crc xor generator stream crc_of even crc_right tallied reset take_all
    noise frame after
taken_heard = refl

taken_inbox : after.inbox ≡ record {
  expected = true;
  acknowledge = true;
  full = true;
  toggle = false;
  number = 5;
  bytes = 0x11 ∷ 0x22 ∷ 0x33 ∷ 0x44 ∷ 0x55 ∷ 0x66 ∷ 0x77 ∷ 0x88 ∷ [];
}
unfolding odd bits number odd_ones plus times shift run crc xor generator stream crc_of even crc_right tallied reset take_all
    noise frame after
taken_inbox = refl

taken_counts : listed after.counts ≡ 1 ∷ 0 ∷ 0 ∷ 1 ∷ []
unfolding odd bits number odd_ones plus times shift run crc xor generator stream crc_of even crc_right tallied reset take_all
    noise frame after
taken_counts = refl
