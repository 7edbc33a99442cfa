-- What a call that is answered 0 does, field by field: e is the end before it, f the end after it. Words are said one
-- by one: get_or l i 0 is the word i of l, counted from 0.
--   digit b            1 or 0
--   Bits v a b c d n   the sixteen bits of v: bit 15 is a, 14 is b, 13 is c, 12 is d, and bits 11:0 are n
--   Sends e b f        send, which gives the block b
--     SendLeaves       what it leaves: PHYT, MERT and the message in the transmit words, the toggles sent for the other
--                      way, the receive words
--     Loads            what it does to a request
--   Takes m b e f      take, of the block b; m: it is marked bad
--     Hears            what a good block does
--     TakeLeaves       what it leaves: TXREQ and the message in the transmit words, the block being sent but for PHYT
--     Stores           what one with a new message does
--     Ignores          what one without does
--   Reads w e v f      read, of the word w, which gives the value v
--     ReadLeaves       what it leaves: all but RXVAL and the sent MERT
--     Empties          what it does to a message that was not read yet
--   Writes w v e f     write, of v to the word w
--     WriteLeaves      what it leaves: PHYT, MERT, the block being sent, the receive words
--     PutsControl      what it does where w is word 0
--     PutsWord i       what it does where w is the word i of words 1 to 8
--   Back v e u         word 0 reads u after v was written to it
-- Assumes nothing.
use Rattle.std.specs.Prelude.{ℕ, ◌+◌, ◌/◌, ◌%◌, ◌^◌, ◌<◌, Bool, true, false, not, ◌≡◌, get_or}
use Rattle.fibre.specs.declared.Block.{Block}
use Rattle.fibre.specs.declared.End.{End}

abbrev pub digit : Bool → ℕ
digit true = 1
digit false = 0

pub record Bits (v : ℕ) (a b c d : Bool) (n : ℕ) : Type 0 where
  pub bit_15 : v / 2 ^ 15 % 2 ≡ digit a
  pub bit_14 : v / 2 ^ 14 % 2 ≡ digit b
  pub bit_13 : v / 2 ^ 13 % 2 ≡ digit c
  pub bit_12 : v / 2 ^ 12 % 2 ≡ digit d
  pub low : v % 4096 ≡ n
  pub sixteen : v < 65536

-- Send

pub record SendLeaves (e f : End) : Type 0 where
  pub phyt : f.transmit.phyt ≡ e.transmit.phyt
  pub mert : f.transmit.mert ≡ e.transmit.mert
  pub control : f.transmit.control ≡ e.transmit.control
  pub words : f.transmit.words ≡ e.transmit.words
  pub sent_phyt : f.sent.phyt ≡ e.sent.phyt
  pub sent_mert : f.sent.mert ≡ e.sent.mert
  pub receive : f.receive ≡ e.receive

pub record Loads (e f : End) : Type 0 where
  pub msgt : f.sent.msgt ≡ not e.sent.msgt
  pub control : f.sent.control ≡ e.transmit.control
  pub words : (i : ℕ) → get_or f.sent.words i 0 ≡ get_or e.transmit.words i 0
  pub txreq : f.transmit.txreq ≡ false

pub record Sends (e : End) (b : Block) (f : End) : Type 0 where
  pub block : b ≡ f.sent
  pub leaves : SendLeaves e f
  pub request : e.transmit.txreq ≡ true → e.transmit.phyt ≡ e.sent.msgt → Loads e f
  pub no_request : e.transmit.txreq ≡ false → f ≡ e
  pub not_received : ¬ (e.transmit.phyt ≡ e.sent.msgt) → f ≡ e

-- Take

pub record TakeLeaves (e f : End) : Type 0 where
  pub txreq : f.transmit.txreq ≡ e.transmit.txreq
  pub control : f.transmit.control ≡ e.transmit.control
  pub words : f.transmit.words ≡ e.transmit.words
  pub sent_msgt : f.sent.msgt ≡ e.sent.msgt
  pub sent_mert : f.sent.mert ≡ e.sent.mert
  pub sent_control : f.sent.control ≡ e.sent.control
  pub sent_words : f.sent.words ≡ e.sent.words

pub record Stores (b : Block) (f : End) : Type 0 where
  pub rxval : f.receive.rxval ≡ true
  pub toggle : f.receive.toggle ≡ b.msgt
  pub control : f.receive.control ≡ b.control
  pub words : (i : ℕ) → get_or f.receive.words i 0 ≡ get_or b.words i 0
  pub sent_phyt : f.sent.phyt ≡ b.msgt

pub record Ignores (e f : End) : Type 0 where
  pub sent : f.sent ≡ e.sent
  pub receive : f.receive ≡ e.receive

pub record Hears (b : Block) (e f : End) : Type 0 where
  pub phyt : f.transmit.phyt ≡ b.phyt
  pub mert : f.transmit.mert ≡ b.mert
  pub leaves : TakeLeaves e f
  pub new : ¬ (b.msgt ≡ e.sent.phyt) → e.receive.rxval ≡ false → Stores b f
  pub known : b.msgt ≡ e.sent.phyt → Ignores e f
  pub full : e.receive.rxval ≡ true → Ignores e f

pub record Takes (m : Bool) (b : Block) (e f : End) : Type 0 where
  pub marked : m ≡ true → f ≡ e
  pub good : m ≡ false → Hears b e f

-- Read

pub record ReadLeaves (e f : End) : Type 0 where
  pub transmit : f.transmit ≡ e.transmit
  pub sent_msgt : f.sent.msgt ≡ e.sent.msgt
  pub sent_phyt : f.sent.phyt ≡ e.sent.phyt
  pub sent_control : f.sent.control ≡ e.sent.control
  pub sent_words : f.sent.words ≡ e.sent.words
  pub toggle : f.receive.toggle ≡ e.receive.toggle
  pub control : f.receive.control ≡ e.receive.control
  pub words : f.receive.words ≡ e.receive.words

pub record Empties (e f : End) : Type 0 where
  pub rxval : f.receive.rxval ≡ false
  pub sent_mert : f.sent.mert ≡ e.receive.toggle

pub record Reads (w : ℕ) (e : End) (v : ℕ) (f : End) : Type 0 where
  pub zero : w ≡ 0
      → Bits v e.transmit.txreq e.transmit.phyt e.transmit.mert e.sent.msgt e.transmit.control
  pub one_to_eight : (i : ℕ) → i < 8 → w ≡ 1 + i → v ≡ get_or e.transmit.words i 0
  pub nine : w ≡ 9 → Bits v e.receive.rxval false false e.receive.toggle e.receive.control
  pub ten_and_on : (i : ℕ) → i < 8 → w ≡ 10 + i → v ≡ get_or e.receive.words i 0
  pub leaves : ReadLeaves e f
  pub last : w ≡ 17 → e.receive.rxval ≡ true → Empties e f
  pub not_last : ¬ (w ≡ 17) → f ≡ e
  pub empty : e.receive.rxval ≡ false → f ≡ e

-- Write

pub record WriteLeaves (e f : End) : Type 0 where
  pub phyt : f.transmit.phyt ≡ e.transmit.phyt
  pub mert : f.transmit.mert ≡ e.transmit.mert
  pub sent : f.sent ≡ e.sent
  pub receive : f.receive ≡ e.receive

pub record PutsControl (v : ℕ) (e f : End) : Type 0 where
  pub txreq : digit f.transmit.txreq ≡ v / 2 ^ 15 % 2
  pub control : f.transmit.control ≡ v % 4096
  pub words : f.transmit.words ≡ e.transmit.words

pub record PutsWord (i v : ℕ) (e f : End) : Type 0 where
  pub word : get_or f.transmit.words i 0 ≡ v
  pub others : (j : ℕ) → ¬ (j ≡ i) → get_or f.transmit.words j 0 ≡ get_or e.transmit.words j 0
  pub txreq : f.transmit.txreq ≡ e.transmit.txreq
  pub control : f.transmit.control ≡ e.transmit.control

pub record Writes (w v : ℕ) (e f : End) : Type 0 where
  pub leaves : WriteLeaves e f
  pub zero : w ≡ 0 → PutsControl v e f
  pub one_to_eight : (i : ℕ) → i < 8 → w ≡ 1 + i → PutsWord i v e f

pub record Back (v : ℕ) (e : End) (u : ℕ) : Type 0 where
  pub txreq : u / 2 ^ 15 % 2 ≡ v / 2 ^ 15 % 2
  pub phyt : u / 2 ^ 14 % 2 ≡ digit e.transmit.phyt
  pub mert : u / 2 ^ 13 % 2 ≡ digit e.transmit.mert
  pub msgt : u / 2 ^ 12 % 2 ≡ digit e.sent.msgt
  pub control : u % 4096 ≡ v % 4096
