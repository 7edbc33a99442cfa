-- The answers of request #109, in plain terms.
--   Met e           answer 1: a control above 4,095 in the transmit words, in the block being sent or in the receive
--                   words (of take also in the block taken: 4095 < b.control)
--   Outside w       answer 2: not one of the words 0 to 17
--   Received w      answer 3: one of the words 9 to 17
--   Requested e w   answer 4: TXREQ is 1, and w is one of the words 0 to 8
-- Assumes nothing.
use Rattle.std.specs.Prelude.{ℕ, ◌<◌, ◌≤◌, true, ◌≡◌}
use Rattle.fibre.specs.declared.End.{End}

pub data Met (e : End) : Type 0 where
  transmit : 4095 < e.transmit.control → Met e
  sent : 4095 < e.sent.control → Met e
  receive : 4095 < e.receive.control → Met e

abbrev pub Outside : ℕ → Type 0
Outside w = 17 < w

abbrev pub Received : ℕ → Type 0
Received w = (9 ≤ w) × (w ≤ 17)

abbrev pub Requested : End → ℕ → Type 0
Requested e w = (e.transmit.txreq ≡ true) × (w ≤ 8)
