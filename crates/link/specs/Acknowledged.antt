-- Acknowledgements as a host sees them, in 3.2308. Messages are counted from 0, as they were accepted.
--   toggle_of n    the toggle of message n: they alternate, and the first one has 0
--   Shown          what 3.2308 shows of them, and with which toggle a message is sent
--   SeenByHosts    so it is after every run, at both sides, whatever the hosts do
-- Assumes nothing.
use Rattle.std.specs.Prelude.{ℕ, suc, ◌/◌, Bool, false, ◌≡◌, ltb}
use Rattle.crc.specs.Bits.{odd}
use Rattle.link.specs.Link.{Side}
use Rattle.link.specs.Demand.{Always, control_value, bit13, bit12}

abbrev pub toggle_of : ℕ → Bool
toggle_of n = odd n

pub record Shown (s : Side) : Type 0 where
  -- Received: a message was acknowledged since 3.2308 was last read
  pub received : bit13 (control_value s) ≡ ltb s.log.seen_count s.log.ack_count
  -- received toggle: that of the last message acknowledged, and 0 before the first
  pub before : s.log.ack_count ≡ 0 → bit12 (control_value s) ≡ false
  pub last : (n : ℕ) → s.log.ack_count ≡ suc n → bit12 (control_value s) ≡ toggle_of n
  -- register toggle: that of the next message to be loaded
  pub next : odd (control_value s / 16384) ≡ toggle_of s.log.load_count
  -- what is sent has the toggle of the message that is acknowledged next
  pub sending : s.end.sender.toggle ≡ toggle_of s.log.ack_count

abbrev pub SeenByHosts : Type 0
SeenByHosts = Always (λ near far. Shown near)
