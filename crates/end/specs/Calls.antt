-- The calls on an end, as data, and the ends that calls lead to.
--   Call        one call: send, take a symbol, read a register, write a register (sixteen bits by type), set health,
--               present
--   after c e   the end that the call c leaves of e
--   calls cs e  the end after the calls cs, the first one first
--   reached cs  the end after reset and the calls cs
-- Assumes nothing.
use Rattle.std.specs.Prelude.{ℕ, ◌<◌, List, [], ◌∷◌}
use Rattle.end.specs.declared.End.{End}
use Rattle.end.specs.Good.{reset_of}
use Rattle.end.specs.Sending.{send_of}
use Rattle.end.specs.Taking.{take_of}
use Rattle.end.specs.Registers.{read_of, write_of, health_of}

pub data Call : Type 0 where
  send : Call
  take : ℕ → Call
  read : ℕ → Call
  write : (r v : ℕ) → v < 65536 → Call
  health : ℕ → Call
  present : Call

abbrev pub after : Call → End → End
after send e = (send_of e).end
after (take s) e = (take_of e s).end
after (read r) e = (read_of e r).end
after (write r v h) e = (write_of e r v).end
after (health h) e = (health_of e h).end
after present e = e

unfoldable pub calls : List Call → End → End
calls [] e = e
calls (c ∷ cs) e = calls cs (after c e)

unfoldable pub reached : List Call → End
reached cs = calls cs reset_of
