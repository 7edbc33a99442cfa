-- The calls on an end, as data, and the ends that calls lead to.
--   Call        one call: send, take a block (marked bad or not), read a word, write a word (sixteen bits by type)
--   after c e   the end that the call c leaves of e
--   calls cs e  the end after the calls cs, the first one first
--   reached cs  the end after reset and the calls cs
-- Assumes nothing.
use Rattle.std.specs.Prelude.{ℕ, ◌<◌, Bool, List, [], ◌∷◌}
use Rattle.fibre.specs.declared.Block.{Block}
use Rattle.fibre.specs.declared.End.{End}
use Rattle.fibre.specs.Good.{reset_of}
use Rattle.fibre.specs.Sending.{send_of}
use Rattle.fibre.specs.Taking.{take_of}
use Rattle.fibre.specs.Words.{read_of, write_of}

pub data Call : Type 0 where
  send : Call
  take : Bool → Block → Call
  read : ℕ → Call
  write : (w v : ℕ) → v < 65536 → Call

abbrev pub after : Call → End → End
after send e = (send_of e).end
after (take m b) e = (take_of e m b).end
after (read w) e = (read_of e w).end
after (write w v h) e = (write_of e w v).end

unfoldable pub calls : List Call → End → End
calls [] e = e
calls (c ∷ cs) e = calls cs (after c e)

unfoldable pub reached : List Call → End
reached cs = calls cs reset_of
