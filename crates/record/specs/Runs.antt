-- The calls of document 01, and lists of them, on a record and on an end.
--   called c r       what the call c gives on the record r
--   replies cs r     what the calls cs reply, the first one first, on the record r; bytes cs r, its bytes after them
--   told cs e        what the calls cs reply on the end e
-- Assumes nothing.
use Rattle.std.specs.Prelude.{ℕ, List, [], ◌∷◌}
use Rattle.end.specs.declared.End.{End}
use Rattle.end.specs.Calls.{Call}
use Rattle.recordspec.specs.Results.{result}
use Rattle.record.specs.declared.Reply.{Reply}
use Rattle.record.specs.Calls.{Called, through, stored}

abbrev pub called : Call → List ℕ → Called
called c r = through (result c) r

unfoldable pub replies : List Call → List ℕ → List Reply
replies [] r = []
replies (c ∷ cs) r = (called c r).reply ∷ replies cs (called c r).bytes

unfoldable pub bytes : List Call → List ℕ → List ℕ
bytes [] r = r
bytes (c ∷ cs) r = bytes cs (called c r).bytes

unfoldable pub told : List Call → End → List Reply
told [] e = []
told (c ∷ cs) e = (stored (result c e)).reply ∷ told cs (result c e).end
