-- `text::words::is_last` meets its contract: a word stands there, or none does.
-- Assumes nothing.
use Rattle.text.proofs.WordLaws.{last_is}
use Rattle.text.proofs.words.is_last.Goals as goal

pub returns : goal.returns
returns c = last_is _ _ _ c.is_none.ensures c.next.ensures
