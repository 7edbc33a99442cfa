-- `frame::crc` meets its contract: its three words are the ten bytes. Assumes nothing.
use borrow.Author.Rules.{rules}
use Rattle.frame.proofs.WordLaws.{ten_streams}
use Rattle.frame.proofs.crc.Goals as goal

pub returns : goal.returns
returns c =
    ten_streams c.args.bytes c.crc_of.result c.four.result c.four-2.result c.two.result (search rules) c.crc_of.type_inv
    c.four.ensures c.four-2.ensures c.two.ensures c.crc_of.ensures
