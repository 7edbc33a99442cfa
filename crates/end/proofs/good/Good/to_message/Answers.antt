-- `Good::to_message` meets its contract, by whether a message is pending. Assumes nothing.
use mathlib.Core.Path.{sym}
use Rattle.end.proofs.RegisterLaws.{write_message, write_full}
use Rattle.end.proofs.good.Good.to_message.Goals as goal

pub returns-then-end : goal.returns-then-end
returns-then-end c =
    let a = c.args in
    sym (write_full a.self.end a.i a.value a.self.good c.if-end.true c.requires)

pub returns : goal.returns
returns c =
    let a = c.args in
    rw c.write_bytes-end.ensures
    (sym (write_message a.self.end a.i a.value a.self.good c.if-end.false c.requires))
