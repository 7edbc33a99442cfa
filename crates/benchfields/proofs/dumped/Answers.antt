-- `benchfields::dumped` meets its contract: what dump takes at most is less than there is room for.
-- Assumes nothing.
use Rattle.std.proofs.Common.{◌≡◌, arith, refl}
use Rattle.consolecommands.specs.Dump.{dump_room}
use Rattle.benchcommands.specs.Fields.{all_of, elements_of, name_of}
use Rattle.benchfields.proofs.dumped.Goals as goal

fields_room : dump_room name_of elements_of all_of ≡ 698
unfolding dump_room
fields_room = refl

pub dumped-requires-clause-room : goal.dumped-requires-clause-room
dumped-requires-clause-room c κs = omega (arith, fields_room)
