-- Request #105: what take says of the collection, in plain terms, and of which symbols it says it.
--   Plain s           an unmarked odd symbol
--   Ended s c r       the collection c ends so with the symbol s: nothing is said of an empty one, nor of one that only
--                     grows; at the twelfth symbol the CRC decides; a mark or an early even symbol breaks it, having n
--                     symbols
--   reasons cs e      what is said of each symbol taken in the calls cs; reasons_of c e, in one call
--   collection cs     the symbols collected after reset and the calls cs: as many of the last symbols taken as the end
--                     counts
-- Assumes nothing.
use Rattle.std.specs.Prelude.{ℕ, ◌<◌, true, false, cond, List, [], ◌∷◌, ◌++◌, ◌⊎◌, ◌≡◌, leb, set}
use Rattle.frame.specs.declared.reason.Reason.{Reason}
use Rattle.frame.specs.declared.reason.Reason.TheVariants.{Nothing, Accepted, Crc, Marked, Parity}
use Rattle.frame.specs.Frame.{marked, even, crc_right}
use Rattle.receiver.specs.declared.Collector.{Collector}
use Rattle.end.specs.declared.End.{End}
use Rattle.end.specs.Taking.{take_of}
use Rattle.end.specs.Calls.{Call, after, reached}
use Rattle.endlaws.specs.Taken.{takes, last_of}

abbrev pub Plain : ℕ → Type 0
Plain s = (marked s ≡ false) × (even s ≡ false)

abbrev pub Ended : ℕ → Collector → Reason → Type 0
Ended s c Nothing = (c.count ≡ 0) ⊎ (Plain s × ¬ (c.count ≡ 11))
Ended s c Accepted = (c.count ≡ 11) × Plain s × (crc_right (set c.symbols 11 s) ≡ true)
Ended s c Crc = (c.count ≡ 11) × Plain s × (crc_right (set c.symbols 11 s) ≡ false)
Ended s c (Marked n) = (c.count ≡ n) × (0 < n) × (marked s ≡ true)
Ended s c (Parity n) = (c.count ≡ n) × (0 < n) × (marked s ≡ false) × (even s ≡ true)

abbrev pub reasons_of : Call → End → List Reason
reasons_of Call.send e = []
reasons_of (Call.take s) e = cond (leb s 1023) ((take_of e s).reason ∷ []) []
reasons_of (Call.read r) e = []
reasons_of (Call.write r v h) e = []
reasons_of (Call.health h) e = []
reasons_of Call.present e = []

unfoldable pub reasons : List Call → End → List Reason
reasons [] e = []
reasons (c ∷ cs) e = reasons_of c e ++ reasons cs (after c e)

abbrev pub collection : List Call → List ℕ
collection cs = last_of (reached cs).collector.count (takes cs)
