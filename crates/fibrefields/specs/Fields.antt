-- The fields of an end, each by itself.
--   value_of e f i      element i of the field f of the end e, as a number
--   written_of e f i v  the end e with v written there; a bool is set by 1 and by nothing else
-- Assumes nothing.
use Rattle.std.specs.Prelude.{ℕ, eqb, get_or, set}
use Rattle.fibre.specs.declared.End.{End}
use Rattle.fibrecommands.specs.declared.fields.Field.{Field}
use Rattle.fibrecommands.specs.declared.fields.Field.TheVariants.{Txreq, Phyt, Mert, Control, Words, Rxval, RxToggle, RxControl, RxWords}
use Rattle.fibrecommands.specs.declared.fields.Field.TheVariants.{SentMsgt, SentPhyt, SentMert, SentControl, SentWords}
use Rattle.fibrefields.specs.Numbers.{bit_of}

abbrev pub value_of : End → Field → ℕ → ℕ
value_of e Txreq i = bit_of e.transmit.txreq
value_of e Phyt i = bit_of e.transmit.phyt
value_of e Mert i = bit_of e.transmit.mert
value_of e Control i = e.transmit.control
value_of e Words i = get_or e.transmit.words i 0
value_of e SentMsgt i = bit_of e.sent.msgt
value_of e SentPhyt i = bit_of e.sent.phyt
value_of e SentMert i = bit_of e.sent.mert
value_of e SentControl i = e.sent.control
value_of e SentWords i = get_or e.sent.words i 0
value_of e Rxval i = bit_of e.receive.rxval
value_of e RxToggle i = bit_of e.receive.toggle
value_of e RxControl i = e.receive.control
value_of e RxWords i = get_or e.receive.words i 0

abbrev pub written_of : End → Field → ℕ → ℕ → End
written_of e Txreq i v = record e { transmit = record e.transmit { txreq = eqb v 1 } }
written_of e Phyt i v = record e { transmit = record e.transmit { phyt = eqb v 1 } }
written_of e Mert i v = record e { transmit = record e.transmit { mert = eqb v 1 } }
written_of e Control i v = record e { transmit = record e.transmit { control = v } }
written_of e Words i v = record e { transmit = record e.transmit { words = set e.transmit.words i v } }
written_of e SentMsgt i v = record e { sent = record e.sent { msgt = eqb v 1 } }
written_of e SentPhyt i v = record e { sent = record e.sent { phyt = eqb v 1 } }
written_of e SentMert i v = record e { sent = record e.sent { mert = eqb v 1 } }
written_of e SentControl i v = record e { sent = record e.sent { control = v } }
written_of e SentWords i v = record e { sent = record e.sent { words = set e.sent.words i v } }
written_of e Rxval i v = record e { receive = record e.receive { rxval = eqb v 1 } }
written_of e RxToggle i v = record e { receive = record e.receive { toggle = eqb v 1 } }
written_of e RxControl i v = record e { receive = record e.receive { control = v } }
written_of e RxWords i v = record e { receive = record e.receive { words = set e.receive.words i v } }
