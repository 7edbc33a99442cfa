-- What is true of the fields of an end: dump prints what set wrote.
--   bit_there     a bool that a number up to 1 sets has that number
--   written_back  what was written in an element of a field is its value then, as an end has eight words in each part
-- Assumes nothing.
use Rattle.std.proofs.Common.{◌≡◌, ℕ, zero, suc, ◌<◌, ◌≤◌, eqb, length, refl, arith}
use Rattle.std.proofs.lemmas.Grind.{common_steps}
use Rattle.fibre.specs.declared.End.{End}
use Rattle.fibrecommands.specs.Fields.{elements_of, largest_of}
use Rattle.fibrecommands.specs.declared.fields.Field.{Field}
use Rattle.fibrecommands.specs.declared.fields.Field.TheVariants.{Txreq, Phyt, Mert, Control, Words, SentMsgt, SentPhyt, SentMert, SentControl, SentWords, Rxval, RxToggle, RxControl, RxWords}
use Rattle.fibrefields.specs.Fields.{value_of, written_of}
use Rattle.fibrefields.specs.Numbers.{bit_of}

pub bit_there : (v : ℕ) → v ≤ 1 → bit_of (eqb v 1) ≡ v
bit_there zero h = refl
bit_there (suc zero) h = refl
bit_there (suc (suc v)) h = absurd (omega arith)

pub written_back : (e : End) (f : Field) (i v : ℕ) → length e.transmit.words ≡ 8 → length e.sent.words ≡ 8 → length e.receive.words ≡ 8 → i < elements_of f → v ≤ largest_of f → value_of (written_of e f i v) f i ≡ v
written_back e Txreq i v t s r h m = bit_there v m
written_back e Phyt i v t s r h m = bit_there v m
written_back e Mert i v t s r h m = bit_there v m
written_back e Control i v t s r h m = refl
written_back e Words i v t s r h m = grind (arith, common_steps)
written_back e SentMsgt i v t s r h m = bit_there v m
written_back e SentPhyt i v t s r h m = bit_there v m
written_back e SentMert i v t s r h m = bit_there v m
written_back e SentControl i v t s r h m = refl
written_back e SentWords i v t s r h m = grind (arith, common_steps)
written_back e Rxval i v t s r h m = bit_there v m
written_back e RxToggle i v t s r h m = bit_there v m
written_back e RxControl i v t s r h m = refl
written_back e RxWords i v t s r h m = grind (arith, common_steps)
