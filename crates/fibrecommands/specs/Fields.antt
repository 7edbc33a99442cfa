-- The fields of an end.
--   all_of         all fields, in dump's order
--   name_of f      the name of the field f, as dump prints it and set takes it
--   elements_of f  how many elements it has: the eight words, or 1 where it is no array
--   largest_of f   its largest value: a control or a word has sixteen bits, a bool one
-- Assumes nothing.
use Rattle.std.specs.Prelude.{ℕ, List, [], ◌∷◌, codes, ◌≡◌, refl, map, sum}
use Rattle.fibrecommands.specs.declared.fields.Field.{Field}
use Rattle.fibrecommands.specs.declared.fields.TheConstants.{VALUES}
use Rattle.fibrecommands.specs.declared.fields.Field.TheVariants.{Txreq, Phyt, Mert, Control, Words, Rxval, RxToggle, RxControl, RxWords}
use Rattle.fibrecommands.specs.declared.fields.Field.TheVariants.{SentMsgt, SentPhyt, SentMert, SentControl, SentWords}

abbrev pub all_of : List Field
all_of =
    Txreq ∷ Phyt ∷ Mert ∷ Control ∷ Words ∷ SentMsgt ∷ SentPhyt ∷ SentMert ∷ SentControl ∷ SentWords ∷ Rxval ∷ RxToggle ∷ RxControl ∷ RxWords ∷ []

abbrev pub name_of : Field → List ℕ
name_of Txreq = codes "txreq"
name_of Phyt = codes "phyt"
name_of Mert = codes "mert"
name_of Control = codes "control"
name_of Words = codes "words"
name_of SentMsgt = codes "sent_msgt"
name_of SentPhyt = codes "sent_phyt"
name_of SentMert = codes "sent_mert"
name_of SentControl = codes "sent_control"
name_of SentWords = codes "sent_words"
name_of Rxval = codes "rxval"
name_of RxToggle = codes "rx_toggle"
name_of RxControl = codes "rx_control"
name_of RxWords = codes "rx_words"

abbrev pub elements_of : Field → ℕ
elements_of Words = 8
elements_of SentWords = 8
elements_of RxWords = 8
elements_of _ = 1

abbrev pub largest_of : Field → ℕ
largest_of Control = 65535
largest_of Words = 65535
largest_of SentControl = 65535
largest_of SentWords = 65535
largest_of RxControl = 65535
largest_of RxWords = 65535
largest_of _ = 1

-- the elements of all fields together: as many values as a dump has
values : sum (map elements_of all_of) ≡ VALUES
values = refl
