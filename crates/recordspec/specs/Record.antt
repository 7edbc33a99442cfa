-- Requests #104, #106 and #107 of document 02: the record of an end, and the end of a record. docs/RECORD.md has the
-- offsets.
--   size, version    of a record as it is written now; size_one, version_one and size_two, version_two, of those of before
--   two n, twos l    a number in two bytes, the high byte first; a list of them
--   flag b           a bool's byte
--   head_of n v       a record's head: two bytes of length, counting the whole record, and the version
--   front_of e       the end e up to the collection; back_of e, from what was heard up to the counts
--   body_of e         the end e, field by field
--   record_of e      the record of e
--   record_before n v b e  its record of a version v of before, of n bytes: with the bool b, whether the partner was
--                    present, behind the collection, and cut where the version ended
--   at r i           byte i of r
--   flag_at, bytes_at  a bool, and so many bytes, from there on; two_at, a number of two bytes
--   pairs l          the numbers of which l is twos
--   end_of r          the end of the record r; sender_of r .. counts_of r, presence_of r, its parts
--   bool_at          where a record of before has the bool
--   without r        the bytes of a record of before behind its head, without the one for the bool
--   newer r          these bytes as a record of now: with its head, and zeros for what came later
--   end_before r     the end of the record r of before
--   largest          the end in which each field has the largest value that is in its range
--   limits           the largest value of each byte behind the head
--   exceeds l m      some byte of l is above the one of m in its place
--   wrong_head n v r  a wrong length or an unknown version, where it should have n bytes and version v
--   refused_by n v k x b r  that; or a value out of range, x being a number of the record that is at most k, and b its
--                    bytes behind the head
--   refused r        what answer 11 meets: a wrong length, an unknown version or a value out of range; presence is
--                    looked at as a number
--   refused_before n v r  the same of a version of before; neither r, r is a good record of neither
--   WrongBy n v k x b r   the same in plain terms: the area is not of a record's size, its length bytes say another
--                    length, its version is another, the number is too large, or some byte is above the largest for its
--                    place; Wrong r, WrongBefore n v r, of the record of now and of before
-- Assumes nothing.
use Rattle.std.specs.Prelude.{ℕ, ◌+◌, ◌-◌, ◌*◌, ◌/◌, ◌%◌, ◌<◌, Bool, true, false, not, ◌&&◌, ◌||◌, ◌≡◌, eqb, ltb}
use Rattle.std.specs.Prelude.{List, [], ◌∷◌, ◌++◌, length, get_or, take, drop, replicate}
use Rattle.end.specs.declared.End.{End}
use Rattle.end.specs.declared.Sender.{Sender}
use Rattle.end.specs.declared.Outbox.{Outbox}
use Rattle.receiver.specs.declared.Collector.{Collector}
use Rattle.receiver.specs.declared.Heard.{Heard}
use Rattle.receiver.specs.declared.Inbox.{Inbox}
use Rattle.receiver.specs.declared.Counts.{Counts}
use Rattle.receiver.specs.Counting.{listed}

abbrev pub size : ℕ
size = 101

abbrev pub version : ℕ
version = 3

abbrev pub size_one : ℕ
size_one = 92

abbrev pub version_one : ℕ
version_one = 1

abbrev pub size_two : ℕ
size_two = 100

abbrev pub version_two : ℕ
version_two = 2

-- The record of an end

abbrev pub two : ℕ → List ℕ
two n = n / 256 ∷ n % 256 ∷ []

abbrev pub twos : List ℕ → List ℕ
twos [] = []
twos (n ∷ l) = n / 256 ∷ n % 256 ∷ twos l

abbrev pub flag : Bool → ℕ
flag false = 0
flag true = 1

abbrev pub head_of : ℕ → ℕ → List ℕ
head_of n v = two n ++ (v ∷ [])

abbrev pub sender_bytes : Sender → List ℕ
sender_bytes s =
    twos s.symbols ++ (s.position ∷ flag s.toggle ∷ flag s.ready ∷ s.health ∷ s.loaded ∷ [])

abbrev pub outbox_bytes : Outbox → List ℕ
outbox_bytes o =
    flag o.pending ∷ flag o.toggle ∷ flag o.received ∷ flag o.confirmed ∷ o.number ∷ flag o.ping
    ∷ o.bytes

abbrev pub collector_bytes : Collector → List ℕ
collector_bytes c = twos c.symbols ++ (c.count ∷ [])

abbrev pub heard_bytes : Heard → List ℕ
heard_bytes h =
    h.health ∷ flag h.got ∷ flag h.ping ∷ flag h.valid ∷ flag h.toggle ∷ flag h.ack
    ∷ flag h.togack ∷ []

abbrev pub inbox_bytes : Inbox → List ℕ
inbox_bytes i =
    flag i.expected ∷ flag i.acknowledge ∷ flag i.full ∷ flag i.toggle ∷ i.number ∷ i.bytes

unfoldable pub front_of : End → List ℕ
front_of e = sender_bytes e.sender ++ (outbox_bytes e.outbox ++ collector_bytes e.collector)

unfoldable pub back_of : End → List ℕ
back_of e = heard_bytes e.heard ++ (inbox_bytes e.inbox ++ twos (listed e.counts))

unfoldable pub body_of : End → List ℕ
body_of e = front_of e ++ (back_of e ++ two e.presence)

unfoldable pub record_of : End → List ℕ
record_of e = head_of size version ++ body_of e

unfoldable pub record_before : ℕ → ℕ → Bool → End → List ℕ
record_before n v b e = take n (head_of n v ++ (front_of e ++ (flag b ∷ back_of e)))

-- The end of a record

abbrev pub at : List ℕ → ℕ → ℕ
at r i = get_or r i 0

abbrev pub flag_at : List ℕ → ℕ → Bool
flag_at r i = eqb (at r i) 1

abbrev pub two_at : List ℕ → ℕ → ℕ
two_at r i = 256 * at r i + at r (i + 1)

abbrev pub bytes_at : List ℕ → ℕ → ℕ → List ℕ
bytes_at r i n = take n (drop i r)

abbrev pub pairs : List ℕ → List ℕ
pairs [] = []
pairs (h ∷ []) = []
pairs (h ∷ l ∷ r) = (256 * h + l) ∷ pairs r

abbrev pub sender_of : List ℕ → Sender
sender_of r = record {
  symbols = pairs (bytes_at r 3 24);
  position = at r 27;
  toggle = flag_at r 28;
  ready = flag_at r 29;
  health = at r 30;
  loaded = at r 31;
}

abbrev pub outbox_of : List ℕ → Outbox
outbox_of r = record {
  pending = flag_at r 32;
  toggle = flag_at r 33;
  received = flag_at r 34;
  confirmed = flag_at r 35;
  number = at r 36;
  ping = flag_at r 37;
  bytes = bytes_at r 38 8;
}

abbrev pub collector_of : List ℕ → Collector
collector_of r = record { symbols = pairs (bytes_at r 46 24); count = at r 70 }

abbrev pub heard_of : List ℕ → Heard
heard_of r = record {
  health = at r 71;
  got = flag_at r 72;
  ping = flag_at r 73;
  valid = flag_at r 74;
  toggle = flag_at r 75;
  ack = flag_at r 76;
  togack = flag_at r 77;
}

abbrev pub inbox_of : List ℕ → Inbox
inbox_of r = record {
  expected = flag_at r 78;
  acknowledge = flag_at r 79;
  full = flag_at r 80;
  toggle = flag_at r 81;
  number = at r 82;
  bytes = bytes_at r 83 8;
}

abbrev pub counts_of : List ℕ → Counts
counts_of r = record { accepted = two_at r 91; crc = two_at r 93; marked = two_at r 95; early = two_at r 97 }

abbrev pub presence_of : List ℕ → ℕ
presence_of r = two_at r 99

unfoldable pub end_of : List ℕ → End
end_of r = record {
  sender = sender_of r;
  outbox = outbox_of r;
  collector = collector_of r;
  heard = heard_of r;
  inbox = inbox_of r;
  counts = counts_of r;
  presence = presence_of r;
}

-- The end of a record of before

-- where the bool stands, behind the collection
abbrev pub bool_at : ℕ
bool_at = 71

unfoldable pub without : List ℕ → List ℕ
without r = take (bool_at - 3) (drop 3 r) ++ drop (bool_at + 1) r

unfoldable pub newer : List ℕ → List ℕ
newer r = head_of size version ++ (without r ++ replicate (size + 1 - length r) 0)

abbrev pub end_before : List ℕ → End
end_before r = end_of (newer r)

-- Answer 11

abbrev pub largest : End
largest = record {
  sender = record { symbols = replicate 12 511; position = 11; toggle = true; ready = true; health = 3; loaded = 3 };
  outbox = record {
    pending = true;
    toggle = true;
    received = true;
    confirmed = true;
    number = 15;
    ping = true;
    bytes = replicate 8 255;
  };
  collector = record { symbols = replicate 12 511; count = 11 };
  heard = record {
    health = 3;
    got = true;
    ping = true;
    valid = true;
    toggle = true;
    ack = true;
    togack = true;
  };
  inbox = record {
    expected = true;
    acknowledge = true;
    full = true;
    toggle = true;
    number = 15;
    bytes = replicate 8 255;
  };
  counts = record { accepted = 65535; crc = 65535; marked = 65535; early = 65535 };
  presence = 768;
}

-- no byte alone says that presence is above 768: its bytes are at most those of 1,023
unfoldable pub limits : List ℕ
limits = front_of largest ++ (back_of largest ++ two 1023)

unfoldable pub exceeds : List ℕ → List ℕ → Bool
exceeds [] m = false
exceeds (x ∷ l) [] = false
exceeds (x ∷ l) (y ∷ m) = ltb y x || exceeds l m

abbrev pub wrong_length : ℕ → List ℕ → Bool
wrong_length n r = not (eqb (length r) n) || not (eqb (two_at r 0) n)

abbrev pub unknown_version : ℕ → List ℕ → Bool
unknown_version v r = not (eqb (at r 2) v)

unfoldable pub wrong_head : ℕ → ℕ → List ℕ → Bool
wrong_head n v r = wrong_length n r || unknown_version v r

unfoldable pub refused_by : (n v k x : ℕ) → (b r : List ℕ) → Bool
refused_by n v k x b r = wrong_head n v r || (ltb k x || exceeds b limits)

unfoldable pub refused : List ℕ → Bool
refused r = refused_by size version largest.presence (presence_of r) (drop 3 r) r

unfoldable pub refused_before : ℕ → ℕ → List ℕ → Bool
refused_before n v r = refused_by n v 1 (at r bool_at) (without r) r

abbrev pub neither : List ℕ → Bool
neither r = refused_before size_one version_one r && refused_before size_two version_two r

-- the same in plain terms
pub data WrongBy (n v k x : ℕ) (b r : List ℕ) : Type 0 where
  area : ¬ (length r ≡ n) → WrongBy n v k x b r
  said : ¬ (two_at r 0 ≡ n) → WrongBy n v k x b r
  unknown : ¬ (at r 2 ≡ v) → WrongBy n v k x b r
  number : k < x → WrongBy n v k x b r
  value : (i : ℕ) → at limits i < at b i → WrongBy n v k x b r

abbrev pub Wrong : List ℕ → Type 0
Wrong r = WrongBy size version 768 (presence_of r) (drop 3 r) r

abbrev pub WrongBefore : ℕ → ℕ → List ℕ → Type 0
WrongBefore n v r = WrongBy n v 1 (at r bool_at) (without r) r
