-- An end for computed cases.
--   worked b    an end with another value in every number, and its bools as b says, counted from 0 in their order
-- Assumes nothing.
use Rattle.std.specs.Prelude.{ℕ, Bool, [], ◌∷◌}
use Rattle.end.specs.declared.End.{End}

abbrev pub worked : (ℕ → Bool) → End
worked b = record {
  sender = record {
    symbols = 1 ∷ 258 ∷ 3 ∷ 260 ∷ 5 ∷ 262 ∷ 7 ∷ 264 ∷ 9 ∷ 266 ∷ 11 ∷ 268 ∷ [];
    position = 7;
    toggle = b 0;
    ready = b 1;
    health = 1;
    loaded = 2;
  };
  outbox = record {
    pending = b 2;
    toggle = b 3;
    received = b 4;
    confirmed = b 5;
    number = 13;
    ping = b 6;
    bytes = 11 ∷ 22 ∷ 33 ∷ 44 ∷ 55 ∷ 66 ∷ 77 ∷ 88 ∷ [];
  };
  collector = record {
    symbols = 497 ∷ 242 ∷ 499 ∷ 244 ∷ 501 ∷ 246 ∷ 503 ∷ 248 ∷ 505 ∷ 250 ∷ 507 ∷ 252 ∷ [];
    count = 9;
  };
  heard = record {
    health = 3;
    got = b 7;
    ping = b 8;
    valid = b 9;
    toggle = b 10;
    ack = b 11;
    togack = b 12;
  };
  inbox = record {
    expected = b 13;
    acknowledge = b 14;
    full = b 15;
    toggle = b 16;
    number = 14;
    bytes = 201 ∷ 202 ∷ 203 ∷ 204 ∷ 205 ∷ 206 ∷ 207 ∷ 208 ∷ [];
  };
  counts = record { accepted = 0xF122; crc = 0x3344; marked = 0xD566; early = 0x9788 };
  presence = 0x02FD;
}
