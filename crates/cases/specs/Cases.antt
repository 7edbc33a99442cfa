-- Document 01, "Numbers on the bench": cases P1 to P11 in a single table, over the definitions that the calls meet.
--   Row               the numbers that come out, and the numbers of document 01
--   Agree             they are the same in each row
--   check l           the frame check on the list l: its answer number
--   near es, far es   the two ends after the events es from reset, joined with delays 0
--   sent es           the symbols that the near end has sent, the first one first
--   read, write, take a call on an end: its answer number, then the value that it gives
--   slots, control    events: slots on sound lines, and a write to 3.2308 at the near end
--   report            the writes of P7: bytes 11 and 22 (hex) first, number 5
--   table             the rows of each case
-- Assumes nothing.
use Prim.{Unit}
use Rattle.std.specs.Prelude.{ℕ, ◌<◌, List, [], ◌∷◌, ◌++◌, reverse, ◌≡◌, replicate, set, drop}
use Rattle.std.proofs.Common.{arith}
use Rattle.answer.specs.Number.{number_of}
use Rattle.frame.specs.Reason.{checked_of}
use Rattle.end.specs.declared.End.{End}
use Rattle.end.specs.Good.{reset_of}
use Rattle.end.specs.Taking.{take_of}
use Rattle.end.specs.Registers.{read_of, write_of}
use Rattle.joined.specs.Joined.{slot, at_a}
use Rattle.link.specs.Link.{Access, Harm, Event, reset_world, run}

pub data Case : Type 0 where
  P1 P2 P3 P4 P5 P6 P7 P8 P9 P10 P11 : Case

pub record Row : Type 0 where
  pub got : List ℕ
  pub want : List ℕ

abbrev pub row : List ℕ → List ℕ → Row
row g w = record { got = g; want = w }

abbrev pub Agree : List Row → Type 0
Agree [] = Unit {0}
Agree (r ∷ rs) = (r.got ≡ r.want) × Agree rs

-- What is done

abbrev pub check : List ℕ → List ℕ
check l = number_of (checked_of l).answer ∷ []

abbrev pub near : List Event → End
near es = (run 0 0 es reset_world).a.end

abbrev pub far : List Event → End
far es = (run 0 0 es reset_world).b.end

abbrev pub sent : List Event → List ℕ
sent es = reverse (run 0 0 es reset_world).a.sent

abbrev pub read : ℕ → End → List ℕ
read r e = number_of (read_of e r).answer ∷ (read_of e r).value ∷ []

abbrev pub write : ℕ → ℕ → End → List ℕ
write r v e = number_of (write_of e r v).answer ∷ []

abbrev pub take : ℕ → End → List ℕ
take s e = number_of (take_of e s).answer ∷ []

abbrev pub control : (v : ℕ) → v < 65536 → List Event
control v h = at_a (Access.write 2308 v h) ∷ []

abbrev pub report : List Event
report = at_a (Access.write 2309 0x2211 (omega arith)) ∷ control 0x8500 (omega arith)

abbrev pub slots : ℕ → List Event
slots n = replicate n (slot Harm.sound Harm.sound)

-- P1's frame, and the first nine symbols of P2 to P4
abbrev pub first : List ℕ
first = 0x000 ∷ replicate 11 0x100

abbrev pub nine : List ℕ
nine = 0x000 ∷ replicate 8 0x100

-- P9: the first message is acknowledged in slot 24; the second one goes out in the frame that starts with slot 36
abbrev pub second : List Event
second = report ++ (slots 25 ++ (control 0x8500 (omega arith) ++ slots 13))

-- P10: a write that is refused, then one that is not
abbrev pub refused : List Event
refused = report ++ control 0x8600 (omega arith)

abbrev pub pinged : List Event
pinged = refused ++ control 0x0004 (omega arith)

-- The table

unfoldable pub table : Case → List Row
table P1 = row (sent (slots 12)) first ∷ row (check first) (0 ∷ []) ∷ []
table P2 = row (check (nine ++ (0x080 ∷ 0x001 ∷ 0x1A0 ∷ []))) (0 ∷ []) ∷ []
table P3 = row (check (nine ++ (0x080 ∷ 0x1A0 ∷ 0x001 ∷ []))) (9 ∷ []) ∷ []
table P4 = row (check (nine ++ (0x001 ∷ 0x0C1 ∷ 0x1C0 ∷ []))) (0 ∷ []) ∷ []
table P5 = row (check (set first 4 0x000)) (9 ∷ []) ∷ []
table P6 = row (check (set first 4 0x300)) (9 ∷ []) ∷ []
table P7 =
    row (read 2308 (near report)) (0 ∷ 0x8500 ∷ [])
    ∷ row (drop 1 (sent (report ++ slots 4))) (0x085 ∷ 0x111 ∷ 0x122 ∷ [])
    ∷ row (read 2308 (near (report ++ slots 1))) (0 ∷ 0x4500 ∷ [])
    ∷ []
table P8 =
    row (read 2313 (far (report ++ slots 12))) (0 ∷ 0x8500 ∷ [])
    ∷ row (read 2308 (near (report ++ slots 25))) (0 ∷ 0x6500 ∷ [])
    ∷ []
table P9 = row (drop 37 (sent second)) (0x1C5 ∷ []) ∷ []
table P10 =
    row (write 2308 0x8600 (near report)) (4 ∷ [])
    ∷ row (read 2308 (near refused)) (0 ∷ 0x8500 ∷ [])
    ∷ row (write 2308 0x0004 (near refused)) (0 ∷ [])
    ∷ row (read 2308 (near pinged)) (0 ∷ 0x8504 ∷ [])
    ∷ []
table P11 = row (take 1023 reset_of) (0 ∷ []) ∷ row (take 1024 reset_of) (5 ∷ []) ∷ []
