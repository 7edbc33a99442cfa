-- What P1 to P11 leave out, worked out by hand from document 01's sentences: the bits that carry no message, the second
-- acknowledgement, how long an acknowledgement lasts, and the bits of 3.2308 that cannot be written (request #101).
--   sent_back es  the symbols that the far end has sent, the first one first
--   taking l e    the end e after the symbols l
--   answers l e   what writing each of l to 3.2308 is answered
--   more          the rows of each case
-- Assumes nothing.
use Rattle.std.specs.Prelude.{ℕ, List, [], ◌∷◌, ◌++◌, map, reverse, replicate, drop}
use Rattle.std.proofs.Common.{arith}
use Rattle.answer.specs.Number.{number_of}
use Rattle.frame.specs.Frame.{build}
use Rattle.end.specs.declared.End.{End}
use Rattle.end.specs.Good.{reset_of}
use Rattle.end.specs.Taking.{take_of}
use Rattle.end.specs.Registers.{write_of}
use Rattle.joined.specs.Joined.{at_a, at_b}
use Rattle.link.specs.Link.{Access, Event, reset_world, run}
use Rattle.cases.specs.Cases.{Row, row, near, far, sent, read, write, control, report, slots}

pub data Extra : Type 0 where
  Health Ping Toggles Settling ReadOnlyBits : Extra

abbrev pub sent_back : List Event → List ℕ
sent_back es = reverse (run 0 0 es reset_world).b.sent

-- the near end's health is 3 and its PingTx 1, the far end's health 2
abbrev pub pinged : List Event
pinged = control 0x0004 (omega arith) ++ (at_a (Access.health 3) ∷ at_b (Access.health 2) ∷ [])

-- P7's message is acknowledged and read out, and a second one as well
abbrev pub twice : List Event
twice =
    report ++ (slots 25 ++ (at_b (Access.read 2317) ∷ control 0x8500 (omega arith) ++ slots 36))

-- an end takes symbol after symbol
unfoldable pub taking : List ℕ → End → End
taking [] e = e
taking (s ∷ l) e = taking l (take_of e s).end

abbrev pub answers : List ℕ → End → List ℕ
answers l e = map (λ v. number_of (write_of e 2308 v).answer) l

-- a frame with Valid 1, Toggle 1 and number 5: an end just reset expects the other toggle until it has settled
abbrev pub other : List ℕ
other = build (0x00 ∷ 0xC5 ∷ replicate 8 0x00)

unfoldable pub more : Extra → List Row
more Health =
    row (read 2308 (near pinged)) (0 ∷ 0x0004 ∷ [])
    ∷ row (read 2308 (near (pinged ++ slots 1))) (0 ∷ 0x0007 ∷ [])
    ∷ row (read 2313 (far (pinged ++ slots 12))) (0 ∷ 0x0003 ∷ [])
    ∷ row (read 2313 (near (pinged ++ slots 12))) (0 ∷ 0x0002 ∷ [])
    ∷ []
more Ping =
    row (sent (pinged ++ slots 1)) (0x107 ∷ [])
    ∷ row (drop 12 (sent_back (pinged ++ slots 13))) (0x00A ∷ [])
    ∷ row (read 2308 (near (pinged ++ slots 24))) (0 ∷ 0x000F ∷ [])
    ∷ []
more Toggles =
    row (read 2308 (near twice)) (0 ∷ 0x3500 ∷ [])
    ∷ row (read 2308 (near (twice ++ (at_a (Access.read 2308) ∷ [])))) (0 ∷ 0x1500 ∷ [])
    ∷ []
more Settling =
    row (drop 37 (sent_back (report ++ slots 38))) (0x020 ∷ [])
    ∷ row (drop 49 (sent_back (report ++ slots 50))) (0x100 ∷ [])
    ∷ row (read 2313 (taking other reset_of)) (0 ∷ 0x0000 ∷ [])
    ∷ row (read 2313 (taking (other ++ other) reset_of)) (0 ∷ 0xC500 ∷ [])
    ∷ []
-- each read-only bit alone, then each other one; 10 comes before 4, and what is refused stores no PingTx; in P8's 6500
-- Received is not cleared by writing 4500; other registers have no such bits
more ReadOnlyBits =
    row
    (answers
    (0x4000 ∷ 0x2000 ∷ 0x1000 ∷ 0x0080 ∷ 0x0040 ∷ 0x0020 ∷ 0x0010 ∷ 0x0008 ∷ 0x0002 ∷ 0x0001 ∷ [])
    reset_of)
    (replicate 10 10)
    ∷ row (answers (0x8000 ∷ 0x0800 ∷ 0x0400 ∷ 0x0200 ∷ 0x0100 ∷ 0x0004 ∷ []) reset_of) (replicate 6 0)
    ∷ row (answers (0x8608 ∷ 0x8600 ∷ []) (near report)) (10 ∷ 4 ∷ [])
    ∷ row (read 2308 (near (report ++ control 0x000C (omega arith)))) (0 ∷ 0x8500 ∷ [])
    ∷ row (write 2308 0x4500 (near (report ++ slots 25))) (10 ∷ [])
    ∷ row (read 2308 (near (report ++ (slots 25 ++ control 0x4500 (omega arith))))) (0 ∷ 0x6500 ∷ [])
    ∷ row (write 2309 0x70FB reset_of) (0 ∷ [])
    ∷ row (write 2313 0x70FB reset_of) (3 ∷ [])
    ∷ []
