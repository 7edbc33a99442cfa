-- Request #110, the taking side: messages fill a part block by their numbers, and it is handed over when it is whole.
--   zeros            128 zero bytes: a fresh block, and what is handed over where no block is
--   filled_of b n m  the block b with the bytes m of number n in it, as bytes 8n to 8n + 7
--   in_turn t n       n is the number in turn, t, and one of 0 to 15
--   fresh_taking     a fresh block, and number 0 in turn
--   whole_or b n     number n stands in the part block b: at 15 it is handed over and a fresh one begins; before it the
--                    next number is in turn
--   take_of h n m     what take gives for the number n and the bytes m: out of turn it drops the part block, and a 0
--                    also starts the next
--   past r e         the end after the register r was read
--   bytes_read e     the bytes of a message: those of 3.2314 to 3.2317, read in that order; words_of, with the end after
--   pull_of h e      what pull gives: 3.2313 is read and, only if bit 15 is set, the others
-- Assumes nothing.
use Rattle.std.specs.Prelude.{ℕ, ◌+◌, ◌*◌, ◌/◌, ◌%◌, Bool, cond, ◌&&◌, List, ◌++◌, eqb, ltb, take, drop, replicate}
use Rattle.crc.specs.Bits.{odd}
use Rattle.weights.specs.Weights.{halves}
use Rattle.end.specs.declared.End.{End}
use Rattle.end.specs.declared.Read.{Read}
use Rattle.end.specs.Registers.{read_of}
use Rattle.report.specs.declared.TakingHost.{TakingHost}
use Rattle.report.specs.declared.Take.TheVariants.{Part, Out, Whole}
use Rattle.report.specs.declared.Taken.{Taken}
use Rattle.report.specs.declared.Pull.TheVariants.{Refused, Empty, Took}
use Rattle.report.specs.declared.Pulled.{Pulled}
use Rattle.report.specs.declared.taking.Words.{Words}
use Rattle.report.specs.Sending.{done}

abbrev pub zeros : List ℕ
zeros = replicate 128 0

abbrev pub filled_of : List ℕ → ℕ → List ℕ → List ℕ
filled_of b n m = take (8 * n) b ++ (m ++ drop (8 * n + 8) b)

abbrev pub in_turn : ℕ → ℕ → Bool
in_turn t n = ltb n 16 && eqb n t

abbrev pub fresh_taking : TakingHost
fresh_taking = record { block = zeros; turn = 0 }

abbrev pub whole_or : List ℕ → ℕ → Taken
whole_or b n =
    cond (eqb n 15)
    (record { what = Whole; block = b; host = fresh_taking })
    (record { what = Part n; block = zeros; host = record { block = b; turn = n + 1 } })

unfoldable pub take_of : TakingHost → ℕ → List ℕ → Taken
take_of h n m =
    cond (in_turn h.turn n)
    (whole_or (filled_of h.block n m) n)
    (cond (eqb n 0)
    (whole_or (filled_of zeros 0 m) 0)
    (record { what = Out n; block = zeros; host = fresh_taking }))

-- From an end

abbrev pub past : ℕ → End → End
past r e = (read_of e r).end

abbrev pub bytes_read : End → List ℕ
bytes_read e =
    halves (read_of e 2314).value
    ++ (halves (read_of (past 2314 e) 2315).value
    ++ (halves (read_of (past 2315 (past 2314 e)) 2316).value
    ++ halves (read_of (past 2316 (past 2315 (past 2314 e))) 2317).value))

abbrev pub words_of : End → Words
words_of e = record { bytes = bytes_read e; end = past 2317 (past 2316 (past 2315 (past 2314 e))) }

-- a message that was taken: what the taking host made of it, and the end after its reads
abbrev pub took : Taken → End → Pulled
took t e = record { what = Took t.what; block = t.block; host = t.host; end = e }

-- what 3.2313 gave
abbrev pub pulled_by : TakingHost → Read → Pulled
pulled_by h x =
    cond (done x.answer)
    (cond (odd (x.value / 32768))
    (took (take_of h (x.value / 256 % 16) (words_of x.end).bytes) (words_of x.end).end)
    (record { what = Empty; block = zeros; host = h; end = x.end }))
    (record { what = Refused x.answer; block = zeros; host = h; end = x.end })

unfoldable pub pull_of : TakingHost → End → Pulled
pull_of h e = pulled_by h (read_of e 2313)
