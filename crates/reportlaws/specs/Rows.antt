-- When a call of request #110 gives what, in plain terms: by the host, a message's number, and what the end answers.
--   UnderWay h      the sending host h has a block under way: the number that is next is one of 0 to 15
--   written e       what the end e answers to a write to 3.2309 (of 0: the answer does not depend on the value)
--   More h n        n is in turn at the taking host h, and more are to come: it is one of 0 to 14
--   Last h n        n is in turn, and is the last: 15
--   Starts h n      n is out of turn, and is 0
--   OutOfTurn h n   n is out of turn, or is none of 0 to 15, and is not 0
--   read e          what the end e answers to a read of 3.2313
--   bit_15 e        bit 15 of what is read: a message is there
-- Assumes nothing.
use Rattle.std.specs.Prelude.{ℕ, ◌/◌, ◌%◌, ◌^◌, ◌<◌, ◌⊎◌, ◌≡◌}
use Rattle.answer.specs.declared.Answer.{Answer}
use Rattle.end.specs.declared.End.{End}
use Rattle.end.specs.Registers.{read_of, write_of}
use Rattle.report.specs.declared.SendingHost.{SendingHost}
use Rattle.report.specs.declared.TakingHost.{TakingHost}

abbrev pub UnderWay : SendingHost → Type 0
UnderWay h = h.next < 16

abbrev pub written : End → Answer
written e = (write_of e 2309 0).answer

abbrev pub More : TakingHost → ℕ → Type 0
More h n = (n < 15) × (h.turn ≡ n)

abbrev pub Last : TakingHost → ℕ → Type 0
Last h n = (n ≡ 15) × (h.turn ≡ 15)

abbrev pub Starts : TakingHost → ℕ → Type 0
Starts h n = (n ≡ 0) × ¬ (h.turn ≡ 0)

abbrev pub OutOfTurn : TakingHost → ℕ → Type 0
OutOfTurn h n = ¬ (n ≡ 0) × ((15 < n) ⊎ ¬ (h.turn ≡ n))

abbrev pub read : End → Answer
read e = (read_of e 2313).answer

abbrev pub bit_15 : End → ℕ
bit_15 e = (read_of e 2313).value / 2 ^ 15 % 2
