-- What the search passes over after a fault. No promise speaks of it: it is the contract of one function that nobody
-- outside can call, and the proofs show that none of these places passes.
--   ruled_out s k  of twelve symbols, s stands at place k and may not, and those behind it may stand where they do:
--                  how many places from the first of the twelve on cannot pass
-- Assumes nothing.
use Rattle.std.specs.Prelude.{ℕ, cond, eqb}
use Rattle.frame.specs.Frame.{marked}

-- all twelve; but an unmarked symbol behind the first, which is then even, may start a frame
abbrev pub ruled_out : ℕ → ℕ → ℕ
ruled_out s k = cond (marked s) 12 (cond (eqb k 0) 12 k)
