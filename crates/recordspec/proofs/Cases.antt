-- The records spelled out are those of the definitions, both ways, in each version.
-- Assumes nothing.
use Prim.Native.Nat.{ℕ}
use mathlib.Core.Bool.{Bool}
use mathlib.Core.Path.{◌≡◌, refl}
use Rattle.receiver.specs.Counting.{no_counts}
use Rattle.end.specs.Good.{reset_of}
use Rattle.end.specs.Parts.{beside}
use Rattle.end.specs.Worked.{worked}
use Rattle.recordspec.specs.Record.{size_one, version_one, size_two, version_two, front_of, back_of, body_of, record_of}
use Rattle.recordspec.specs.Record.{record_before, end_of, without, newer, end_before}
use Rattle.recordspec.specs.Cases.{fresh, laid, laid_one, laid_two}
use Rattle.recordspec.proofs.Written.{flag_back}

pub fresh_record : record_of reset_of ≡ fresh
unfolding record_of body_of front_of back_of
fresh_record = refl

pub worked_record : (b : ℕ → Bool) → record_of (worked b) ≡ laid b
unfolding record_of body_of front_of back_of
worked_record b = refl

pub worked_end : (b : ℕ → Bool) → end_of (laid b) ≡ worked b
unfolding end_of
worked_end b = simp flag_back

pub worked_one : (b : ℕ → Bool) → record_before size_one version_one (b 17) (worked b) ≡ laid_one b
unfolding record_before front_of back_of
worked_one b = refl

pub worked_one_end : (b : ℕ → Bool) → end_before (laid_one b) ≡ beside no_counts 0 (worked b)
unfolding newer without end_of
worked_one_end b = simp flag_back

pub worked_two : (b : ℕ → Bool) → record_before size_two version_two (b 17) (worked b) ≡ laid_two b
unfolding record_before front_of back_of
worked_two b = refl

pub worked_two_end : (b : ℕ → Bool) → end_before (laid_two b) ≡ beside (worked b).counts 0 (worked b)
unfolding newer without end_of
worked_two_end b = simp flag_back
