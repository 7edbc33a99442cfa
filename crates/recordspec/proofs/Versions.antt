-- Which bytes are a good record, of now or of before.
--   accepted_exactly   a record is not refused exactly when writing its end gives the same bytes. Its end is one that
--                      answer 1 does not meet (a position of 200 would write back the same), with whole arrays (a
--                      record cut short in the last field would too)
--   before_exactly     a record of version 1 or 2 is not refused exactly when writing its end and its bool as that
--                      version did gives the same bytes (with the same two conditions)
--   WrongOne, WrongTwo   a record that is wrong as one of version 1, of version 2
--   one_version        no bytes are a good record of two versions
--   wrong_both         a record that is wrong as one of either version, as what is decided
-- Assumes nothing.
use Prim.Native.Nat.{ℕ, ◌≤◌}
use mathlib.Core.Bool.{false}
use mathlib.Core.List.{List}
use mathlib.Core.Logic.{◌↔◌}
use mathlib.Core.Path.{◌≡◌, sym, ◌∙◌, subst}
use native.Mathlib.Omega.{arith}
use lib.Dec.{lit≤}
use lib.ListN.{length}
use Rattle.end.specs.Good.{bad}
use Rattle.end.specs.Shape.{Shaped}
use Rattle.laws.proofs.Bools.{no_if}
use Rattle.laws.proofs.Decide.{Decides, decides_and}
use Rattle.recordspec.specs.Record.{size_one, version_one, size_two, version_two, flag_at, bool_at, record_of}
use Rattle.recordspec.specs.Record.{record_before, end_of, end_before, refused, refused_before, neither, WrongBy}
use Rattle.recordspec.specs.Record.{Wrong, WrongBefore}
use Rattle.recordspec.proofs.Accepted.{fits_now, accepted_back, accepted_good, accepted_shape}
use Rattle.recordspec.proofs.Before.{was, before_back, before_good, before_shape, before_accepted}
use Rattle.recordspec.proofs.Written.{written_accepted}
use Rattle.recordspec.proofs.Wrong.{wrong, wrong_before}

pub accepted_exactly : (r : List ℕ)
    → (refused r ≡ false) ↔ (Shaped (end_of r) × ((bad (end_of r) ≡ false) × (record_of (end_of r) ≡ r)))
accepted_exactly r = (
  λ h. (accepted_shape r h, (accepted_good r h, accepted_back r h)),
  λ w. rw (sym w.1.1) (written_accepted (end_of r) w.0 w.1.0),
)

module _ (n v : ℕ) (low : size_one ≤ n) (high : n ≤ size_two) (r : List ℕ) where
  pub before_exactly : (refused_before n v r ≡ false)
      ↔ (Shaped (end_before r)
      × ((bad (end_before r) ≡ false) × (record_before n v (flag_at r bool_at) (end_before r) ≡ r)))
  before_exactly = (
    λ h. (before_shape n v low high r h, (before_good n v low high r h, before_back n v low high r h)),
    λ w.
        subst (λ (t : List ℕ). refused_before n v t ≡ false) w.1.1
        (before_accepted n v low high (flag_at r bool_at) (end_before r) w.0 w.1.0),
  )

abbrev pub WrongOne : List ℕ → Type 0
WrongOne r = WrongBefore size_one version_one r

abbrev pub WrongTwo : List ℕ → Type 0
WrongTwo r = WrongBefore size_two version_two r

wrong_one : (r : List ℕ) → Decides (refused_before size_one version_one r) (WrongOne r)
wrong_one = wrong_before size_one version_one (lit≤ tt) (lit≤ tt)

wrong_two : (r : List ℕ) → Decides (refused_before size_two version_two r) (WrongTwo r)
wrong_two = wrong_before size_two version_two (lit≤ tt) (lit≤ tt)

-- a record of another size is wrong
other : {m n v k x : ℕ} {b r : List ℕ} → length r ≡ m → ¬ (m ≡ n) → WrongBy n v k x b r
other l d = WrongBy.area (λ e. d (sym l ∙ e))

pub one_version : (r : List ℕ)
    → (¬ WrongOne r → WrongTwo r × Wrong r) × (¬ WrongTwo r → WrongOne r × Wrong r)
    × (¬ Wrong r → WrongOne r × WrongTwo r)
one_version r = (
  λ w.
      let l = (was size_one version_one (lit≤ tt) (lit≤ tt) r (no_if _ (λ h. w ((wrong_one r).holds h)))).long in
      (other l (λ e. omega arith), other l (λ e. omega arith)),
  λ w.
      let l = (was size_two version_two (lit≤ tt) (lit≤ tt) r (no_if _ (λ h. w ((wrong_two r).holds h)))).long in
      (other l (λ e. omega arith), other l (λ e. omega arith)),
  λ w.
      let l = (fits_now r (no_if _ (λ h. w ((wrong r).holds h)))).long in
      (other l (λ e. omega arith), other l (λ e. omega arith)),
)

pub wrong_both : (r : List ℕ) → Decides (neither r) (WrongOne r × WrongTwo r)
wrong_both r =
    decides_and (refused_before size_one version_one r) (refused_before size_two version_two r) (wrong_one r) (wrong_two r)
