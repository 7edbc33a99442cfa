-- Results that satisfy one contract are identical: for each public call, any two results that its `ensures` allows
-- for the same arguments. `Post` is the contract as it stands in the source.
--   reason_same   two reasons of one number and one place are one reason
-- Assumes nothing.
use Prim.Native.Nat.{ℕ, zero, suc}
use mathlib.Core.Path.{◌≡◌, refl, sym, ap₂, ◌∙◌}
use Rattle.laws.specs.Identical.{Identical}
use Rattle.frame.specs.declared.reason.Reason.{Reason}
use Rattle.frame.specs.declared.reason.Reason.TheVariants.{Nothing, Accepted, Crc, Marked, Parity}
use Rattle.frame.specs.Reason.{reason_number, place_of}
use Rattle.frame.proofs.parity.Reads as parity
use Rattle.frame.proofs.crc.Reads as crc
use Rattle.frame.proofs.build.Reads as build
use Rattle.frame.proofs.crc_right.Reads as crc-right
use Rattle.frame.proofs.right_at.Reads as right_at_lem
use Rattle.frame.proofs.above.Reads as above
use Rattle.frame.proofs.check.Reads as check
use Rattle.frame.proofs.reason.U8FromReason.from.Reads as number
use Rattle.frame.proofs.reason.Reason.place.Reads as place
use Rattle.frame.proofs.reason.Reason.is_accepted.Reads as is-accepted

pub parity_identical : Identical parity.Post
parity_identical κs a x y s e f = e ∙ sym f

pub crc_identical : Identical crc.Post
crc_identical κs a x y s e f = e ∙ sym f

pub build_identical : Identical build.Post
build_identical κs a x y s e f = e ∙ sym f

pub crc_right_identical : Identical crc-right.Post
crc_right_identical κs a x y s e f = e ∙ sym f

pub right_at_identical : Identical right_at_lem.Post
right_at_identical κs a x y s e f = e ∙ sym f

pub above_identical : Identical above.Post
above_identical κs a x y s e f = e ∙ sym f

pub check_identical : Identical check.Post
check_identical κs a x y s e f = e ∙ sym f

pub number_identical : Identical number.Post
number_identical κs a x y s e f = e ∙ sym f

pub place_identical : Identical place.Post
place_identical κs a x y s e f = e ∙ sym f

pub is_accepted_identical : Identical is-accepted.Post
is_accepted_identical κs a x y s e f = e ∙ sym f

from : ℕ → ℕ → Reason
from zero k = Nothing
from (suc zero) k = Accepted
from (suc (suc zero)) k = Crc
from (suc (suc (suc zero))) k = Marked k
from (suc (suc (suc (suc n)))) k = Parity k

from_numbers : (r : Reason) → from (reason_number r) (place_of r) ≡ r
unfolding from
from_numbers Nothing = refl
from_numbers Accepted = refl
from_numbers Crc = refl
from_numbers (Marked k) = refl
from_numbers (Parity k) = refl

pub reason_same : (r s : Reason) → reason_number r ≡ reason_number s → place_of r ≡ place_of s → r ≡ s
reason_same r s h k = sym (from_numbers r) ∙ (ap₂ from h k ∙ from_numbers s)
