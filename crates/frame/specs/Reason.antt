-- Request #105: why a frame failed.
--   reason_number r  the number of a reason
--   place_of r        the place of the symbol at fault, which is how many symbols stand before it; 0 where there is none
--   is_accepted r    it is that a frame was accepted
--   fault_at i s     what is wrong with the symbol s at place i: marked wins
--   fault_from i l r  the first fault of the symbols l at the places i, i + 1 .. of a frame: the lowest symbol that is
--                    marked or has wrong parity, and which of the two; r if there is none
--   reason_of l      of twelve symbols: the first fault; if there is none, the CRC
--   why_of l         of any list: that reason, or nothing where the answer is 7 or 5
--   checked_of l     what the frame check gives on the list l: its answer, as before the request, and the reason
--   Looked l         the answer is neither 7 nor 5: twelve numbers, none above the largest symbol
--   RightBelow k l   all symbols of l below place k may stand where they do
--   Because l r      the reason r in plain terms
-- Assumes nothing.
use Rattle.std.specs.Prelude.{ℕ, suc, ◌<◌, Bool, true, false, cond, List, [], ◌∷◌, ◌≡◌, eqb, length, get_or}
use Rattle.frame.specs.declared.Checked.{Checked}
use Rattle.frame.specs.declared.reason.Reason.{Reason}
use Rattle.frame.specs.declared.reason.Reason.TheVariants.{Nothing, Accepted, Crc, Marked, Parity}
use Rattle.frame.specs.Check.{some_above, right_parity, right_at, check_of}
use Rattle.frame.specs.Frame.{marked, crc_right}

abbrev pub reason_number : Reason → ℕ
reason_number Nothing = 0
reason_number Accepted = 1
reason_number Crc = 2
reason_number (Marked k) = 3
reason_number (Parity k) = 4

abbrev pub place_of : Reason → ℕ
place_of Nothing = 0
place_of Accepted = 0
place_of Crc = 0
place_of (Marked k) = k
place_of (Parity k) = k

abbrev pub is_accepted : Reason → Bool
is_accepted Nothing = false
is_accepted Accepted = true
is_accepted Crc = false
is_accepted (Marked k) = false
is_accepted (Parity k) = false

abbrev pub fault_at : ℕ → ℕ → Reason
fault_at i s = cond (marked s) (Marked i) (Parity i)

unfoldable pub fault_from : ℕ → List ℕ → Reason → Reason
fault_from i [] r = r
fault_from i (s ∷ l) r = cond (right_at i s) (fault_from (suc i) l r) (fault_at i s)

unfoldable pub reason_of : List ℕ → Reason
reason_of l = fault_from 0 l (cond (crc_right l) Accepted Crc)

unfoldable pub why_of : List ℕ → Reason
why_of l = cond (eqb (length l) 12) (cond (some_above l) Nothing (reason_of l)) Nothing

abbrev pub checked_of : List ℕ → Checked
checked_of l = record { answer = check_of l; reason = why_of l }

abbrev pub Looked : List ℕ → Type 0
Looked l = (length l ≡ 12) × (some_above l ≡ false)

abbrev pub RightBelow : ℕ → List ℕ → Type 0
RightBelow k l = (j : ℕ) → j < k → right_at j (get_or l j 0) ≡ true

abbrev pub Because : List ℕ → Reason → Type 0
Because l Nothing = ¬ Looked l
Because l Accepted = Looked l × RightBelow 12 l × (crc_right l ≡ true)
Because l Crc = Looked l × RightBelow 12 l × (crc_right l ≡ false)
Because l (Marked k) = Looked l × (k < 12) × RightBelow k l × (marked (get_or l k 0) ≡ true)
Because l (Parity k) =
    Looked l × (k < 12) × RightBelow k l × (marked (get_or l k 0) ≡ false) × (right_parity k (get_or l k 0) ≡ false)
