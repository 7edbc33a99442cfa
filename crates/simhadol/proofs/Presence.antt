-- Presence as C gets it, by the call: 1 where the partner is present, else 0.
--   Tells r b         what the call gives for the record r: done, and 1 where b is true, else 0
--   presence_offset   of a record that is not refused: 1 exactly when the number in its bytes 99 and 100 is not 0
--   present_told      after any calls on such a record: 1 exactly when a frame was accepted with one of the last 768
--                     symbols taken, or what was left of presence outlasts them
--   reset_present_told, upgrade_present_told   the same after reset or an upgrade, where nothing was left
--   reset_frame_told  after reset, 1 exactly when twelve symbols in a row were acceptable and fewer than 768 came later
--   steady_told       after reset, 0 where the symbols taken are one same symbol, with any marks
-- Assumes nothing.
use Prim.Native.Nat.{ℕ, ◌+◌, ◌*◌}
use mathlib.Core.Bool.{Bool, true, false, not, cond, ◌&&◌, ◌||◌}
use mathlib.Core.List.{List}
use mathlib.Core.Logic.{◌↔◌}
use mathlib.Core.Path.{◌≡◌, refl, sym, ap, ◌∙◌, subst}
use native.Mathlib.Omega.{arith}
use lib.Dec.{ltb}
use lib.ListN.{length, get_or}
use Rattle.answer.specs.declared.Answer.TheVariants.{Done}
use Rattle.end.specs.Good.{reset_of, present_of}
use Rattle.end.specs.Calls.{Call, reached}
use Rattle.endlaws.specs.Presence.{FrameWithin, Steady}
use Rattle.endlaws.specs.Taken.{takes, last_of, acceptances, some}
use Rattle.endlaws.proofs.Presence.{reached_present, reached_frame, steady_absent}
use Rattle.recordspec.specs.Record.{size, flag, end_of, end_before, refused, neither}
use Rattle.recordspec.specs.Results.{presenting}
use Rattle.recordspec.proofs.Accepted.{accepted_good}
use Rattle.record.specs.Calls.{Called, through, resetting, upgrading}
use Rattle.record.specs.Runs.{bytes}
use Rattle.record.proofs.Through.{present_record}
use Rattle.record.proofs.Versions.{runs_present, reset_present, upgrade_present}
use Rattle.simhadol.specs.Numbered.{numbered}
use Rattle.simhadol.specs.declared.SimhadolReply.{SimhadolReply}

abbrev pub Tells : List ℕ → Bool → Type 0
Tells r b = numbered (through presenting r).reply ≡ record { answer = 0; value = cond b 1 0 }

-- a bool's byte, as a choice
byte_is : (b : Bool) → flag b ≡ cond b 1 0
byte_is true = refl
byte_is false = refl

tells : (r : List ℕ) (b : Bool) → (through presenting r).reply ≡ record { answer = Done; value = flag b } → Tells r b
tells r b h = ap numbered h ∙ ap (λ (v : ℕ). record { answer = 0; value = v }) (byte_is b)

pub presence_offset : (r : List ℕ) → refused r ≡ false → Tells r (ltb 0 (256 * get_or r 99 0 + get_or r 100 0))
unfolding present_of end_of
presence_offset r h =
    ap (λ (c : Called). numbered c.reply) (present_record r h)
    ∙ ap (λ (b : Bool). record { answer = 0; value = cond (not b && ltb 0 (end_of r).presence) 1 0 })
    (accepted_good r h)

pub present_told : (cs : List Call) (r : List ℕ) → refused r ≡ false
    → Tells (bytes cs r)
    (some (last_of 768 (acceptances cs (end_of r))) || ltb (length (takes cs)) (end_of r).presence)
present_told cs r h =
    tells (bytes cs r) (some (last_of 768 (acceptances cs (end_of r))) || ltb (length (takes cs)) (end_of r).presence)
    (runs_present cs r h)

pub reset_present_told : (cs : List Call) (a : List ℕ) → length a ≡ size
    → Tells (bytes cs (resetting a).bytes) (some (last_of 768 (acceptances cs reset_of)))
reset_present_told cs a l =
    tells (bytes cs (resetting a).bytes) (some (last_of 768 (acceptances cs reset_of))) (reset_present cs a l)

pub upgrade_present_told : (cs : List Call) (r a : List ℕ) → neither r ≡ false → length a ≡ size
    → Tells (bytes cs (upgrading r a).bytes) (some (last_of 768 (acceptances cs (end_before r))))
upgrade_present_told cs r a h l =
    tells (bytes cs (upgrading r a).bytes) (some (last_of 768 (acceptances cs (end_before r))))
    (upgrade_present cs r a h l)

module _ (cs : List Call) (a : List ℕ) (l : length a ≡ size) where
  abbrev now : List ℕ
  now = bytes cs (resetting a).bytes

  there : Tells now (present_of (reached cs))
  there = subst (Tells now) (sym (reached_present cs)) (reset_present_told cs a l)

  pub reset_frame_told : Tells (bytes cs (resetting a).bytes) true ↔ FrameWithin 768 (takes cs)
  reset_frame_told = (
    λ t. (reached_frame cs).0 (one (present_of (reached cs)) (sym there ∙ t)),
    λ f. subst (Tells now) ((reached_frame cs).1 f) there,
  )
    where
      one : (b : Bool)
          → ◌≡◌ {A = SimhadolReply} (record { answer = 0; value = cond b 1 0 }) (record { answer = 0; value = 1 })
          → b ≡ true
      one true h = refl
      one false h = let k : ◌≡◌ {A = ℕ} 0 1 = ap (λ (x : SimhadolReply). x.value) h in absurd (omega arith)

  pub steady_told : (s : ℕ) → Steady s (takes cs) → Tells (bytes cs (resetting a).bytes) false
  steady_told s h = subst (Tells now) (steady_absent s cs h) there
