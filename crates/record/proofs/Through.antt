-- Each call on a record is the call on its end, and so is each list of calls.
--   through_end        a call on the record of an end: the call's answer and value, and the record of its next end
--   CALL-record        the same call by call, in document 01's own definitions; present_leaves, present changes no byte
--   reason_record, reason_refused   a take that says why: what becomes of the collection; nothing where it is refused
--   runs_same          any calls on the record of an end: the same replies, and the record of the end that they lead to
--   runs_accepted, runs_refused   the same for any bytes, accepted or not
--   reset_run          the same from reset, in an area with whatever bytes
--   reset_reason       the reason then is that of the end that the calls lead to
-- Assumes nothing.
use Prim.Native.Nat.{ℕ}
use mathlib.Core.Bool.{Bool, true, false, cond}
use mathlib.Core.List.{List, [], ◌∷◌, map}
use mathlib.Core.Path.{◌≡◌, refl, ap, ◌∙◌, subst}
use lib.ListN.{length}
use borrow.Author.Tests.{eq-eqb}
use Rattle.answer.specs.Number.{number_of}
use Rattle.answer.specs.declared.Answer.{Answer}
use Rattle.answer.specs.declared.Answer.TheVariants.{Done}
use Rattle.frame.specs.declared.reason.Reason.TheVariants.{Nothing}
use Rattle.end.specs.declared.End.{End}
use Rattle.end.specs.Good.{bad, reset_of, present_of}
use Rattle.end.specs.Sending.{send_of}
use Rattle.end.specs.Taking.{take_of}
use Rattle.end.specs.Registers.{read_of, write_of, health_of}
use Rattle.end.specs.Calls.{Call, after, calls, reached}
use Rattle.end.specs.Shape.{Shaped}
use Rattle.endlaws.proofs.Answers.{take_refused}
use Rattle.endlaws.proofs.Goods.{after_good, reset_good, reached_good, reached_shaped}
use Rattle.endlaws.proofs.Shapes.{after_shaped}
use Rattle.end.proofs.Guards.{reset_shaped}
use Rattle.recordspec.specs.Record.{size, flag, record_of, end_of, refused}
use Rattle.recordspec.specs.Results.{Result, sending, taking, reading, writing, setting_health, presenting, result}
use Rattle.recordspec.proofs.Accepted.{accepted_back, accepted_good, accepted_shape}
use Rattle.record.proofs.Results.{after_end}
use Rattle.recordspec.proofs.Written.{read_back, written_accepted}
use Rattle.record.specs.declared.Reply.{Reply}
use Rattle.record.specs.Calls.{Called, through, stored, resetting, bad_reply, bad_record, reason_through, told_by}
use Rattle.record.specs.Runs.{replies, bytes, told}

pub through_end : (f : End → Result) (e : End) → Shaped e → bad e ≡ false → through f (record_of e) ≡ stored (f e)
unfolding through
through_end f e s g = rw (written_accepted e s g, read_back e s)

-- the calls one by one, in document 01's own definitions

accepted_call : (f : End → Result) (r : List ℕ) → refused r ≡ false → through f r ≡ stored (f (end_of r))
unfolding through
accepted_call f r h = rw h

refused_call : (f : End → Result) (r : List ℕ) → refused r ≡ true → through f r ≡ bad_record r
unfolding through
refused_call f r h = rw h

abbrev pub Gives : Called → Answer → ℕ → End → Type 0
Gives c a v e = c ≡ record { reply = record { answer = a; value = v }; bytes = record_of e }

pub send_record : (r : List ℕ) → refused r ≡ false
    → Gives (through sending r) (send_of (end_of r)).answer (send_of (end_of r)).symbol (send_of (end_of r)).end
send_record r h = accepted_call sending r h

pub take_record : (s : ℕ) (r : List ℕ) → refused r ≡ false
    → Gives (through (taking s) r) (take_of (end_of r) s).answer 0 (take_of (end_of r) s).end
take_record s r h = accepted_call (taking s) r h

pub reason_record : (s : ℕ) (r : List ℕ) → refused r ≡ false
    → told_by s r ≡ record { answer = (take_of (end_of r) s).answer; reason = (take_of (end_of r) s).reason }
unfolding through reason_through
reason_record s r h = rw h

pub reason_refused : (s : ℕ) (r : List ℕ) → ¬ (number_of (told_by s r).answer ≡ 0) → (told_by s r).reason ≡ Nothing
unfolding through reason_through
reason_refused s r = go (refused r)
  where
    go : (b : Bool)
        → ¬ (number_of (cond b (bad_record r) (stored (taking s (end_of r)))).reply.answer ≡ 0)
        → cond b Nothing (take_of (end_of r) s).reason ≡ Nothing
    go true n = refl
    go false n = (take_refused (end_of r) s n).0

pub read_record : (n : ℕ) (r : List ℕ) → refused r ≡ false
    → Gives (through (reading n) r) (read_of (end_of r) n).answer (read_of (end_of r) n).value (read_of (end_of r) n).end
read_record n r h = accepted_call (reading n) r h

pub write_record : (n v : ℕ) (r : List ℕ) → refused r ≡ false
    → Gives (through (writing n v) r) (write_of (end_of r) n v).answer 0 (write_of (end_of r) n v).end
write_record n v r h = accepted_call (writing n v) r h

pub health_record : (n : ℕ) (r : List ℕ) → refused r ≡ false
    → Gives (through (setting_health n) r) (health_of (end_of r) n).answer 0 (health_of (end_of r) n).end
health_record n r h = accepted_call (setting_health n) r h

pub present_record : (r : List ℕ) → refused r ≡ false
    → Gives (through presenting r) Done (cond (present_of (end_of r)) 1 0) (end_of r)
present_record r h = accepted_call presenting r h ∙ ap (λ (v : ℕ). answered v) (flag_is (present_of (end_of r)))
  where
    answered : ℕ → Called
    answered v = record { reply = record { answer = Done; value = v }; bytes = record_of (end_of r) }

    flag_is : (b : Bool) → flag b ≡ cond b 1 0
    flag_is true = refl
    flag_is false = refl

pub present_leaves : (r : List ℕ) → (through presenting r).bytes ≡ r
present_leaves r = go (refused r) refl
  where
    go : (b : Bool) → refused r ≡ b → (through presenting r).bytes ≡ r
    go true h = ap (λ (c : Called). c.bytes) (refused_call presenting r h)
    go false h = ap (λ (c : Called). c.bytes) (accepted_call presenting r h) ∙ accepted_back r h

pub reset_record : (r : List ℕ) → length r ≡ size → Gives (resetting r) Done 0 reset_of
unfolding resetting
reset_record r h = rw (eq-eqb (length r) size h)

-- Lists of calls

pub runs_same : (cs : List Call) (e : End) → Shaped e → bad e ≡ false
    → (replies cs (record_of e) ≡ told cs e) × (bytes cs (record_of e) ≡ record_of (calls cs e))
unfolding replies bytes told calls
runs_same [] e s g = (refl, refl)
runs_same (c ∷ cs) e s g =
    let t = through_end (result c) e s g in
    let n = after_end c e in
    let r = runs_same cs (after c e) (after_shaped c e s) (after_good c e g) in (
      rw (t, n) (ap (λ (l : List Reply). (stored (result c e)).reply ∷ l) r.0),
      rw (t, n) r.1,
    )

pub runs_accepted : (cs : List Call) (r : List ℕ) → refused r ≡ false
    → (replies cs r ≡ told cs (end_of r)) × (bytes cs r ≡ record_of (calls cs (end_of r)))
runs_accepted cs r h =
    subst (λ (t : List ℕ). (replies cs t ≡ told cs (end_of r)) × (bytes cs t ≡ record_of (calls cs (end_of r))))
    (accepted_back r h) (runs_same cs (end_of r) (accepted_shape r h) (accepted_good r h))

pub runs_refused : (cs : List Call) (r : List ℕ) → refused r ≡ true
    → (replies cs r ≡ map (λ (c : Call). bad_reply) cs) × (bytes cs r ≡ r)
unfolding replies bytes through
runs_refused [] r h = (refl, refl)
runs_refused (c ∷ cs) r h =
    let t = runs_refused cs r h in
    (rw h (ap (λ (l : List Reply). bad_reply ∷ l) t.0), rw h t.1)

pub reset_run : (cs : List Call) (r : List ℕ) → length r ≡ size
    → (replies cs (resetting r).bytes ≡ told cs reset_of) × (bytes cs (resetting r).bytes ≡ record_of (reached cs))
unfolding resetting reached
reset_run cs r h = rw (eq-eqb (length r) size h) (runs_same cs reset_of reset_shaped reset_good)

pub reset_reason : (cs : List Call) (s : ℕ) (r : List ℕ) → length r ≡ size
    → (told_by s (bytes cs (resetting r).bytes)).reason ≡ (take_of (reached cs) s).reason
unfolding reason_through
reset_reason cs s r h =
    rw ((reset_run cs r h).1, written_accepted (reached cs) (reached_shaped cs) (reached_good cs))
    (ap (λ (e : End). (take_of e s).reason) (read_back (reached cs) (reached_shaped cs)))
