-- Requests #106 and #107: the upgrade of a record of version 1 or 2, and the counts and presence of a record.
--   upgrade_11, upgrade_0   which upgrades are answered so; there is no other number. With recordspec's one_version, an
--                      upgrade of a record as it is written now is answered 11, and by call_11 and counts_11 so is a
--                      call on a record of before
--   upgrade_refused    any number but 0: the value is 0, and the area's bytes are as they were
--   upgrade_record     of a good record of version 1 or 2, in an area of the right size: the record of its end;
--                      upgrade_bytes, its bytes
--   upgrade_one        of what version 1 wrote of an end: the record of that end with all counts 0, and absent
--   upgrade_two        of what version 2 wrote of an end: the record of that end with its counts, and absent
--   upgrade_run        any calls after it: the replies of that end, and the record of the end that they lead to
--   told_apart         counts and presence make no difference to what is replied to any calls but present; told_counts,
--                      counts alone make none to any calls
--   upgrade_goes_on    so after the upgrade of what version 1 or 2 wrote of an end, such calls are replied to as that
--                      end does
--   call_writes, reset_writes, upgrade_writes   what is written is a record as it is written now, or nothing is
--   counts_11, counts_record, counts_refused   the counts of a record
--   runs_counts        after any calls on a record each count has as many more as reasons of its kind were given, or is
--                      65,535
--   reset_counts, upgrade_counts   the same after reset, where each count is 0, or an upgrade
--   runs_present       after any calls on a record the partner is present exactly when a frame was accepted with one of
--                      the last 768 symbols taken, or what was left of presence in the record outlasts them
--   reset_present, upgrade_present   the same after reset or an upgrade, where nothing was left
-- Assumes nothing.
use Prim.Native.Nat.{ℕ}
use mathlib.Core.Bool.{Bool, true, false, cond, ◌||◌, and-false, true≢false}
use mathlib.Core.List.{List, [], ◌∷◌, map}
use mathlib.Core.Logic.{◌↔◌, ◌⊎◌, inl, inr}
use mathlib.Core.Path.{◌≡◌, refl, sym, ap, ap₂, ◌∙◌, subst}
use native.Mathlib.Omega.{arith}
use lib.Dec.{eqb, ltb, lit≤}
use lib.ListN.{length}
use borrow.Author.Tests.{eq-eqb, eqb-true, eqb-false, le-ltb}
use Rattle.answer.specs.Number.{number_of}
use Rattle.answer.specs.declared.Answer.TheVariants.{Done, BadRecord}
use Rattle.receiver.specs.declared.Counts.{Counts}
use Rattle.end.specs.declared.End.{End}
use Rattle.receiver.specs.Counting.{no_counts}
use Rattle.receiver.specs.Presence.{lasting}
use Rattle.end.specs.Good.{bad, reset_of, present_of}
use Rattle.laws.proofs.Bools.{or_no}
use Rattle.end.proofs.Laws.{good}
use Rattle.end.specs.Calls.{Call, after, calls}
use Rattle.endlaws.specs.Counted.{grown}
use Rattle.end.specs.Parts.{beside}
use Rattle.endlaws.specs.Reasons.{reasons}
use Rattle.end.specs.Shape.{Shaped}
use Rattle.endlaws.specs.Taken.{takes, last_of, acceptances, some}
use Rattle.endlaws.proofs.Apart.{send_apart, take_apart, read_apart, write_apart, health_apart, after_apart}
use Rattle.endlaws.proofs.Apart.{present_apart, same_bad, same_presence, range_next}
use Rattle.endlaws.proofs.Counted.{calls_counts}
use Rattle.laws.proofs.Decide.{hit}
use Rattle.endlaws.proofs.Goods.{reset_good, after_good, calls_good, calls_shaped}
use Rattle.endlaws.proofs.Presence.{calls_present, absent_present}
use Rattle.end.proofs.Guards.{reset_shaped}
use Rattle.endlaws.proofs.Shapes.{after_shaped}
use Rattle.recordspec.specs.Record.{size, size_one, version_one, size_two, version_two, flag, record_of, record_before}
use Rattle.recordspec.specs.Record.{end_of, end_before, newer, refused, refused_before, neither, Wrong}
use Rattle.recordspec.specs.Results.{presenting, result, asks}
use Rattle.recordspec.proofs.Accepted.{accepted_back, accepted_good, accepted_shape}
use Rattle.recordspec.proofs.Before.{before_accepted, newer_good, old_good, old_shape, old_absent, one_read_back}
use Rattle.recordspec.proofs.Before.{two_read_back, one_kept}
use Rattle.record.proofs.Results.{after_end}
use Rattle.recordspec.proofs.Versions.{WrongOne, WrongTwo, wrong_both}
use Rattle.recordspec.proofs.Written.{read_back, written_accepted}
use Rattle.recordspec.proofs.Wrong.{wrong}
use Rattle.record.specs.declared.Counted.{Counted}
use Rattle.record.specs.declared.Reply.{Reply}
use Rattle.record.specs.Calls.{Called, stored, bad_record, through, filled, resetting, upgrading, counts_by}
use Rattle.record.specs.Runs.{called, replies, bytes, told}
use Rattle.record.proofs.Through.{Gives, through_end, runs_same, reset_record}

-- The upgrade

module _ (r a : List ℕ) where
  abbrev replied : Bool → Bool → Called
  replied b c =
      cond b (bad_record a) (cond c (stored (record { answer = Done; value = 0; end = end_before r })) (bad_record a))

  abbrev Refused : Type 0
  Refused = (WrongOne r × WrongTwo r) ⊎ ¬ (length a ≡ size)

  not_refused : neither r ≡ false → eqb (length a) size ≡ true → Refused → ⊥
  not_refused e f (inl w) = (wrong_both r).fails e w
  not_refused e f (inr n) = n (eqb-true (length a) size f)

  pub upgrade_11 : (number_of (upgrading r a).reply.answer ≡ 11)
      ↔ ((WrongOne r × WrongTwo r) ⊎ ¬ (length a ≡ size))
  unfolding upgrading
  upgrade_11 = go (neither r) (eqb (length a) size) refl refl
    where
      go : (b c : Bool) → neither r ≡ b → eqb (length a) size ≡ c
          → (number_of (replied b c).reply.answer ≡ 11) ↔ Refused
      go true c e f = (λ h. inl ((wrong_both r).holds e), λ h. refl)
      go false true e f = (λ h. absurd (omega arith), λ h. absurd (not_refused e f h))
      go false false e f = (λ h. inr (eqb-false (length a) size f), λ h. refl)

  pub upgrade_0 : (number_of (upgrading r a).reply.answer ≡ 0)
      ↔ (¬ (WrongOne r × WrongTwo r) × (length a ≡ size))
  unfolding upgrading
  upgrade_0 = go (neither r) (eqb (length a) size) refl refl
    where
      go : (b c : Bool) → neither r ≡ b → eqb (length a) size ≡ c
          → (number_of (replied b c).reply.answer ≡ 0) ↔ (¬ (WrongOne r × WrongTwo r) × (length a ≡ size))
      go true c e f = (λ h. absurd (omega arith), λ h. absurd (h.0 ((wrong_both r).holds e)))
      go false true e f = (λ h. ((wrong_both r).fails e, eqb-true (length a) size f), λ h. refl)
      go false false e f = (λ h. absurd (omega arith), λ h. absurd (eqb-false (length a) size f h.1))

  pub upgrade_refused : ¬ (number_of (upgrading r a).reply.answer ≡ 0)
      → (number_of (upgrading r a).reply.answer ≡ 11) × ((upgrading r a).reply.value ≡ 0) × ((upgrading r a).bytes ≡ a)
  unfolding upgrading
  upgrade_refused = go (neither r) (eqb (length a) size)
    where
      go : (b c : Bool) → ¬ (number_of (replied b c).reply.answer ≡ 0)
          → (number_of (replied b c).reply.answer ≡ 11) × ((replied b c).reply.value ≡ 0) × ((replied b c).bytes ≡ a)
      go true c h = (refl, refl, refl)
      go false true h = absurd (h refl)
      go false false h = (refl, refl, refl)

  pub upgrade_record : neither r ≡ false → length a ≡ size → Gives (upgrading r a) Done 0 (end_before r)
  unfolding upgrading
  upgrade_record h l = rw (h, eq-eqb (length a) size l)

  pub upgrade_bytes : neither r ≡ false → length a ≡ size → (upgrading r a).bytes ≡ newer r
  upgrade_bytes h l =
      ap (λ (c : Called). c.bytes) (upgrade_record h l) ∙ accepted_back (newer r) (newer_good r h)

module _ (b : Bool) (e : End) (a : List ℕ) (s : Shaped e) (g : bad e ≡ false) (l : length a ≡ size) where
  abbrev wrote_one : List ℕ
  wrote_one = record_before size_one version_one b e

  abbrev wrote_two : List ℕ
  wrote_two = record_before size_two version_two b e

  -- neither is refused
  one_good : neither wrote_one ≡ false
  one_good = rw (before_accepted size_one version_one (lit≤ tt) (lit≤ tt) b e s g)

  two_good : neither wrote_two ≡ false
  two_good =
      rw (before_accepted size_two version_two (lit≤ tt) (lit≤ tt) b e s g)
      (and-false (refused_before size_one version_one wrote_two))

  pub upgrade_one : Gives (upgrading wrote_one a) Done 0 (beside no_counts 0 e)
  upgrade_one =
      upgrade_record wrote_one a one_good l
      ∙ ap (λ (x : End). stored (record { answer = Done; value = 0; end = x })) (one_read_back b e s)

  pub upgrade_two : Gives (upgrading wrote_two a) Done 0 (beside e.counts 0 e)
  upgrade_two =
      upgrade_record wrote_two a two_good l
      ∙ ap (λ (x : End). stored (record { answer = Done; value = 0; end = x })) (two_read_back b e s)

pub upgrade_run : (cs : List Call) (r a : List ℕ) → neither r ≡ false → length a ≡ size
    → (replies cs (upgrading r a).bytes ≡ told cs (end_before r))
    × (bytes cs (upgrading r a).bytes ≡ record_of (calls cs (end_before r)))
upgrade_run cs r a h l = rw (upgrade_record r a h l) (runs_same cs (end_before r) (old_shape r h) (old_good r h))

-- Counts and presence make no difference

module _ (k : Counts) (p : ℕ) (e : End) (range : ltb lasting p ≡ ltb lasting e.presence) where
  reply_apart : (c : Call) → asks c ≡ false
      → (stored (result c (beside k p e))).reply ≡ (stored (result c e)).reply
  reply_apart Call.send n = rw (send_apart k p e range)
  reply_apart (Call.take s) n = rw (take_apart k p e range s)
  reply_apart (Call.read r) n = rw (read_apart k p e range r)
  reply_apart (Call.write r v h) n = rw (write_apart k p e range r v)
  reply_apart (Call.health x) n = rw (health_apart k p e range x)
  reply_apart Call.present n = absurd (true≢false n)

pub told_apart : (cs : List Call) (k : Counts) (p : ℕ) (e : End) → ltb lasting p ≡ ltb lasting e.presence
    → some (map asks cs) ≡ false → told cs (beside k p e) ≡ told cs e
unfolding told some
told_apart [] k p e h n = refl
told_apart (c ∷ cs) k p e h n =
    let x = after c (beside k p e) in
    let none = or_no (asks c) (some (map asks cs)) n in
    ap₂ (λ (y : Reply) (l : List Reply). y ∷ l) (reply_apart k p e h c none.0)
    (rw (after_end c (beside k p e), after_end c e)
    (ap (told cs) (after_apart k p e h c)
    ∙ told_apart cs x.counts x.presence (after c e) (range_next k p e h c) none.1))

-- counts alone make none to any call
counts_reply : (c : Call) (k : Counts) (e : End)
    → (stored (result c (beside k e.presence e))).reply ≡ (stored (result c e)).reply
unfolding present_of
counts_reply Call.send k e = reply_apart k e.presence e refl Call.send refl
counts_reply (Call.take s) k e = reply_apart k e.presence e refl (Call.take s) refl
counts_reply (Call.read r) k e = reply_apart k e.presence e refl (Call.read r) refl
counts_reply (Call.write r v h) k e = reply_apart k e.presence e refl (Call.write r v h) refl
counts_reply (Call.health x) k e = reply_apart k e.presence e refl (Call.health x) refl
counts_reply Call.present k e = rw (present_apart k e.presence e refl)

pub told_counts : (cs : List Call) (k : Counts) (e : End) → told cs (beside k e.presence e) ≡ told cs e
unfolding told
told_counts [] k e = refl
told_counts (c ∷ cs) k e =
    let x = after c (beside k e.presence e) in
    ap₂ (λ (y : Reply) (l : List Reply). y ∷ l) (counts_reply c k e)
    (rw (after_end c (beside k e.presence e), after_end c e)
    (ap (told cs)
    (after_apart k e.presence e refl c
    ∙ ap (λ (p : ℕ). beside x.counts p (after c e)) (same_presence c k e))
    ∙ told_counts cs x.counts (after c e)))

-- of an end without presence
absent_range : (e : End) → bad e ≡ false → ltb lasting 0 ≡ ltb lasting e.presence
absent_range e g = sym (le-ltb lasting e.presence (good e g).presence)

absent_good : (k : Counts) (e : End) → bad e ≡ false → bad (beside k 0 e) ≡ false
absent_good k e g = same_bad k 0 e (absent_range e g) ∙ g

module _ (cs : List Call) (b : Bool) (e : End) (a : List ℕ) (s : Shaped e) (g : bad e ≡ false) (l : length a ≡ size)
    (none : some (map asks cs) ≡ false) where
  goes_on : (k : Counts) → Shaped (beside k 0 e) → replies cs (record_of (beside k 0 e)) ≡ told cs e
  goes_on k t =
      (runs_same cs (beside k 0 e) t (absent_good k e g)).0 ∙ told_apart cs k 0 e (absent_range e g) none

  pub upgrade_goes_on : (replies cs (upgrading (record_before size_one version_one b e) a).bytes ≡ told cs e)
      × (replies cs (upgrading (record_before size_two version_two b e) a).bytes ≡ told cs e)
  upgrade_goes_on = (
    rw (upgrade_one b e a s g l) (goes_on no_counts (one_kept b e s)),
    rw (upgrade_two b e a s g l) (goes_on e.counts s),
  )

-- What is written

pub call_writes : (c : Call) (r : List ℕ) → ((called c r).bytes ≡ r) ⊎ (refused (called c r).bytes ≡ false)
unfolding through
call_writes c r = go (refused r) refl
  where
    go : (b : Bool) → refused r ≡ b
        → ((cond b (bad_record r) (stored (result c (end_of r)))).bytes ≡ r)
        ⊎ (refused (cond b (bad_record r) (stored (result c (end_of r)))).bytes ≡ false)
    go true h = inl refl
    go false h =
        inr
        (rw (after_end c (end_of r))
        (written_accepted (after c (end_of r)) (after_shaped c (end_of r) (accepted_shape r h))
        (after_good c (end_of r) (accepted_good r h))))

fill_writes : (e : End) (a : List ℕ) → Shaped e → bad e ≡ false
    → ((filled e a).bytes ≡ a) ⊎ (refused (filled e a).bytes ≡ false)
fill_writes e a s g = go (eqb (length a) size)
  where
    gave : Bool → Called
    gave b = cond b (stored (record { answer = Done; value = 0; end = e })) (bad_record a)

    go : (b : Bool) → ((gave b).bytes ≡ a) ⊎ (refused (gave b).bytes ≡ false)
    go true = inr (written_accepted e s g)
    go false = inl refl

pub reset_writes : (a : List ℕ) → ((resetting a).bytes ≡ a) ⊎ (refused (resetting a).bytes ≡ false)
unfolding resetting
reset_writes a = fill_writes reset_of a reset_shaped reset_good

pub upgrade_writes : (r a : List ℕ) → ((upgrading r a).bytes ≡ a) ⊎ (refused (upgrading r a).bytes ≡ false)
unfolding upgrading
upgrade_writes r a = go (neither r) refl
  where
    go : (b : Bool) → neither r ≡ b
        → ((cond b (bad_record a) (filled (end_before r) a)).bytes ≡ a)
        ⊎ (refused (cond b (bad_record a) (filled (end_before r) a)).bytes ≡ false)
    go true h = inl refl
    go false h = fill_writes (end_before r) a (old_shape r h) (old_good r h)

-- The counts

pub counts_record : (r : List ℕ) → refused r ≡ false → counts_by r ≡ record { answer = Done; counts = (end_of r).counts }
unfolding counts_by
counts_record r h = rw h

pub counts_11 : (r : List ℕ) → (number_of (counts_by r).answer ≡ 11) ↔ Wrong r
unfolding counts_by
counts_11 r = hit answered (refused r) (wrong r) refl (λ h. omega arith)
  where
    answered : Counted → ℕ
    answered k = number_of k.answer

pub counts_refused : (r : List ℕ) → ¬ (number_of (counts_by r).answer ≡ 0) → (counts_by r).counts ≡ no_counts
unfolding counts_by
counts_refused r = go (refused r)
  where
    gave : Bool → Counted
    gave b =
        cond b (record { answer = BadRecord; counts = no_counts }) (record { answer = Done; counts = (end_of r).counts })

    go : (b : Bool) → ¬ (number_of (gave b).answer ≡ 0) → (gave b).counts ≡ no_counts
    go true h = refl
    go false h = absurd (h refl)

abbrev Count : List ℕ → Counts → Type 0
Count r k = counts_by r ≡ record { answer = Done; counts = k }

-- of the record of an end
end_counts : (cs : List Call) (e : End) → Shaped e → bad e ≡ false
    → Count (bytes cs (record_of e)) (grown e.counts (reasons cs e))
end_counts cs e s g =
    let now = calls cs e in
    let shaped = calls_shaped cs e s in
    ap counts_by (runs_same cs e s g).1
    ∙ (counts_record (record_of now) (written_accepted now shaped (calls_good cs e g))
    ∙ ap (λ (k : Counts). record { answer = Done; counts = k })
    (ap (λ (x : End). x.counts) (read_back now shaped) ∙ calls_counts cs e s))

pub runs_counts : (cs : List Call) (r : List ℕ) → refused r ≡ false
    → Count (bytes cs r) (grown (end_of r).counts (reasons cs (end_of r)))
runs_counts cs r h =
    subst (λ (t : List ℕ). Count (bytes cs t) (grown (end_of r).counts (reasons cs (end_of r)))) (accepted_back r h)
    (end_counts cs (end_of r) (accepted_shape r h) (accepted_good r h))

pub reset_counts : (cs : List Call) (a : List ℕ) → length a ≡ size
    → Count (bytes cs (resetting a).bytes) (grown no_counts (reasons cs reset_of))
reset_counts cs a l = rw (reset_record a l) (end_counts cs reset_of reset_shaped reset_good)

pub upgrade_counts : (cs : List Call) (r a : List ℕ) → neither r ≡ false → length a ≡ size
    → Count (bytes cs (upgrading r a).bytes) (grown (end_before r).counts (reasons cs (end_before r)))
upgrade_counts cs r a h l = rw (upgrade_record r a h l) (end_counts cs (end_before r) (old_shape r h) (old_good r h))

-- Presence

abbrev Present : List ℕ → Bool → Type 0
Present r b = (through presenting r).reply ≡ record { answer = Done; value = flag b }

-- of the record of an end
end_present : (cs : List Call) (e : End) → Shaped e → bad e ≡ false → (b : Bool) → present_of (calls cs e) ≡ b
    → Present (bytes cs (record_of e)) b
end_present cs e s g b h =
    let now = calls cs e in
    ap (λ (t : List ℕ). (through presenting t).reply) (runs_same cs e s g).1
    ∙ (ap (λ (c : Called). c.reply) (through_end presenting now (calls_shaped cs e s) (calls_good cs e g))
    ∙ ap (λ (t : Bool). record { answer = Done; value = flag t }) h)

pub runs_present : (cs : List Call) (r : List ℕ) → refused r ≡ false
    → Present (bytes cs r)
    (some (last_of 768 (acceptances cs (end_of r))) || ltb (length (takes cs)) (end_of r).presence)
runs_present cs r h =
    subst
    (λ (t : List ℕ). Present (bytes cs t)
    (some (last_of 768 (acceptances cs (end_of r))) || ltb (length (takes cs)) (end_of r).presence))
    (accepted_back r h)
    (end_present cs (end_of r) (accepted_shape r h) (accepted_good r h) _
    (calls_present cs (end_of r) (accepted_good r h)))

pub reset_present : (cs : List Call) (a : List ℕ) → length a ≡ size
    → Present (bytes cs (resetting a).bytes) (some (last_of 768 (acceptances cs reset_of)))
reset_present cs a l =
    rw (reset_record a l)
    (end_present cs reset_of reset_shaped reset_good _ (absent_present cs reset_of reset_good refl))

pub upgrade_present : (cs : List Call) (r a : List ℕ) → neither r ≡ false → length a ≡ size
    → Present (bytes cs (upgrading r a).bytes) (some (last_of 768 (acceptances cs (end_before r))))
upgrade_present cs r a h l =
    rw (upgrade_record r a h l)
    (end_present cs (end_before r) (old_shape r h) (old_good r h) _
    (absent_present cs (end_before r) (old_good r h) (old_absent r h)))
