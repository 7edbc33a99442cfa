-- A step of the taking host, as reads of crate link.
--   five             the registers of a message; gets_calls: a side after reads is a side after calls
--   brought          the message that five reads bring; read_all: it is the one message that is taken
--   all-*, one-*     what five reads, and 3.2313 alone, leave of the host and of the end; they are by the rule
--   pull_took, pull_none   the step where 3.2313 says that a message is there, and where it does not
-- Assumes nothing.
use Prim.Native.Nat.{ℕ, ◌/◌, ◌%◌}
use mathlib.Core.Bool.{Bool, true, false, ◌&&◌, true≢false}
use mathlib.Core.List.{List, [], ◌∷◌, ◌++◌, map}
use mathlib.Core.Path.{◌≡◌, refl, ◌∙◌}
use Rattle.laws.proofs.Bools.{cond_true, and_both}
use Rattle.joined.specs.Joined.{bit15}
use Rattle.end.specs.declared.End.{End}
use Rattle.end.specs.Message.{Message}
use Rattle.end.specs.Registers.{read_of}
use Rattle.link.specs.Link.{Side, read, hosted as called}
use Rattle.report.specs.declared.TakingHost.{TakingHost}
use Rattle.report.specs.declared.Pulled.{Pulled}
use Rattle.report.specs.Sending.{done}
use Rattle.report.specs.Taking.{take_of, words_of, took, pull_of}
use Rattle.reportlink.specs.Reporting.{gets, message, given}
use Rattle.reportlink.proofs.Accesses.{calls, by_rule}

abbrev pub five : List ℕ
five = 2313 ∷ 2314 ∷ 2315 ∷ 2316 ∷ 2317 ∷ []

pub gets_calls : (rs : List ℕ) (s : Side) → calls (map read rs) s ≡ gets rs s
unfolding calls gets
gets_calls [] s = refl
gets_calls (r ∷ rs) s = gets_calls rs (called (read r) s)

-- the message that five reads bring
abbrev pub brought : End → Message
brought e = record { number = (read_of e 2313).value / 256 % 16; bytes = (words_of (read_of e 2313).end).bytes }

module _ (s : Side) where
  pub read_all : (gets five s).host.taken ≡ s.host.taken ++ (brought s.end ∷ [])
  unfolding gets
  read_all = refl

  pub all_accepted : (gets five s).host.accepted ≡ s.host.accepted
  unfolding gets
  all_accepted = refl

  pub all_written : (gets five s).host.written ≡ s.host.written
  unfolding gets
  all_written = refl

  pub all_end : (gets five s).end ≡ (words_of (read_of s.end 2313).end).end
  unfolding gets
  all_end = refl

  pub one_host : ((gets (2313 ∷ []) s).host.taken ≡ s.host.taken)
      × ((gets (2313 ∷ []) s).host.accepted ≡ s.host.accepted)
      × ((gets (2313 ∷ []) s).host.written ≡ s.host.written)
  unfolding gets
  one_host = (refl, refl, refl)

  pub one_end : (gets (2313 ∷ []) s).end ≡ (read_of s.end 2313).end
  unfolding gets
  one_end = refl

  pub one_ruled : by_rule (map read (2313 ∷ [])) s ≡ true
  unfolding by_rule
  one_ruled = refl

  pub all_ruled : bit15 (read_of s.end 2313).value ≡ true → by_rule (map read five) s ≡ true
  unfolding by_rule
  all_ruled e = rw e

-- The step

module _ (h : TakingHost) (e : End) where
  pub pull_took : message (read_of e 2313) ≡ true
      → pull_of h e ≡ took (take_of h (brought e).number (brought e).bytes) (words_of (read_of e 2313).end).end
  unfolding pull_of
  pull_took m =
      let b = and_both (done (read_of e 2313).answer) (bit15 (read_of e 2313).value) m in
      cond_true _ _ b.0 ∙ cond_true _ _ b.1

  -- no message: the host stays, and nothing is handed over
  pub pull_none : message (read_of e 2313) ≡ false
      → ((pull_of h e).host ≡ h) × (given (pull_of h e).what (pull_of h e).block ≡ [])
      × ((pull_of h e).end ≡ (read_of e 2313).end)
  unfolding pull_of
  pull_none m = go (done (read_of e 2313).answer) (bit15 (read_of e 2313).value) refl refl m
    where
      None : Pulled → Type 0
      None p = (p.host ≡ h) × (given p.what p.block ≡ []) × (p.end ≡ (read_of e 2313).end)

      go : (a b : Bool) → done (read_of e 2313).answer ≡ a → bit15 (read_of e 2313).value ≡ b → (a && b) ≡ false
          → None (pull_of h e)
      go true true p q m = absurd (true≢false m)
      go true false p q m = rw (p, q) (refl, refl, refl)
      go false b p q m = rw p (refl, refl, refl)
