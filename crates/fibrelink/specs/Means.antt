-- What the premises and tests of Demand.antt and Status.antt come to, in other words, so that none of them asks for
-- more, or says less, than it seems to.
--   IdleIs        after every run a direction is idle exactly when each message accepted is acknowledged, and the far
--                 receive words are empty
--   SaidIs        what AllSaid says of a value is the first row of table 2, of every value
--   JustOne       after every run by the rule two different things are not just so of one message
--   JustTrue      what is just so is true
--   rank          more is known of a message by more
--   AtMost r s    row r says no more than row s, and the same of message K + 1
--   ToldMost      in every row there is a run after which no row is told that says more
--   NthAccepted   after every run message n that entered, which is m, is message n accepted
-- Assumes nothing.
use Rattle.std.specs.Prelude.{ℕ, ◌≤◌, Bool, false, List, ◌∷◌, ◌++◌, ◌↔◌, ◌≡◌, length}
use Rattle.fibrelink.specs.Link.{Message, Side}
use Rattle.fibrelink.specs.Demand.{ByRule, Always, Idle, AllSaid, Entered}
use Rattle.fibrelink.specs.Status.{Known, not_known, entered, taken, Row, row, row_of, table, True, Told, Reaches}
use Rattle.fibrelink.specs.Status.{Just}

abbrev pub IdleIs : Type 0
IdleIs =
    Always (λ near far. Idle near far
    ↔ ((near.log.ack_count ≡ length near.host.accepted) × (far.end.receive.rxval ≡ false)))

abbrev pub SaidIs : Type 0
SaidIs = (v : ℕ) → AllSaid v ↔ (row_of v ≡ row false taken taken)

abbrev pub JustOne : Type 0
JustOne = ByRule (λ near far. (j k : Known) (i : ℕ) → Just j i far → Just k i far → j ≡ k)

abbrev pub JustTrue : Type 0
JustTrue = (k : Known) (i : ℕ) (far : Side) → Just k i far → True k i far

abbrev pub rank : Known → ℕ
rank not_known = 0
rank entered = 1
rank taken = 2

pub record AtMost (r s : Row) : Type 0 where
  pub waits : r.waits ≡ s.waits
  pub sending : rank r.sending ≤ rank s.sending
  pub before : rank r.before ≤ rank s.before

abbrev pub ToldMost : Type 0
ToldMost = (t p m : Bool) → Reaches (table t p m) (λ near far. (r : Row) → Told r near far → AtMost r (table t p m))

abbrev pub NthAccepted : Type 0
NthAccepted =
    Always (λ near far. (n : ℕ) (m : Message) → Entered n m far
    → (older newer : List Message) × (near.host.accepted ≡ older ++ m ∷ newer) × (length older ≡ n))
