-- Table 2 of source document 000: what the four bits of word 0 say. Message K is the one being sent, so that K messages
-- were loaded; K - 1 is the one before it, K + 1 the one that is requested.
--   Known          what is known of a message: nothing, that it has entered the far receive words, that the far host
--                  took it
--   Row            whether message K + 1 waits, and what is known of K and of K - 1
--   table t p m    the row for TXREQ t, where p says that PHYT equals MSGT and m that MERT does
--   row_of v        the row for the value v of word 0
--   True k i       what is known is true: message i, counted from 1, has entered, or was taken. There is no message 0,
--                  of which all is true
--   Told           what a row says is true
--   TableTwo       after every run by the rule, what word 0 says is true
--   Just k i       of message i just that is true, and no more
--   Reaches r P    a run by the rule, in which a second message is being sent, leads to the row r, and there P holds
--   NoMore         in every row no more can be said: there may be just as much true of both messages as it says
--   NotDenied      where it says less than that message K was taken, that is not denied: it may be so in every row
-- Assumes nothing.
use Prim.{Unit}
use Rattle.std.specs.Prelude.{ℕ, suc, ◌-◌, ◌≤◌, ◌<◌, Bool, true, false, cond, List, ◌≡◌, length}
use Rattle.std.specs.Bool.{beq}
use Rattle.joined.specs.Joined.{a_to_b}
use Rattle.fibrelink.specs.Link.{Side, reset_world, Event, run, ruled}
use Rattle.fibrelink.specs.Demand.{ByRule, word_zero, bit_of}

pub data Known : Type 0 where
  not_known entered taken : Known

pub record Row : Type 0 where
  pub waits : Bool
  pub sending : Known
  pub before : Known

abbrev pub row : Bool → Known → Known → Row
row w k j = record { waits = w; sending = k; before = j }

-- TXREQ; PHYT equals MSGT; MERT equals MSGT; message K + 1; message K; message K - 1
abbrev pub table : Bool → Bool → Bool → Row
table false true true = row false taken taken
table false false false = row false not_known taken
table false true false = row false entered taken
table false false true = row false not_known entered
table true true true = row true taken taken
table true false false = row true not_known taken
table true true false = row true entered taken
table true false true = row true not_known entered

abbrev pub row_of : ℕ → Row
row_of v = table (bit_of 15 v) (beq (bit_of 14 v) (bit_of 12 v)) (beq (bit_of 13 v) (bit_of 12 v))

abbrev pub True : Known → ℕ → Side → Type 0
True not_known i far = Unit {0}
True entered i far = i ≤ length far.log.entered
True taken i far = i ≤ length far.host.taken

pub record Told (r : Row) (near far : Side) : Type 0 where
  pub waiting : length near.host.accepted ≡ cond r.waits (suc near.log.load_count) near.log.load_count
  pub sending : True r.sending near.log.load_count far
  pub before : True r.before (near.log.load_count - 1) far

abbrev pub TableTwo : Type 0
TableTwo = ByRule (λ near far. Told (row_of (word_zero near)) near far)

-- What is not known

abbrev pub Just : Known → ℕ → Side → Type 0
Just not_known i far = length far.log.entered < i
Just entered i far = (length far.host.taken < i) × (i ≤ length far.log.entered)
Just taken i far = i ≤ length far.host.taken

pub record Reaches (r : Row) (P : Side → Side → Type 0) : Type 0 where
  pub D : ℕ
  pub E : ℕ
  pub events : List Event
  pub by_rule : ruled a_to_b D E events reset_world ≡ true
  pub second : (run D E events reset_world).a.log.load_count ≡ 2
  pub row_is : row_of (word_zero (run D E events reset_world).a) ≡ r
  pub shows : P (run D E events reset_world).a (run D E events reset_world).b

abbrev pub NoMore : Type 0
NoMore =
    (t p m : Bool)
    → Reaches (table t p m) (λ near far. Just (table t p m).sending near.log.load_count far
    × Just (table t p m).before (near.log.load_count - 1) far)

abbrev pub NotDenied : Type 0
NotDenied = (t p m : Bool) → Reaches (table t p m) (λ near far. Just taken near.log.load_count far)
