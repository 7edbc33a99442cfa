-- What is true of blocks that are carried as messages: request #110, from demand 3's promise alone.
--   Stands h ms        after the messages ms the taking host is h: the last of them, as many as its turn says, have the
--                      numbers from 0 on, and the part block has their bytes, and zero bytes behind them
--   StandsOne          and no other host stands so after them
--   Exactly            for a fresh taking host and any messages: the blocks handed over are the stretches of sixteen
--                      messages with the numbers 0 to 15, every one, in order
--   PartStated         and how the host stands after them
--   Sends bs accepted  the messages accepted are those of the blocks bs, in turn; the last block need not be whole, but
--                      its number 0 is accepted: then the block counts as offered
--   most_missing       how many blocks offered may be not handed over yet
--   Carries n m        what demand 3 gives of messages, with at most n held, gives this of blocks, with at most m
--                      missing: those handed over are the first so many offered, each once and whole
--   sends-*            when a block counts as offered, computed
--   Carried            at most two are missing where at most three messages are held; CarriedTight: no fewer
-- Assumes nothing.
use Rattle.std.specs.Prelude.{ℕ, ◌-◌, ◌*◌, ◌≤◌, true, List, [], ◌∷◌, ◌++◌, ◌≡◌, refl, length, drop, replicate}
use Rattle.std.proofs.Common.{ap, arith}
use Rattle.joined.specs.Joined.{InTurn}
use Rattle.end.specs.Message.{Message}
use Rattle.report.specs.declared.TakingHost.{TakingHost}
use Rattle.report.specs.Taking.{fresh_taking}
use Rattle.reportblocks.specs.Blocks.{IsBlock, messages_of_all, Eight, given_by, host_after, in_turn_from, joined}
use Rattle.reportblocks.specs.Blocks.{stretches, message_of, messages_of, one}

-- For any messages

pub record Stands (h : TakingHost) (ms : List Message) : Type 0 where
  pub older : List Message
  pub last : List Message
  pub whole : ms ≡ older ++ last
  pub count : length last ≡ h.turn
  pub numbers : in_turn_from 0 h.turn last ≡ true
  pub few : h.turn ≤ 15
  pub part : h.block ≡ joined last ++ replicate (128 - 8 * h.turn) 0
  -- and no more of them: any last messages with the numbers from 0 on are those
  pub no_more : (a b : List Message) → ms ≡ a ++ b → 1 ≤ length b → length b ≤ 15 → in_turn_from 0 (length b) b ≡ true
      → h.turn ≡ length b

-- this leaves no choice: two hosts that stand so after one list of messages are one
abbrev pub StandsOne : Type 0
StandsOne = (h g : TakingHost) (ms : List Message) → Stands h ms → Stands g ms → h ≡ g

abbrev pub Exactly : Type 0
Exactly = (ms : List Message) → Eight ms → given_by fresh_taking ms ≡ stretches ms

abbrev pub PartStated : Type 0
PartStated = (ms : List Message) → Eight ms → Stands (host_after fresh_taking ms) ms

-- Under demand 3's promise

abbrev pub AllBlocks : List (List ℕ) → Type 0
AllBlocks [] = Unit {0}
AllBlocks (b ∷ bs) = IsBlock b × AllBlocks bs

pub record Sends (bs : List (List ℕ)) (accepted : List Message) : Type 0 where
  pub rest : List Message
  pub whole : messages_of_all bs ≡ accepted ++ rest
  pub begun : length rest ≤ 15

abbrev pub most_missing : ℕ
most_missing = 2

abbrev pub Carries : ℕ → ℕ → Type 0
Carries n m =
    (offered : List (List ℕ)) (accepted taken : List Message) → AllBlocks offered → Sends offered accepted
    → InTurn n accepted taken → InTurn m offered (given_by fresh_taking taken)

abbrev pub Carried : Type 0
Carried = Carries 3 most_missing

abbrev pub CarriedTight : Type 0
CarriedTight = ¬ Carries 3 (most_missing - 1)

-- A block counts as offered when its number 0 is accepted, and not before

sends_first : Sends (one ∷ []) (message_of one 0 ∷ [])
unfolding messages_of_all
sends_first = record { rest = drop 1 (messages_of one); whole = refl; begun = omega arith }

sends_none : Sends (one ∷ []) [] → ⊥
unfolding messages_of_all
sends_none s = let e = ap length s.whole in let f = s.begun in omega arith

sends_whole : Sends (one ∷ []) (messages_of one)
unfolding messages_of_all
sends_whole = record { rest = []; whole = refl; begun = omega arith }
