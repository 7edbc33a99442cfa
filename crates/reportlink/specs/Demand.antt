-- Request #110 over the runs of two ends joined: blocks go from the near side to the far one.
--   Always       true after every run of two reporting hosts, both ways and all delays, whatever is marked
--   Reported     the blocks handed over are the first so many offered, each once and whole, at most two fewer;
--                ReportedIn: at most so many
--   Stated       what the hosts have, from what was asked of them and the messages that were accepted and taken; the part
--                block too
--   still h      the messages of the block under way that were not accepted yet, where its number 0 was; first: the
--                block itself, where it was not
--   StepsAgree   end and host after a step are those that the library's step gives; any other call is the side's own
--   ByBlocks     the same as Reported for hosts of any kind whose messages accepted are those of blocks, in turn; the
--                host that takes keeps the rule, and the taking host is given the messages taken
-- Assumes nothing.
use Rattle.std.specs.Prelude.{ℕ, ◌-◌, true, cond, ◌&&◌, List, [], ◌++◌, map, ◌≡◌, eqb}
use Rattle.joined.specs.Joined.{Direction, near, far, also, InTurn}
use Rattle.end.specs.Message.{Message}
use Rattle.link.specs.Link.{Access, hosted as called}
use Rattle.link.specs.Demand.{ByRule}
use Rattle.report.specs.declared.SendingHost.{SendingHost}
use Rattle.report.specs.Sending.{under_way, offer_of, push_of}
use Rattle.report.specs.Taking.{fresh_taking, pull_of}
use Rattle.reportblocks.specs.Blocks.{IsBlock, message_of, counting, messages_of_all, Eight, given_by, host_after}
use Rattle.reportblocks.specs.Carried.{Stands, AllBlocks, Sends, most_missing}
use Rattle.reportlink.specs.Reporting.{Reporter, World, reset_world, besides, Event, run, offer, push, pull}
use Rattle.reportlink.specs.Reporting.{other, hosted}

abbrev pub Always : (Reporter → Reporter → Type 0) → Type 0
Always P =
    (d : Direction) (D E : ℕ) (es : List Event) (w : World) → w ≡ run D E es reset_world → P (near d w) (far d w)

abbrev pub ReportedIn : ℕ → Type 0
ReportedIn most = Always (λ near far. InTurn most near.offered far.handed)

abbrev pub Reported : Type 0
Reported = ReportedIn most_missing

abbrev pub still : SendingHost → List Message
still h =
    cond (under_way h)
    (cond (eqb h.next 0) [] (map (message_of h.block) (counting h.next (16 - h.next))))
    []

-- the block that was offered, and whose number 0 is still to be accepted
abbrev pub first : SendingHost → List (List ℕ)
first h = also (under_way h && eqb h.next 0) h.block []

pub record Has (s : Reporter) : Type 0 where
  -- the blocks that the host asked to be sent are those offered, in that order, and perhaps one that is to come
  pub asked : s.asked ≡ s.offered ++ first s.sending
  -- the messages accepted are those of the blocks offered, but for the ones that are still to be sent
  pub accepted : messages_of_all s.offered ≡ s.side.host.accepted ++ still s.sending
  -- the taking host is as the messages taken made it, and handed over what they brought
  pub taking : s.taking ≡ host_after fresh_taking s.side.host.taken
  pub handed : s.handed ≡ given_by fresh_taking s.side.host.taken
  -- each message taken has eight bytes, so the part block is what Stands says
  pub eight : Eight s.side.host.taken

abbrev pub Stated : Type 0
Stated = Always (λ near far. (Has near × Has far) × Stands far.taking far.side.host.taken)

pub record StepsAgree (s : Reporter) : Type 0 where
  pub offer_side : (b : List ℕ) (k : IsBlock b) → (hosted (offer b k) s).side ≡ s.side
  pub offer_host : (b : List ℕ) (k : IsBlock b) → (hosted (offer b k) s).sending ≡ (offer_of s.sending b).host
  pub push_end : (hosted push s).side.end ≡ (push_of s.sending s.side.end).end
  pub push_host : (hosted push s).sending ≡ (push_of s.sending s.side.end).host
  pub pull_end : (hosted pull s).side.end ≡ (pull_of s.taking s.side.end).end
  pub pull_host : (hosted pull s).taking ≡ (pull_of s.taking s.side.end).host
  pub other_side : (c : Access) (k : besides c ≡ true) → (hosted (other c k) s).side ≡ called c s.side
  pub push_leaves : (hosted push s).taking ≡ s.taking
  pub pull_leaves : (hosted pull s).sending ≡ s.sending

abbrev pub ByBlocks : Type 0
ByBlocks =
    (offered : List (List ℕ)) → AllBlocks offered
    → ByRule (λ near far.
    Sends offered near.host.accepted → InTurn most_missing offered (given_by fresh_taking far.host.taken))
