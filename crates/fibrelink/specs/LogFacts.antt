-- What else is true after every run: the log is the ends' own account, and toggles tell how many messages there were.
--   LogFacts, LogsTrue   of what one side logs, and the other; after every run, both ways, whatever the hosts do
--   ReadFacts, ReadsTrue   by the rule: the sent MERT and the receive toggle
--   EnteredIs            by the rule, what entered is what was taken and what stands in the receive words
-- Assumes nothing.
use Rattle.std.specs.Prelude.{suc, ◌≤◌, true, ◌++◌, ◌≡◌, length}
use Rattle.crc.specs.Bits.{odd}
use Rattle.fibrelink.specs.Link.{Side}
use Rattle.fibrelink.specs.Demand.{ByRule, Always, pending_in, in_flight, register_holds}

pub record LogFacts (near far : Side) : Type 0 where
  -- no more are acknowledged than entered, no more entered than loaded, and at most one more loaded than acknowledged
  pub acknowledged : near.log.ack_count ≤ length far.log.entered
  pub loaded : length far.log.entered ≤ near.log.load_count
  pub one : near.log.load_count ≤ suc near.log.ack_count
  -- those that entered are the first accepted; then come the one in flight and the one requested
  pub accepted : near.host.accepted ≡ far.log.entered ++ (in_flight near far ++ pending_in near)
  -- each toggle says whether a number is odd
  pub msgt : near.end.sent.msgt ≡ odd near.log.load_count
  pub phyt : near.end.transmit.phyt ≡ odd near.log.ack_count
  pub sent_phyt : far.end.sent.phyt ≡ odd (length far.log.entered)

abbrev pub LogsTrue : Type 0
LogsTrue = Always LogFacts

abbrev pub EnteredIs : Type 0
EnteredIs = ByRule (λ near far. far.log.entered ≡ far.host.taken ++ register_holds far)

pub record ReadFacts (near far : Side) : Type 0 where
  pub sent_mert : far.end.sent.mert ≡ odd (length far.host.taken)
  pub toggle : far.end.receive.rxval ≡ true → far.end.receive.toggle ≡ odd (length far.log.entered)

abbrev pub ReadsTrue : Type 0
ReadsTrue = ByRule ReadFacts
