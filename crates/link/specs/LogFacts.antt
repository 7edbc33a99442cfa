-- What else is true after every run, beside demand 3: the log is the ends' own account. So what the statements read in
-- it can be seen in the registers and the frames.
--   LogFacts, LogsTrue   of what one side logs, and the other; after every run, both ways, whatever the hosts do
--   EnteredIs            by the rule, what entered is what was taken and what stands in the register
-- Assumes nothing.
use Rattle.std.specs.Prelude.{◌+◌, ◌≤◌, cond, ◌++◌, ◌≡◌, length}
use Rattle.link.specs.Link.{Side}
use Rattle.link.specs.Demand.{pending_in, register_holds, ByRule, Always}

pub record LogFacts (near far : Side) : Type 0 where
  -- no more are acknowledged than entered
  pub acknowledged : near.log.ack_count ≤ length far.log.entered
  -- all but a pending one were loaded
  pub pending : length near.host.accepted ≡ near.log.load_count + length (pending_in near)
  -- all that were loaded are acknowledged, but one where the sender is not ready
  pub ready : near.log.load_count ≡ near.log.ack_count + cond near.end.sender.ready 0 1

abbrev pub LogsTrue : Type 0
LogsTrue = Always LogFacts

abbrev pub EnteredIs : Type 0
EnteredIs = ByRule (λ near far. far.log.entered ≡ far.host.taken ++ register_holds far)
