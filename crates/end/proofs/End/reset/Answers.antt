-- `End::reset` meets its contract: the derived Default, with the sender ready. Assumes nothing.
use Rattle.std.proofs.Common.{true}
use Rattle.end.proofs.End.reset.Goals as goal
use Rattle.end.proofs.Zeros.{zeros}

-- src/good.rt:17:5
-- Field by field: each is 0 or false in the derived Default, and `ready` is set.
pub returns : goal.returns
returns c =
    let end = c.default-end.result in
    let zero = c.default-end.ensures in
    let sender = zero.0 in
    let outbox = zero.1.0 in
    let collector = zero.1.1.0 in
    let heard = zero.1.1.1.0 in
    let inbox = zero.1.1.1.1.0 in
    let counts = zero.1.1.1.1.1.0 in
    λ i. record {
      sender = record {
        symbols = zeros end.sender.symbols 12 sender.0 i;
        position = sender.1.0 i;
        toggle = sender.1.1.0 i;
        ready = true;
        health = sender.1.1.1.1.0 i;
        loaded = sender.1.1.1.1.1 i;
      };
      outbox = record {
        pending = outbox.0 i;
        toggle = outbox.1.0 i;
        received = outbox.1.1.0 i;
        confirmed = outbox.1.1.1.0 i;
        number = outbox.1.1.1.1.0 i;
        ping = outbox.1.1.1.1.1.0 i;
        bytes = zeros end.outbox.bytes 8 outbox.1.1.1.1.1.1 i;
      };
      collector = record {
        symbols = zeros end.collector.symbols 12 collector.0 i;
        count = collector.1 i;
      };
      heard = record {
        health = heard.0 i;
        got = heard.1.0 i;
        ping = heard.1.1.0 i;
        valid = heard.1.1.1.0 i;
        toggle = heard.1.1.1.1.0 i;
        ack = heard.1.1.1.1.1.0 i;
        togack = heard.1.1.1.1.1.1 i;
      };
      inbox = record {
        expected = inbox.0 i;
        acknowledge = inbox.1.0 i;
        full = inbox.1.1.0 i;
        toggle = inbox.1.1.1.0 i;
        number = inbox.1.1.1.1.0 i;
        bytes = zeros end.inbox.bytes 8 inbox.1.1.1.1.1 i;
      };
      counts = record {
        accepted = counts.0 i;
        crc = counts.1.0 i;
        marked = counts.1.1.0 i;
        early = counts.1.1.1 i;
      };
      presence = zero.1.1.1.1.1.1 i;
    }
