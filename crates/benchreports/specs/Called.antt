-- What a call on the reporting host of an end does to both, request #110. A host that sends keeps its taking side, and
-- one that takes its sending side.
--   after_offer h b     the host h after the block b was offered
--   after_push h e      after its step on the end e; after_pull h e, the same of its taking side
--   bytes_of l           the lowest eight bits of each number of l
--   offered_by h x      after offer with the list x behind it: exactly 128 numbers are a block, and any other list
--                       changes nothing
--   listed n l          the list of l, the rest of a line behind the call's word: none above FF, at most n of them
--   host_after k h e x  the host after the call k
--   end_after k h e     the end after it
-- Assumes nothing.
use Rattle.std.specs.Prelude.{ℕ, ◌%◌, cond, List, map, eqb, length}
use Rattle.benchcommands.specs.declared.call.HostCall.{HostCall}
use Rattle.end.specs.declared.End.{End}
use Rattle.report.specs.Sending.{offer_of, push_of}
use Rattle.report.specs.Taking.{pull_of}
use Rattle.text.specs.Numbers.{Numbers, these, wrong, list_of}
use Rattle.text.specs.Words.{words_of}
use Rattle.benchreports.specs.declared.Host.{Host}

abbrev pub after_offer : Host → List ℕ → Host
after_offer h b = record { sending = (offer_of h.sending b).host; taking = h.taking }

abbrev pub after_push : Host → End → Host
after_push h e = record { sending = (push_of h.sending e).host; taking = h.taking }

abbrev pub after_pull : Host → End → Host
after_pull h e = record { sending = h.sending; taking = (pull_of h.taking e).host }

abbrev pub bytes_of : List ℕ → List ℕ
bytes_of l = map (λ x. x % 256) l

abbrev pub offered_by : Host → Numbers → Host
offered_by h (these l) = cond (eqb (length l) 128) (after_offer h (bytes_of l)) h
offered_by h (wrong f) = h

abbrev pub listed : ℕ → List ℕ → Numbers
listed n l = list_of 255 n (words_of l)

abbrev pub host_after : HostCall → Host → End → Numbers → Host
host_after HostCall.Offer h e x = offered_by h x
host_after HostCall.Push h e x = after_push h e
host_after HostCall.Pull h e x = after_pull h e
host_after HostCall.Report h e x = h

abbrev pub end_after : HostCall → Host → End → End
end_after HostCall.Offer h e = e
end_after HostCall.Push h e = (push_of h.sending e).end
end_after HostCall.Pull h e = (pull_of h.taking e).end
end_after HostCall.Report h e = e
