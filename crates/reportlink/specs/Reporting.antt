-- Two ends joined, each with a reporting host: request #110 over the runs of crate link.
--   Reporter       a side of the link, with its sending and its taking host, and three lists of blocks: what its host
--                  asked to be sent, what counts as offered, and what was handed over to it
--   World          two of them; reset_reporter, reset_world: before anything is called or sent
--   Call           what a reporting host does between slots: it offers a block, makes a step of its sending or of its
--                  taking host, or makes any other call that besides allows
--   besides c      the call c accepts no message and takes none: it is no write to 3.2308 with bit 15, and no read of
--                  3.2314 to 3.2317
--   part_writes    the writes of number n of a block: a register and a value each
--   puts ws s      a side after the writes ws, up to the first one that is refused
--   gets rs s      a side after reads of the registers rs
--   pushing, pulling   a side after a step of the sending host, and of the taking host
--   is_first, given  what a step was: number 0 was accepted; the block that it hands over, one or none
--   hosted         a reporter after a call: a block counts as offered when its number 0 is accepted
--   on_side f      what the side does, whatever the host is
--   Event, step, run   a slot, or one host's call; the world after it; after a list of events
-- Assumes nothing.
use Rattle.std.specs.Prelude.{ℕ, ◌+◌, ◌*◌, Bool, true, false, not, cond, ◌&&◌, List, [], ◌∷◌, ◌++◌, ◌≡◌, eqb}
use Rattle.joined.specs.Joined.{Pair, EventOf, also, bit15, within, step_by}
unfoldable pub use Rattle.joined.specs.Joined.{run_by}
use Rattle.end.specs.declared.Read.{Read}
use Rattle.end.specs.Registers.{read_of}
use Rattle.link.specs.Link.{Side, reset_side, Access, read, write, health, present, Harm, answered0}
use Rattle.link.specs.Link.{written, hosted as called, sends as sending, takes_from as taking_from}
use Rattle.report.specs.declared.SendingHost.{SendingHost}
use Rattle.report.specs.declared.TakingHost.{TakingHost}
use Rattle.report.specs.declared.Push.{Push}
use Rattle.report.specs.declared.Push.TheVariants.{Idle, Waits, Refused as RefusedWrite, Part}
use Rattle.report.specs.declared.Pull.{Pull}
use Rattle.report.specs.declared.Pull.TheVariants.{Refused as RefusedRead, Empty, Took}
use Rattle.report.specs.Sending.{done, word_of, under_way, fresh_sending, offer_of, push_of}
use Rattle.report.specs.Taking.{fresh_taking, pull_of}
use Rattle.reportblocks.specs.Blocks.{IsBlock, handed_over}

pub record Reporter : Type 0 where
  pub side : Side
  pub sending : SendingHost
  pub taking : TakingHost
  -- the blocks that the host called offer with and was answered 0
  pub asked : List (List ℕ)
  -- those whose number 0 was accepted
  pub offered : List (List ℕ)
  pub handed : List (List ℕ)

abbrev pub World : Type 0
World = Pair Reporter

abbrev pub reset_reporter : Reporter
reset_reporter = record {
  side = reset_side;
  sending = fresh_sending;
  taking = fresh_taking;
  asked = [];
  offered = [];
  handed = [];
}

abbrev pub reset_world : World
reset_world = record { a = reset_reporter; b = reset_reporter }

-- Between slots: a host's call

abbrev pub besides : Access → Bool
besides (read r) = not (within 2314 2317 r)
besides (write r v l) = not (eqb r 2308 && bit15 v)
besides (health k) = true
besides present = true

pub data Call : Type 0 where
  offer : (b : List ℕ) → IsBlock b → Call
  push : Call
  pull : Call
  other : (c : Access) → besides c ≡ true → Call

abbrev pub part_writes : List ℕ → ℕ → List (ℕ × ℕ)
part_writes b n =
    (2309, word_of b n 0) ∷ (2310, word_of b n 1) ∷ (2311, word_of b n 2) ∷ (2312, word_of b n 3)
    ∷ (2308, 32768 + n * 256) ∷ []

unfoldable pub puts : List (ℕ × ℕ) → Side → Side
puts [] s = s
puts (w ∷ ws) s =
    cond (answered0 w.0 w.1 s.end) (puts ws (written w.0 w.1 s)) (written w.0 w.1 s)

unfoldable pub gets : List ℕ → Side → Side
gets [] s = s
gets (r ∷ rs) s = gets rs (called (read r) s)

abbrev pub pushing : SendingHost → Side → Side
pushing h s = cond (under_way h) (puts (part_writes h.block h.next) s) s

-- 3.2313 is read and, only if bit 15 is set, the others
abbrev pub message : Read → Bool
message x = done x.answer && bit15 x.value

abbrev pub pulling : Side → Side
pulling s =
    cond (message (read_of s.end 2313))
    (gets (2313 ∷ 2314 ∷ 2315 ∷ 2316 ∷ 2317 ∷ []) s)
    (gets (2313 ∷ []) s)

abbrev pub is_first : Push → Bool
is_first Idle = false
is_first Waits = false
is_first (RefusedWrite a) = false
is_first (Part n) = eqb n 0

abbrev pub given : Pull → List ℕ → List (List ℕ)
given (RefusedRead a) b = []
given Empty b = []
given (Took t) b = handed_over t b

abbrev pub hosted : Call → Reporter → Reporter
hosted (offer b k) s = record {
  side = s.side;
  sending = (offer_of s.sending b).host;
  taking = s.taking;
  asked = also (done (offer_of s.sending b).answer) b s.asked;
  offered = s.offered;
  handed = s.handed;
}
hosted push s = record {
  side = pushing s.sending s.side;
  sending = (push_of s.sending s.side.end).host;
  taking = s.taking;
  asked = s.asked;
  offered = also (is_first (push_of s.sending s.side.end).what) s.sending.block s.offered;
  handed = s.handed;
}
hosted pull s = record {
  side = pulling s.side;
  sending = s.sending;
  taking = (pull_of s.taking s.side.end).host;
  asked = s.asked;
  offered = s.offered;
  handed = s.handed ++ given (pull_of s.taking s.side.end).what (pull_of s.taking s.side.end).block;
}
hosted (other c k) s = record {
  side = called c s.side;
  sending = s.sending;
  taking = s.taking;
  asked = s.asked;
  offered = s.offered;
  handed = s.handed;
}

-- In a slot both sides send, then both take what arrives, as in crate link

abbrev pub on_side : (Side → Side) → Reporter → Reporter
on_side f s = record {
  side = f s.side;
  sending = s.sending;
  taking = s.taking;
  asked = s.asked;
  offered = s.offered;
  handed = s.handed;
}

abbrev pub sends : Reporter → Reporter
sends s = on_side sending s

abbrev pub takes_from : ℕ → Harm → Reporter → Reporter → Reporter
takes_from d h from s = on_side (taking_from d h from.side) s

-- Events and runs

abbrev pub Event : Type 0
Event = EventOf Harm Call

abbrev pub step : ℕ → ℕ → Event → World → World
step D E e w = step_by sends takes_from hosted D E e w

abbrev pub run : ℕ → ℕ → List Event → World → World
run D E es w = run_by (step D E) es w
