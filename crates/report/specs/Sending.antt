-- Request #110, the sending side: a block of 128 bytes goes as sixteen messages, 0 to 15 in turn.
--   done a             the answer a is 0
--   word_of b n i       what number n of the block b has in 3.2309 + i: byte 8n + 2i in 7:0, byte 8n + 2i + 1 in 15:8
--   then_write r v x   v is written to the register r, unless a write before it, which gave x, was refused
--   written_of b n e    the writes of number n: its bytes to 3.2309 to 3.2312, then bit 15 and the number to 3.2308
--   refusal a          what a refused write means to the host: it waits where a message is pending, answer 4
--   under_way h        the host h has a block under way: the number that is next is one of 0 to 15
--   fresh_sending      no block is under way
--   offer_of h b       what offer gives
--   push_of h e        what push gives
-- Assumes nothing.
use Rattle.std.specs.Prelude.{ℕ, ◌+◌, ◌*◌, Bool, cond, List, eqb, ltb, get_or, replicate}
use Rattle.answer.specs.declared.Answer.{Answer}
use Rattle.answer.specs.declared.Answer.TheVariants.{Done, Blocked}
use Rattle.answer.specs.Number.{number_of}
use Rattle.end.specs.declared.End.{End}
use Rattle.end.specs.declared.Next.{Next}
use Rattle.end.specs.Registers.{write_of}
use Rattle.report.specs.declared.SendingHost.{SendingHost}
use Rattle.report.specs.declared.Offered.{Offered}
use Rattle.report.specs.declared.Push.{Push}
use Rattle.report.specs.declared.Push.TheVariants.{Idle, Waits, Refused, Part}
use Rattle.report.specs.declared.Pushed.{Pushed}

abbrev pub done : Answer → Bool
done a = eqb (number_of a) 0

abbrev pub word_of : List ℕ → ℕ → ℕ → ℕ
word_of b n i = get_or b (8 * n + 2 * i) 0 + get_or b (8 * n + 2 * i + 1) 0 * 256

abbrev pub then_write : ℕ → ℕ → Next → Next
then_write r v x = cond (done x.answer) (write_of x.end r v) x

abbrev pub written_of : List ℕ → ℕ → End → Next
written_of b n e =
    then_write 2308 (32768 + n * 256)
    (then_write 2312 (word_of b n 3)
    (then_write 2311 (word_of b n 2)
    (then_write 2310 (word_of b n 1)
    (write_of e 2309 (word_of b n 0)))))

abbrev pub refusal : Answer → Push
refusal a = cond (eqb (number_of a) 4) Waits (Refused a)

abbrev pub under_way : SendingHost → Bool
under_way h = ltb h.next 16

abbrev pub fresh_sending : SendingHost
fresh_sending = record { block = replicate 128 0; next = 16 }

unfoldable pub offer_of : SendingHost → List ℕ → Offered
offer_of h b =
    cond (under_way h)
    (record { answer = Blocked; host = h })
    (record { answer = Done; host = record { block = b; next = 0 } })

-- a part counts when its message is accepted
abbrev pub pushed_by : SendingHost → Next → Pushed
pushed_by h x =
    cond (done x.answer)
    (record { what = Part h.next; host = record { block = h.block; next = h.next + 1 }; end = x.end })
    (record { what = refusal x.answer; host = h; end = x.end })

unfoldable pub push_of : SendingHost → End → Pushed
push_of h e =
    cond (under_way h)
    (pushed_by h (written_of h.block h.next e))
    (record { what = Idle; host = h; end = e })
