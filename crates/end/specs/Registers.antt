-- Document 01, "The ten registers", as request #101 amends it, and the health to send.
--   outside r, read_only r     not one of 3.2308 to 3.2317; one of 3.2313 to 3.2317
--   pair l i                  bytes 2i and 2i + 1 of l, the even byte in 7:0, the odd one in 15:8
--   value_of e r, read_end e r  what reading r gives, and the end after it
--   read_only_bits r v        a write to 3.2308 with one of its bits 14:12, 7:3 or 1:0 set
--   blocked e r v             a pending message blocks this write
--   write_control, write_bytes  the transmit registers after a write to 3.2308, to one of 3.2309 to 3.2312
--   read_of, write_of, health_of what read, write and set health give
-- Assumes nothing.
use Rattle.std.specs.Prelude.{ℕ, ◌+◌, ◌-◌, ◌*◌, ◌/◌, ◌%◌, Bool, true, false, not, cond, ◌&&◌, ◌||◌, List, eqb, leb, ltb, get_or, set}
use Rattle.answer.specs.declared.Answer.TheVariants.{Done, BadEnd, NoRegister, ReadOnly, ReadOnlyBits, Blocked}
use Rattle.answer.specs.declared.Answer.TheVariants.{BadHealth}
use Rattle.crc.specs.Bits.{odd}
use Rattle.weights.specs.Weights.{bit}
use Rattle.end.specs.declared.End.{End}
use Rattle.end.specs.declared.Outbox.{Outbox}
use Rattle.end.specs.declared.Read.{Read}
use Rattle.end.specs.declared.Next.{Next}
use Rattle.end.specs.Good.{bad}
use Rattle.end.specs.Parts.{with_sender, with_outbox, with_inbox, with_health_to_send, with_pending, with_received}
use Rattle.end.specs.Parts.{with_number}
use Rattle.end.specs.Parts.{with_ping, with_bytes, with_full}

abbrev pub outside : ℕ → Bool
outside r = ltb r 2308 || ltb 2317 r

abbrev pub read_only : ℕ → Bool
read_only r = leb 2313 r

abbrev pub pair : List ℕ → ℕ → ℕ
pair l i = get_or l (2 * i) 0 + 256 * get_or l (2 * i + 1) 0

-- Reading

abbrev pub control : End → ℕ
control e =
    bit e.outbox.pending 32768
    + bit e.outbox.toggle 16384
    + bit e.outbox.received 8192
    + bit e.outbox.confirmed 4096
    + 256 * e.outbox.number
    + bit e.heard.got 8
    + bit e.outbox.ping 4
    + e.sender.loaded

abbrev pub status : End → ℕ
status e = bit e.inbox.full 32768 + bit e.inbox.toggle 16384 + 256 * e.inbox.number + e.heard.health

abbrev pub value_of : End → ℕ → ℕ
value_of e r =
    cond (eqb r 2308) (control e)
    (cond (leb r 2312) (pair e.outbox.bytes (r - 2309))
    (cond (eqb r 2313) (status e)
    (pair e.inbox.bytes (r - 2314))))

-- reading 3.2308 clears Received, reading 3.2317 makes the receive register empty
abbrev pub read_end : End → ℕ → End
read_end e r =
    with_inbox (with_outbox e (with_received e.outbox (cond (eqb r 2308) false e.outbox.received)))
    (with_full e.inbox (cond (eqb r 2317) false e.inbox.full))

unfoldable pub read_of : End → ℕ → Read
read_of e r =
    cond (bad e)
    (record { answer = BadEnd; value = 0; end = e })
    (cond (outside r)
    (record { answer = NoRegister; value = 0; end = e })
    (record { answer = Done; value = value_of e r; end = read_end e r }))

-- Writing

-- bits 14:12, bits 7:3, bits 1:0
abbrev pub read_only_bits : ℕ → ℕ → Bool
read_only_bits r v = eqb r 2308 && (ltb 0 (v / 4096 % 8) || (ltb 0 (v / 8 % 32) || ltb 0 (v % 4)))

abbrev pub blocked : End → ℕ → ℕ → Bool
blocked e r v = e.outbox.pending && (not (eqb r 2308) || odd (v / 32768))

-- nothing pending: bit 15, number and PingTx are stored; while one is pending only PingTx changes
abbrev pub write_control : Outbox → ℕ → Outbox
write_control o v =
    with_ping
    (with_number (with_pending o (cond o.pending true (odd (v / 32768))))
    (cond o.pending o.number (v / 256 % 16)))
    (odd (v / 4))

abbrev pub write_bytes : Outbox → ℕ → ℕ → Outbox
write_bytes o i v = with_bytes o (set (set o.bytes (2 * i) (v % 256)) (2 * i + 1) (v / 256))

-- one of two, field by field
abbrev pub pick_outbox : Bool → Outbox → Outbox → Outbox
pick_outbox b x y = record {
  pending = cond b x.pending y.pending;
  toggle = cond b x.toggle y.toggle;
  received = cond b x.received y.received;
  confirmed = cond b x.confirmed y.confirmed;
  number = cond b x.number y.number;
  ping = cond b x.ping y.ping;
  bytes = cond b x.bytes y.bytes;
}

abbrev pub written : End → ℕ → ℕ → End
written e r v =
    with_outbox e (pick_outbox (eqb r 2308) (write_control e.outbox v) (write_bytes e.outbox (r - 2309) v))

unfoldable pub write_of : End → ℕ → ℕ → Next
write_of e r v =
    cond (bad e)
    (record { answer = BadEnd; end = e })
    (cond (outside r)
    (record { answer = NoRegister; end = e })
    (cond (read_only r)
    (record { answer = ReadOnly; end = e })
    (cond (read_only_bits r v)
    (record { answer = ReadOnlyBits; end = e })
    (cond (blocked e r v)
    (record { answer = Blocked; end = e })
    (record { answer = Done; end = written e r v })))))

-- The health to send

abbrev pub with_health : End → ℕ → End
with_health e h = with_sender e (with_health_to_send e.sender h)

unfoldable pub health_of : End → ℕ → Next
health_of e h =
    cond (bad e)
    (record { answer = BadEnd; end = e })
    (cond (ltb 3 h)
    (record { answer = BadHealth; end = e })
    (record { answer = Done; end = with_health e h }))
