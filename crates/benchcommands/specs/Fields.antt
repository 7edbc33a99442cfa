-- The fields of an end.
--   all_of         all of them, in the order in which dump prints them
--   name_of f      the name of the field f, as dump prints it and set takes it
--   elements_of f  how many elements it has; 1 where it is no array
--   largest_of f   the largest value of one
-- Assumes nothing.
use Rattle.std.specs.Prelude.{ℕ, List, [], ◌∷◌, codes, ◌≡◌, refl, map, sum}
use Rattle.benchcommands.specs.declared.fields.Field.{Field}
use Rattle.benchcommands.specs.declared.fields.TheConstants.{VALUES}

abbrev pub all_of : List Field
all_of =
    Field.Tx ∷
    Field.Position ∷
    Field.SendingToggle ∷
    Field.Ready ∷
    Field.Health ∷
    Field.LoadedHealth ∷
    Field.Pending ∷
    Field.RegisterToggle ∷
    Field.Received ∷
    Field.ReceivedToggle ∷
    Field.Number ∷
    Field.PingTx ∷
    Field.Bytes ∷
    Field.Rx ∷
    Field.Count ∷
    Field.PartnerHealth ∷
    Field.PingGot ∷
    Field.PartnerPing ∷
    Field.Valid ∷
    Field.Toggle ∷
    Field.Ack ∷
    Field.Togack ∷
    Field.ExpectedToggle ∷
    Field.Acknowledge ∷
    Field.Full ∷
    Field.RxToggle ∷
    Field.RxNumber ∷
    Field.RxBytes ∷
    Field.AcceptedCount ∷
    Field.CrcCount ∷
    Field.MarkedCount ∷
    Field.EarlyCount ∷
    Field.PresenceLeft ∷ []

abbrev pub name_of : Field → List ℕ
name_of Field.Tx = codes "tx"
name_of Field.Position = codes "position"
name_of Field.SendingToggle = codes "sending_toggle"
name_of Field.Ready = codes "ready"
name_of Field.Health = codes "health"
name_of Field.LoadedHealth = codes "loaded_health"
name_of Field.Pending = codes "pending"
name_of Field.RegisterToggle = codes "register_toggle"
name_of Field.Received = codes "received"
name_of Field.ReceivedToggle = codes "received_toggle"
name_of Field.Number = codes "number"
name_of Field.PingTx = codes "ping_tx"
name_of Field.Bytes = codes "bytes"
name_of Field.Rx = codes "rx"
name_of Field.Count = codes "count"
name_of Field.PartnerHealth = codes "partner_health"
name_of Field.PingGot = codes "ping_got"
name_of Field.PartnerPing = codes "partner_ping"
name_of Field.Valid = codes "valid"
name_of Field.Toggle = codes "toggle"
name_of Field.Ack = codes "ack"
name_of Field.Togack = codes "togack"
name_of Field.ExpectedToggle = codes "expected_toggle"
name_of Field.Acknowledge = codes "acknowledge"
name_of Field.Full = codes "full"
name_of Field.RxToggle = codes "rx_toggle"
name_of Field.RxNumber = codes "rx_number"
name_of Field.RxBytes = codes "rx_bytes"
name_of Field.AcceptedCount = codes "accepted_count"
name_of Field.CrcCount = codes "crc_count"
name_of Field.MarkedCount = codes "marked_count"
name_of Field.EarlyCount = codes "early_count"
name_of Field.PresenceLeft = codes "presence_left"

abbrev pub elements_of : Field → ℕ
elements_of Field.Tx = 12
elements_of Field.Rx = 12
elements_of Field.Bytes = 8
elements_of Field.RxBytes = 8
elements_of _ = 1

-- a symbol, a count or what is left of presence has sixteen bits, a bool one, any other a byte
abbrev pub largest_of : Field → ℕ
largest_of Field.Tx = 65535
largest_of Field.Rx = 65535
largest_of Field.AcceptedCount = 65535
largest_of Field.CrcCount = 65535
largest_of Field.MarkedCount = 65535
largest_of Field.EarlyCount = 65535
largest_of Field.PresenceLeft = 65535
largest_of Field.Position = 255
largest_of Field.Health = 255
largest_of Field.LoadedHealth = 255
largest_of Field.Number = 255
largest_of Field.Bytes = 255
largest_of Field.Count = 255
largest_of Field.PartnerHealth = 255
largest_of Field.RxNumber = 255
largest_of Field.RxBytes = 255
largest_of _ = 1

-- the elements of all fields together: as many values as a dump has
values : sum (map elements_of all_of) ≡ VALUES
values = refl
