-- What each call does, field by field: h and e are the host and the end before it, r is what it gives. Bytes are said
-- one by one: get_or l i 0 is the byte i of l, counted from 0.
--   Zeros l            128 bytes, each of them 0
--   Bytes n l          n bytes of eight bits; bytes_any: any such
--   Holds v a b        the register's value v has the byte a in bits 7:0 and the byte b in bits 15:8
--   FreshSending k     a fresh sending host: no block is under way
--   Offers h b r       offer, of the block b: Accepts or Refuses
--   Writes e l f       the writes of l, each a register and a value, are made in that order and answered 0; they lead
--                      from e to f
--   Control n v        v has bit 15, the number n in bits 11:8, and no other bit
--   Carries b n e f    number n of the block b is handed to the end: its bytes 8n to 8n + 7, then the number
--   Pushes h e r       push; Sends, where the end takes the message
--   FreshTaking k      a fresh taking host
--   Filled old n m l   of the 128 bytes l those from 8n to 8n + 7 are the eight of m; each other one, i, is old i
--   Takes h n m r      take, of the number n and the bytes m: it Fills the part block, or HandsOver the whole one, or
--                      Drops the part block
--   Reads e l f        the reads of l, each a register and the value that it gives, are made in that order and answered
--                      0; they lead from e to f
--   Pulls h e r        pull: all Stays, or a message is Took
-- Assumes nothing.
use Rattle.std.specs.Prelude.{ℕ, ◌+◌, ◌*◌, ◌/◌, ◌%◌, ◌^◌, ◌<◌, ◌≤◌, List, [], ◌∷◌, ◌⊎◌, ◌≡◌, length, get_or}
use Rattle.answer.specs.Number.{number_of}
use Rattle.end.specs.declared.End.{End}
use Rattle.end.specs.Registers.{read_of, write_of}
use Rattle.report.specs.declared.SendingHost.{SendingHost}
use Rattle.report.specs.declared.Offered.{Offered}
use Rattle.report.specs.declared.Push.TheVariants as Push
use Rattle.report.specs.declared.Pushed.{Pushed}
use Rattle.report.specs.declared.TakingHost.{TakingHost}
use Rattle.report.specs.declared.Take.TheVariants as Take
use Rattle.report.specs.declared.Taken.{Taken}
use Rattle.report.specs.declared.Pull.TheVariants as Pull
use Rattle.report.specs.declared.Pulled.{Pulled}
use Rattle.reportlaws.specs.Rows.{UnderWay, written, More, Last, Starts, OutOfTurn, read, bit_15}

abbrev pub Zeros : List ℕ → Type 0
Zeros l = (length l ≡ 128) × ((i : ℕ) → get_or l i 0 ≡ 0)

abbrev pub Bytes : ℕ → List ℕ → Type 0
Bytes n l = (length l ≡ n) × ((i : ℕ) → get_or l i 0 < 256)

bytes_any : (n : ℕ) (l : List ℕ) → length l ≡ n → ((i : ℕ) → get_or l i 0 < 256) → Bytes n l
bytes_any n l s h = (s, h)

pub record Holds (v a b : ℕ) : Type 0 where
  pub low : v % 2 ^ 8 ≡ a
  pub high : v / 2 ^ 8 ≡ b

-- Sending

pub record FreshSending (k : SendingHost) : Type 0 where
  pub next : k.next ≡ 16
  pub block : Zeros k.block

pub record Accepts (b : List ℕ) (r : Offered) : Type 0 where
  pub answer : number_of r.answer ≡ 0
  pub next : r.host.next ≡ 0
  pub block : r.host.block ≡ b

pub record Refuses (h : SendingHost) (r : Offered) : Type 0 where
  pub answer : number_of r.answer ≡ 4
  pub host : r.host ≡ h

pub record Offers (h : SendingHost) (b : List ℕ) (r : Offered) : Type 0 where
  pub free : ¬ UnderWay h → Accepts b r
  pub under_way : UnderWay h → Refuses h r

abbrev pub Writes : End → List (ℕ × ℕ) → End → Type 0
Writes e [] f = f ≡ e
Writes e ((r, v) ∷ l) f = (number_of (write_of e r v).answer ≡ 0) × Writes (write_of e r v).end l f

pub record Control (n v : ℕ) : Type 0 where
  pub bit_15 : v / 2 ^ 15 ≡ 1
  pub bits_14_to_12 : v / 2 ^ 12 % 2 ^ 3 ≡ 0
  pub number : v / 2 ^ 8 % 2 ^ 4 ≡ n
  pub bits_7_to_0 : v % 2 ^ 8 ≡ 0

pub record Carries (b : List ℕ) (n : ℕ) (e f : End) : Type 0 where
  pub word : ℕ → ℕ
  pub control : ℕ
  pub bytes : (i : ℕ) → i < 4 → Holds (word i) (get_or b (8 * n + 2 * i) 0) (get_or b (8 * n + 2 * i + 1) 0)
  pub number : Control n control
  pub writes : Writes e
      ((2309, word 0) ∷ (2310, word 1) ∷ (2311, word 2) ∷ (2312, word 3) ∷ (2308, control) ∷ []) f

pub record Sends (h : SendingHost) (e : End) (r : Pushed) : Type 0 where
  pub what : r.what ≡ Push.Part h.next
  pub next : r.host.next ≡ h.next + 1
  pub block : r.host.block ≡ h.block
  pub end : Carries h.block h.next e r.end

pub record Pushes (h : SendingHost) (e : End) (r : Pushed) : Type 0 where
  pub idle : ¬ UnderWay h → r.what ≡ Push.Idle
  pub waits : UnderWay h → number_of (written e) ≡ 4 → r.what ≡ Push.Waits
  pub refused : UnderWay h → ¬ (number_of (written e) ≡ 0) → ¬ (number_of (written e) ≡ 4)
      → r.what ≡ Push.Refused (written e)
  pub sends : UnderWay h → number_of (written e) ≡ 0 → Sends h e r
  pub stays : ¬ UnderWay h ⊎ ¬ (number_of (written e) ≡ 0) → (r.host ≡ h) × (r.end ≡ e)

-- Taking

pub record FreshTaking (k : TakingHost) : Type 0 where
  pub turn : k.turn ≡ 0
  pub block : Zeros k.block

pub record Filled (old : ℕ → ℕ) (n : ℕ) (m l : List ℕ) : Type 0 where
  pub size : length l ≡ 128
  pub new : (j : ℕ) → j < 8 → get_or l (8 * n + j) 0 ≡ get_or m j 0
  pub others : (i : ℕ) → (i < 8 * n) ⊎ (8 * n + 8 ≤ i) → get_or l i 0 ≡ old i

pub record Fills (old : ℕ → ℕ) (n : ℕ) (m : List ℕ) (r : Taken) : Type 0 where
  pub what : r.what ≡ Take.Part n
  pub turn : r.host.turn ≡ n + 1
  pub part : Filled old n m r.host.block
  pub block : Zeros r.block

pub record HandsOver (old : ℕ → ℕ) (m : List ℕ) (r : Taken) : Type 0 where
  pub what : r.what ≡ Take.Whole
  pub block : Filled old 15 m r.block
  pub host : FreshTaking r.host

pub record Drops (n : ℕ) (r : Taken) : Type 0 where
  pub what : r.what ≡ Take.Out n
  pub block : Zeros r.block
  pub host : FreshTaking r.host

pub record Takes (h : TakingHost) (n : ℕ) (m : List ℕ) (r : Taken) : Type 0 where
  pub more : More h n → Fills (λ i. get_or h.block i 0) n m r
  pub last : Last h n → HandsOver (λ i. get_or h.block i 0) m r
  pub starts : Starts h n → Fills (λ i. 0) 0 m r
  pub out_of_turn : OutOfTurn h n → Drops n r

abbrev pub Reads : End → List (ℕ × ℕ) → End → Type 0
Reads e [] f = f ≡ e
Reads e ((r, v) ∷ l) f =
    (number_of (read_of e r).answer ≡ 0) × ((read_of e r).value ≡ v) × Reads (read_of e r).end l f

pub record Took (h : TakingHost) (e : End) (r : Pulled) : Type 0 where
  pub status : ℕ
  pub word : ℕ → ℕ
  pub message : List ℕ
  pub taken : Taken
  pub reads : Reads e
      ((2313, status) ∷ (2314, word 0) ∷ (2315, word 1) ∷ (2316, word 2) ∷ (2317, word 3) ∷ []) r.end
  pub size : length message ≡ 8
  pub bytes : (i : ℕ) → i < 4 → Holds (word i) (get_or message (2 * i) 0) (get_or message (2 * i + 1) 0)
  pub takes : Takes h (status / 2 ^ 8 % 2 ^ 4) message taken
  pub what : r.what ≡ Pull.Took taken.what
  pub block : r.block ≡ taken.block
  pub host : r.host ≡ taken.host

pub record Stays (h : TakingHost) (e : End) (r : Pulled) : Type 0 where
  pub host : r.host ≡ h
  pub end : r.end ≡ e
  pub block : Zeros r.block

pub record Pulls (h : TakingHost) (e : End) (r : Pulled) : Type 0 where
  pub refused : ¬ (number_of (read e) ≡ 0) → (r.what ≡ Pull.Refused (read e)) × Stays h e r
  pub empty : number_of (read e) ≡ 0 → bit_15 e ≡ 0 → (r.what ≡ Pull.Empty) × Stays h e r
  pub took : number_of (read e) ≡ 0 → bit_15 e ≡ 1 → Took h e r
