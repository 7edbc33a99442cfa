-- The invariant of a run, both ways, and what follows from it at once.
--   Fit          what one side keeps: its end good, its sender and its line, its collection abreast of what arrived,
--                its message bytes those that its host wrote
--   Inv          both sides, both ways
--   exchanged    the invariant with the ends exchanged
--   loaded_next, rank_current, heard_current, pa_loaded, acknowledged_entered, ha_entered, acked_entered
--                the counts of one way in their order
-- Assumes nothing.
pub mod Views
pub mod Logs
pub mod OneWay
pub mod Written
use Prim.Native.Nat.{ℕ, ◌+◌, ◌*◌, ◌≤◌}
use mathlib.Core.Bool.{false}
use mathlib.Core.List.{List}
use mathlib.Core.Path.{◌≡◌}
use native.Mathlib.Nat.{le_trans, le_of_eq}
use native.Mathlib.Omega.{arith}
use lib.ListN.{length}
use Rattle.end.specs.Good.{bad}
use Rattle.end.specs.Shape.{Shaped}
use Rattle.protocol.specs.Steps.{num}
use Rattle.link.specs.Link.{Side}
use Rattle.link.proofs.Line.{Cell, cell_at, frame_at, rank, Line, SenderOk, falls}
use Rattle.link.proofs.Line.Collecting.{Sync}
use Rattle.link.proofs.Invariant.OneWay.{Way}
use Rattle.link.proofs.Invariant.Written.{Stored}

pub record Fit (s : Side) (cs : List Cell) (last : Cell) : Type 0 where
  pub good : bad s.end ≡ false
  pub shaped : Shaped s.end
  pub sender : SenderOk s.end.sender.position s.end.sender.symbols s.sent cs
  pub line : Line cs
  pub sync : Sync s.end.collector last
  pub stored : Stored s.host.written s.end.outbox.bytes

pub record Inv (a b : Side) (ca cb : List Cell) (D E pa pb : ℕ) : Type 0 where
  pub fit_a : Fit a ca (cell_at cb E)
  pub fit_b : Fit b cb (cell_at ca D)
  pub ab : Way a b ca cb D E pa
  pub ba : Way b a cb ca E D pb

abbrev pub exchanged : {a b : Side} {ca cb : List Cell} {D E pa pb : ℕ} → Inv a b ca cb D E pa pb
    → Inv b a cb ca E D pb pa
exchanged v = record { fit_a = v.fit_b; fit_b = v.fit_a; ab = v.ba; ba = v.ab }

half : (x n p q : ℕ) → 2 * x + n ≤ p + q → q ≤ p + 1 → x ≤ p
half x n p q h k = omega arith

module _ {a b : Side} {ca cb : List Cell} {D E pa pb : ℕ} (v : Inv a b ca cb D E pa pb) where
  pub loaded_next : a.log.load_count ≤ a.log.ack_count + 1
  loaded_next = let l = v.ab.holding.sending.loaded in omega arith

  pub rank_current : (i : ℕ) → rank (frame_at ca i) ≤ a.log.ack_count + a.log.load_count
  rank_current i =
      le_trans (falls (λ i. rank (frame_at ca i)) v.fit_a.line.ranks i) (le_of_eq v.ab.onward.newest)

  pub heard_current : 2 * v.ab.ha + num b.end.heard.valid ≤ a.log.ack_count + a.log.load_count
  heard_current = le_trans v.ab.onward.heard (rank_current D)

  pa_entered : pa ≤ length b.log.entered
  pa_entered =
      le_trans v.ab.back.heard
      (le_trans (falls (λ i. (frame_at cb i).enter_count) v.fit_b.line.entries E) v.ab.back.newest)

  pub pa_loaded : pa ≤ a.log.load_count
  pa_loaded = le_trans pa_entered v.ab.order

  pub acknowledged_entered : a.log.ack_count ≤ length b.log.entered
  acknowledged_entered = le_trans v.ab.hearing.from pa_entered

  pub ha_entered : v.ab.ha ≤ length b.log.entered
  ha_entered = le_trans (half v.ab.ha _ _ _ heard_current loaded_next) acknowledged_entered

  pub acked_entered : (i : ℕ) → (frame_at ca i).ack_count ≤ length b.log.entered
  acked_entered i = le_trans (half (frame_at ca i).ack_count _ _ _ (rank_current i) loaded_next) acknowledged_entered
