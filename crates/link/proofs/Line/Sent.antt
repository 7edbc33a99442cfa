-- A side sends: the next cell of its line.
--   sent_as b s       the side s after its slot's sending, where b says that a new frame is made
--   sends_as          it is what the side becomes
--   ten_of e          the ten bytes of the frame that an end makes
--   made s            that frame
--   cell_sent b s cs  the cell that the side sends
--   sender_push       the sender after it
-- Assumes nothing.
use Prim.Native.Nat.{ℕ, suc, ◌+◌, ◌%◌}
use mathlib.Core.Bool.{Bool, true, false, cond, ◌&&◌}
use mathlib.Core.List.{List, ◌∷◌}
use mathlib.Core.Path.{◌≡◌, refl, ap}
use native.Mathlib.Omega.{arith}
use lib.Dec.{eqb}
use lib.ListN.{length}
use borrow.Author.Tests.{eqb-true, eqb-false}
use Rattle.frame.specs.Frame.{build}
use Rattle.end.specs.declared.End.{End}
use Rattle.end.specs.Good.{bad}
use Rattle.end.specs.Sending.{acked, step_one, loads, ten_bytes, moved_on, started, symbol_at}
use Rattle.endlaws.proofs.Done.{send_good}
use Rattle.link.specs.Link.{Side, sends}
use Rattle.link.proofs.Line.{Frame, Cell, frame_at, symbol_in, SenderOk}

abbrev pub sent_as : Bool → Side → Side
sent_as b s = record {
  end = moved_on (started b s.end);
  sent = symbol_at (started b s.end) ∷ s.sent;
  host = s.host;
  log = record {
    load_count = cond (b && loads (step_one (acked s.end) s.end)) (s.log.load_count + 1) s.log.load_count;
    ack_count = cond (b && acked s.end) (s.log.ack_count + 1) s.log.ack_count;
    seen_count = s.log.seen_count;
    entered = s.log.entered;
  };
}

pub sends_as : (s : Side) (b : Bool) → bad s.end ≡ false → eqb s.end.sender.position 0 ≡ b
    → sends s ≡ sent_as b s
sends_as s b good t = rw (send_good s.end good, t)

abbrev pub ten_of : End → List ℕ
ten_of e = ten_bytes (acked e) (loads (step_one (acked e) e)) (step_one (acked e) e)

abbrev pub made : Side → Frame
made s = record {
  ten = ten_of s.end;
  ack_count = cond (acked s.end) (s.log.ack_count + 1) s.log.ack_count;
  enter_count = length s.log.entered;
}

abbrev pub cell_sent : Bool → Side → List Cell → Cell
cell_sent true s cs = record { frame = made s; place = 0 }
cell_sent false s cs = record { frame = frame_at cs 0; place = s.end.sender.position }

-- the position after a slot
next_position : (p n : ℕ) → p ≡ n % 12 → cond (eqb p 11) 0 (p + 1) ≡ suc n % 12
next_position p n e = go (eqb p 11) refl
  where
    go : (b : Bool) → eqb p 11 ≡ b → cond b 0 (p + 1) ≡ suc n % 12
    go true t = omega (arith, eqb-true p 11 t)
    go false t = omega (arith, eqb-false p 11 t)

pub sender_push : {p : ℕ} {l sent : List ℕ} {cs : List Cell} → SenderOk p l sent cs → (c : Cell) (l' : List ℕ)
    → l' ≡ build c.frame.ten → SenderOk (cond (eqb p 11) 0 (p + 1)) l' (symbol_in c ∷ sent) (c ∷ cs)
sender_push {p} {cs = cs} s c l' is = record {
  position = next_position p (length cs) s.position;
  current = λ h. is;
  symbols = ap (λ (l : List ℕ). symbol_in c ∷ l) s.symbols;
}
