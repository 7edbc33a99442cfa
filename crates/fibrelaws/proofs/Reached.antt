-- The ends that calls lead to.
--   after_good, calls_good, reached_good   no call leads from an end that answer 1 does not meet to one that it meets,
--                                          and reset does not
--   after_shaped, calls_shaped, reached_shaped   every call keeps an end's words: eight of sixteen bits
--   block_good, block_shaped   so are the blocks that are sent: answer 1 meets none of them, whatever the end is, and a
--                              call that takes one is Typed
-- Assumes nothing.
use Prim.Native.Nat.{ℕ, ◌%◌, ◌<◌, ◌≤◌}
use mathlib.Core.Bool.{false}
use mathlib.Core.List.{List, [], ◌∷◌}
use mathlib.Core.Path.{◌≡◌, refl, ◌∙◌}
use native.Mathlib.Omega.{arith}
use lib.ListN.{set, length-set}
use Rattle.laws.proofs.AboveLaws.{above_set}
use Rattle.laws.proofs.Bools.{either}
use Rattle.laws.specs.Above.{above}
use Rattle.fibre.specs.declared.End.{End}
use Rattle.fibre.specs.declared.Sent.{Sent}
use Rattle.fibre.specs.Good.{largest, bad, reset_of}
use Rattle.fibre.specs.Sending.{loads, send_of}
use Rattle.fibre.specs.Taking.{enters}
use Rattle.fibre.specs.Calls.{Call, after, calls, reached}
use Rattle.fibre.specs.Shape.{Eight, Shaped}
use Rattle.fibre.proofs.Laws.{Good, good, good_not}
use Rattle.fibrelaws.specs.Rows.{Met}
use Rattle.fibrelaws.specs.Typed.{Typed, AllTyped}
use Rattle.fibrelaws.proofs.Tested.{met}
use Rattle.fibrelaws.proofs.Done.{send_case, Kept, after_keeps}

-- Answer 1

low_bits : (v : ℕ) → v % 4096 ≤ 4095
low_bits v = omega arith

good_kept : (e : End) → Good e → (c : Call) → Kept Good e c
good_kept e g Call.send = record {
  transmit = g.transmit;
  sent = either (λ (n : ℕ). n ≤ largest) (loads e) _ _ (λ _. g.transmit) (λ _. g.sent);
  receive = g.receive;
}
good_kept e g (Call.take m b) = λ k. record {
  transmit = g.transmit;
  sent = g.sent;
  receive = either (λ (n : ℕ). n ≤ largest) (enters b e) _ _ (λ _. k) (λ _. g.receive);
}
good_kept e g (Call.read w) = record { transmit = g.transmit; sent = g.sent; receive = g.receive }
good_kept e g (Call.write w v h) = (
  record { transmit = low_bits v; sent = g.sent; receive = g.receive },
  λ i. record { transmit = g.transmit; sent = g.sent; receive = g.receive },
)

pub after_good : (c : Call) (e : End) → bad e ≡ false → bad (after c e) ≡ false
after_good c e h = good_not (after c e) (after_keeps Good e (good e h) c (λ _. good_kept e (good e h) c))

pub calls_good : (cs : List Call) (e : End) → bad e ≡ false → bad (calls cs e) ≡ false
unfolding calls
calls_good [] e h = h
calls_good (c ∷ cs) e h = calls_good cs (after c e) (after_good c e h)

reset_good : bad reset_of ≡ false
unfolding bad
reset_good = refl

pub reached_good : (cs : List Call) → ¬ Met (reached cs)
unfolding reached
reached_good cs = (met (calls cs reset_of)).fails (calls_good cs reset_of reset_good)

-- Shape

set_eight : (l : List ℕ) (i v : ℕ) → v < 65536 → Eight l → Eight (set l i v)
set_eight l i v h k = (length-set l i v ∙ k.0, above_set 65535 l i v (omega arith) k.1)

shaped_kept : (e : End) → Shaped e → (c : Call) → Typed c → Kept Shaped e c
shaped_kept e s Call.send t = record {
  transmit = s.transmit;
  sent = either Eight (loads e) _ _ (λ _. s.transmit) (λ _. s.sent);
  receive = s.receive;
}
shaped_kept e s (Call.take m b) t = λ _. record {
  transmit = s.transmit;
  sent = s.sent;
  receive = either Eight (enters b e) _ _ (λ _. t) (λ _. s.receive);
}
shaped_kept e s (Call.read w) t = record { transmit = s.transmit; sent = s.sent; receive = s.receive }
shaped_kept e s (Call.write w v h) t = (
  record { transmit = s.transmit; sent = s.sent; receive = s.receive },
  λ i. record { transmit = set_eight e.transmit.words i v h s.transmit; sent = s.sent; receive = s.receive },
)

pub after_shaped : (c : Call) (e : End) → Typed c → Shaped e → Shaped (after c e)
after_shaped c e t s = after_keeps Shaped e s c (λ _. shaped_kept e s c t)

pub calls_shaped : (cs : List Call) (e : End) → AllTyped cs → Shaped e → Shaped (calls cs e)
unfolding calls
calls_shaped [] e t s = s
calls_shaped (c ∷ cs) e t s = calls_shaped cs (after c e) t.1 (after_shaped c e t.0 s)

reset_shaped : Shaped reset_of
unfolding above
reset_shaped = search

pub reached_shaped : (cs : List Call) → AllTyped cs → Shaped (reached cs)
unfolding reached
reached_shaped cs t = calls_shaped cs reset_of t reset_shaped

-- Blocks

pub block_good : (e : End) → (send_of e).block.control ≤ 4095
block_good e =
    send_case e (λ (r : Sent). r.block.control ≤ 4095) (omega arith) (λ h. (good_kept e (good e h) Call.send).sent)

pub block_shaped : (e : End) → Shaped e → Eight (send_of e).block.words
unfolding above
block_shaped e s =
    send_case e (λ (r : Sent). Eight r.block.words) (refl, refl)
    (λ _. (shaped_kept e s Call.send tt).sent)
