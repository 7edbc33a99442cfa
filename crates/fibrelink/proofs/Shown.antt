-- What words 0 and 9 show a host, of an end that answer 1 does not meet.
--   Zero e v    the four bits of word 0, which reads v
--   word_zero_lem, word_nine
-- Assumes nothing.
use Prim.Native.Nat.{ℕ, ◌%◌}
use mathlib.Core.Bool.{Bool, true, false}
use mathlib.Core.Path.{◌≡◌, refl, ap, ◌∙◌}
use Rattle.answer.specs.Number.{number_of}
use Rattle.crc.specs.Bits.{odd}
use Rattle.weights.specs.Weights.{bit}
use Rattle.weights.proofs.Weighed.{odd_is}
use Rattle.fibre.specs.declared.End.{End}
use Rattle.fibre.specs.declared.Read.{Read}
use Rattle.fibre.specs.Good.{bad}
use Rattle.fibre.specs.Words.{outside, read_of}
use Rattle.fibre.proofs.WordLaws.{read_done}
use Rattle.fibrelaws.specs.Does.{digit}
use Rattle.fibrelaws.proofs.Does.{read_does}
use Rattle.joined.specs.Joined.{bit15}
use Rattle.fibrelink.specs.Demand.{bit_of}

digit_bit : (b : Bool) → digit b ≡ bit b 1
digit_bit true = refl
digit_bit false = refl

shown : (b : Bool) (n : ℕ) → n % 2 ≡ digit b → odd n ≡ b
shown b n e = odd_is b n (e ∙ digit_bit b)

done : (e : End) (w : ℕ) → bad e ≡ false → outside w ≡ false → number_of (read_of e w).answer ≡ 0
done e w g o = ap (λ (r : Read). number_of r.answer) (read_done e w g o)

pub record Zero (e : End) (v : ℕ) : Type 0 where
  pub txreq : bit_of 15 v ≡ e.transmit.txreq
  pub phyt : bit_of 14 v ≡ e.transmit.phyt
  pub mert : bit_of 13 v ≡ e.transmit.mert
  pub msgt : bit_of 12 v ≡ e.sent.msgt

pub word_zero_lem : (e : End) → bad e ≡ false → Zero e (read_of e 0).value
word_zero_lem e g =
    let b = (read_does e 0 (done e 0 g refl)).zero refl in
    record {
      txreq = shown _ _ b.bit_15;
      phyt = shown _ _ b.bit_14;
      mert = shown _ _ b.bit_13;
      msgt = shown _ _ b.bit_12;
    }

pub word_nine : (e : End) → bad e ≡ false
    → (bit15 (read_of e 9).value ≡ e.receive.rxval) × ((read_of e 9).value % 4096 ≡ e.receive.control)
word_nine e g =
    let b = (read_does e 9 (done e 9 g refl)).nine refl in
    (shown _ _ b.bit_15, b.low)
