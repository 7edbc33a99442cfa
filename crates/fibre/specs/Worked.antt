-- An end and blocks for computed cases, and what is looked at.
--   limited b x y z  an end with another value in every word, its bools as b says, counted from 0 in their order:
--                    TXREQ, PHYT, MERT; the sent MSGT, PHYT, MERT; RXVAL and the receive toggle; and three controls
--   worked b         the same, the controls all different
--   none, alone i, two i j   which of the eight are set
--   each f, with k f   f with none set and with each of the eight set alone; with k and each of the eight set
--   block c t p m    a block with other words, the control c, and the toggles MSGT, PHYT and MERT
--   brought t p m    the same, the control different too
--   toggles e        the eight, the first one as bit 7
--   controls e       the three controls, in the same order
--   eight k          the eight numbers after k
--   numbers e        the whole end: its toggles, its controls, its words
--   listed b         a block's toggles, MSGT as bit 2, its control and its words
-- Assumes nothing.
use Rattle.std.specs.Prelude.{ℕ, ◌+◌, Bool, false, ◌||◌, List, [], ◌∷◌, ◌++◌, map, eqb}
use Rattle.weights.specs.Weights.{bit}
use Rattle.fibre.specs.declared.Block.{Block}
use Rattle.fibre.specs.declared.End.{End}

abbrev pub limited : (ℕ → Bool) → ℕ → ℕ → ℕ → End
limited b x y z = record {
  transmit = record {
    txreq = b 0;
    phyt = b 1;
    mert = b 2;
    control = x;
    words = 0x1001 ∷ 0x1002 ∷ 0x1003 ∷ 0x1004 ∷ 0x1005 ∷ 0x1006 ∷ 0x1007 ∷ 0x1008 ∷ [];
  };
  sent = record {
    msgt = b 3;
    phyt = b 4;
    mert = b 5;
    control = y;
    words = 0x2001 ∷ 0x2002 ∷ 0x2003 ∷ 0x2004 ∷ 0x2005 ∷ 0x2006 ∷ 0x2007 ∷ 0x2008 ∷ [];
  };
  receive = record {
    rxval = b 6;
    toggle = b 7;
    control = z;
    words = 0x3001 ∷ 0x3002 ∷ 0x3003 ∷ 0x3004 ∷ 0x3005 ∷ 0x3006 ∷ 0x3007 ∷ 0x3008 ∷ [];
  };
}

abbrev pub worked : (ℕ → Bool) → End
worked b = limited b 0x123 0x456 0x789

abbrev pub none : ℕ → Bool
none n = false

abbrev pub alone : ℕ → ℕ → Bool
alone i n = eqb n i

abbrev pub two : ℕ → ℕ → ℕ → Bool
two i j n = eqb n i || eqb n j

abbrev pub each : ((ℕ → Bool) → ℕ) → List ℕ
each f = f none ∷ map (λ i. f (alone i)) (0 ∷ 1 ∷ 2 ∷ 3 ∷ 4 ∷ 5 ∷ 6 ∷ 7 ∷ [])

abbrev pub with : ℕ → ((ℕ → Bool) → ℕ) → List ℕ
with k f = map (λ i. f (two k i)) (0 ∷ 1 ∷ 2 ∷ 3 ∷ 4 ∷ 5 ∷ 6 ∷ 7 ∷ [])

abbrev pub block : ℕ → Bool → Bool → Bool → Block
block c t p m = record {
  msgt = t;
  phyt = p;
  mert = m;
  control = c;
  words = 0x4001 ∷ 0x4002 ∷ 0x4003 ∷ 0x4004 ∷ 0x4005 ∷ 0x4006 ∷ 0x4007 ∷ 0x4008 ∷ [];
}

abbrev pub brought : Bool → Bool → Bool → Block
brought t p m = block 0xABC t p m

abbrev pub toggles : End → ℕ
toggles e =
    bit e.transmit.txreq 128
    + bit e.transmit.phyt 64
    + bit e.transmit.mert 32
    + bit e.sent.msgt 16
    + bit e.sent.phyt 8
    + bit e.sent.mert 4
    + bit e.receive.rxval 2
    + bit e.receive.toggle 1

abbrev pub controls : End → List ℕ
controls e = e.transmit.control ∷ e.sent.control ∷ e.receive.control ∷ []

abbrev pub eight : ℕ → List ℕ
eight k = (k + 1) ∷ (k + 2) ∷ (k + 3) ∷ (k + 4) ∷ (k + 5) ∷ (k + 6) ∷ (k + 7) ∷ (k + 8) ∷ []

abbrev pub numbers : End → List ℕ
numbers e = toggles e ∷ (controls e ++ (e.transmit.words ++ (e.sent.words ++ e.receive.words)))

abbrev pub listed : Block → List ℕ
listed b = (bit b.msgt 4 + bit b.phyt 2 + bit b.mert 1) ∷ b.control ∷ b.words
