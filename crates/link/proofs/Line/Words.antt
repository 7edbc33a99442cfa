-- A frame's words read back: what the receiver reads of a built frame is what the sender put in.
--   one_word v t k g n   symbol 1's data: Valid, Toggle, Ack, TogAck, number
--   said l              what the frame built from the ten bytes l says
--   message_is l        the message in the twelve symbols l
--   Says l v t k g n    the frame built from l says just that
-- Assumes nothing.
use Prim.Native.Nat.{ℕ, suc, ◌+◌, ◌*◌, ◌/◌, ◌%◌, ◌≤◌, ◌<◌}
use mathlib.Core.Bool.{Bool, false}
use mathlib.Core.List.{List, ◌∷◌, map}
use mathlib.Core.Path.{◌≡◌, ap, ◌∙◌}
use native.Mathlib.Nat.{mod-eq_of_lt}
use native.Mathlib.Omega.{arith}
use lib.ListN.{length, get_or, take, drop, length-take, length-drop, length-map, get_or-map}
use lib.Seq.{ext_get_or, get_or-take, get_or-drop}
use Rattle.frame.specs.Frame.{build, data_of}
use Rattle.frame.proofs.FrameLaws.{build_length, build_data}
use Rattle.receiver.specs.declared.Heard.{Heard}
use Rattle.laws.specs.Above.{above}
use Rattle.weights.specs.Weights.{bit}
use Rattle.weights.proofs.Weighed.{bit_num, odd_is}
use Rattle.receiver.specs.Receiving.{said_by}
use Rattle.laws.proofs.AboveLaws.{above_get_d}
use Rattle.protocol.specs.Steps.{num}
use Rattle.protocol.proofs.Keeps.{num_le}
use Rattle.link.specs.Link.{Message}

abbrev pub one_word : Bool → Bool → Bool → Bool → ℕ → ℕ
one_word v t k g n = bit v 128 + bit t 64 + bit k 32 + bit g 16 + n

abbrev pub said : List ℕ → Heard
said l = said_by (build l)

abbrev pub message_is : List ℕ → Message
message_is l = record { number = get_or l 1 0 % 16; bytes = map data_of (take 8 (drop 2 l)) }

-- the four bits and the number that stand in a symbol s
word_reads : (v t k g n s : ℕ) → v ≤ 1 → t ≤ 1 → k ≤ 1 → g ≤ 1 → n ≤ 15
    → s % 256 ≡ (128 * v + 64 * t + 32 * k + 16 * g + n) % 256
    → (s / 128 % 2 ≡ v) × (s / 64 % 2 ≡ t) × (s / 32 % 2 ≡ k) × (s / 16 % 2 ≡ g) × (s % 16 ≡ n)
word_reads v t k g n s hv ht hk hg hn e = (omega arith, omega arith, omega arith, omega arith, omega arith)

pub record Says (l : List ℕ) (v t k g : Bool) (n : ℕ) : Type 0 where
  pub valid : (said l).valid ≡ v
  pub toggle : (said l).toggle ≡ t
  pub ack : (said l).ack ≡ k
  pub togack : (said l).togack ≡ g
  pub number : get_or (build l) 1 0 % 16 ≡ n

pub word_says : (l : List ℕ) (v t k g : Bool) (n : ℕ) → length l ≡ 10 → n ≤ 15 → get_or l 1 0 ≡ one_word v t k g n
    → Says l v t k g n
word_says l v t k g n h hn e = record {
  valid = odd_is v _ reads.0;
  toggle = odd_is t _ reads.1;
  ack = odd_is k _ reads.2;
  togack = odd_is g _ reads.3;
  number = reads.4;
}
  where
    s : ℕ
    s = get_or (build l) 1 0

    word_num : one_word v t k g n ≡ 128 * num v + 64 * num t + 32 * num k + 16 * num g + n
    word_num = rw (bit_num v 128, bit_num t 64, bit_num k 32, bit_num g 16)

    stands : s % 256 ≡ (128 * num v + 64 * num t + 32 * num k + 16 * num g + n) % 256
    stands = build_data l 1 h (omega arith) ∙ ap (λ (x : ℕ). x % 256) (e ∙ word_num)

    reads : (s / 128 % 2 ≡ num v) × (s / 64 % 2 ≡ num t) × (s / 32 % 2 ≡ num k) × (s / 16 % 2 ≡ num g) × (s % 16 ≡ n)
    reads =
        word_reads (num v) (num t) (num k) (num g) n s (num_le v) (num_le t) (num_le k) (num_le g) hn stands

-- the message bytes of a built frame are those it was built from
pub bytes_built : (x y : ℕ) (l : List ℕ) → length l ≡ 8 → above 255 l ≡ false
    → map data_of (take 8 (drop 2 (build (x ∷ y ∷ l)))) ≡ l
bytes_built x y l h b = ext_get_or 0 _ _ lengths at
  where
    ten : List ℕ
    ten = x ∷ y ∷ l

    bytes : List ℕ
    bytes = map data_of (take 8 (drop 2 (build ten)))

    ten_length : length ten ≡ 10
    ten_length = omega arith

    lengths : length bytes ≡ length l
    lengths = simp (length-map, length-take, length-drop, build_length ten ten_length) (omega arith)

    at : (i : ℕ) → i < length bytes → get_or bytes i 0 ≡ get_or l i 0
    at i q =
        let below : i < 8 = omega (arith, lengths) in
        get_or-map data_of (take 8 (drop 2 (build ten))) i 0
        ∙ ap data_of (get_or-take 8 (drop 2 (build ten)) i 0 below ∙ get_or-drop 2 (build ten) i 0)
        ∙ build_data ten (2 + i) ten_length (omega arith)
        ∙ ap (λ (j : ℕ). get_or ten j 0 % 256) two
        ∙ mod-eq_of_lt (omega (arith, above_get_d 255 l i b))
      where
        two : 2 + i ≡ suc (suc i)
        two = omega arith
