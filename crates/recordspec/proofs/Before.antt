-- Records of before: versions 1 and 2, of n bytes and version v, both laid as version 2 up to where they end.
--   without_length    how many bytes stand behind the head, without the bool
--   Was, was          what the tests for answer 11 leave
--   newer_accepted    as a record of now it is not refused, where it was not as a record of before
--   before_back       writing its end, and the bool that it has, as that version did gives the same bytes
--   before_good, before_shape   answer 1 does not meet its end, and its arrays and counts are as Rust's types say
--   before_absent     nothing is left of presence in it
--   before_accepted   what that version wrote of an end that answer 1 does not meet is not refused
--   one_read_back, two_read_back   its end is that end without presence, and with version 1 without counts
--   one_kept          without counts its arrays and counts are still as Rust's types say
--   one_uncounted     in a record of version 1 all counts are 0
--   newer_good, old_good, old_shape, old_absent   the same of a record of either version
-- Assumes nothing.
use Prim.Native.Nat.{ℕ, zero, suc, ◌+◌, ◌-◌, ◌≤◌}
use mathlib.Core.Bool.{Bool, true, false, ◌&&◌, ◌||◌, true≢false}
use mathlib.Core.List.{List, [], ◌∷◌, ◌++◌, append_assoc}
use mathlib.Core.Path.{◌≡◌, refl, sym, ap, ap₂, ◌∙◌}
use native.Mathlib.Omega.{arith}
use lib.Dec.{ltb, lit≤}
use lib.ListN.{length, get_or, take, drop, length-append, length-drop, length-replicate, take-append-drop}
use lib.Seq.{drop-cons, drop_at, take-append_seam, take-append-le, get_or-append_seam, drop-drop, length-take-le}
use borrow.Author.Tests.{le-ltb, eq-eqb}
use Rattle.end.specs.declared.End.{End}
use Rattle.receiver.specs.Counting.{no_counts}
use Rattle.laws.specs.Above.{above}
use Rattle.end.specs.Good.{bad}
use Rattle.laws.proofs.Bools.{or_no}
use Rattle.end.specs.Parts.{beside}
use Rattle.end.specs.Shape.{Shaped}
use Rattle.recordspec.specs.Record.{size, version, size_one, version_one, size_two, version_two, two, flag, head_of}
use Rattle.recordspec.specs.Record.{front_of, back_of, body_of, record_of, record_before, at, flag_at, presence_of}
use Rattle.recordspec.specs.Record.{end_of, without, newer, end_before, limits, exceeds, wrong_head, refused_by}
use Rattle.recordspec.specs.Record.{refused, refused_before, neither}
use Rattle.recordspec.proofs.Accepted.{Fits, fits, byte_back, head_part, accepted_back, accepted_good}
use Rattle.recordspec.proofs.Accepted.{accepted_shape}
use Rattle.laws.proofs.Pieces.{zeros, zero_behind, same_split, take_past}
use Rattle.recordspec.proofs.Written.{two_back, flag_fits, in_spelled, front_length, back_length, read_back}
use Rattle.recordspec.proofs.Written.{body_fits}

pub without_length : (r : List ℕ) → 72 ≤ length r → length (without r) ≡ length r - 4
unfolding without
without_length r h =
    length-append (take 68 (drop 3 r)) (drop 72 r)
    ∙ (rw (length-take-le 68 (drop 3 r) (rw length-drop (omega arith)), length-drop 72 r) (omega arith))

-- zeros are never above a limit
zeros_within : (k : ℕ) (m : List ℕ) → exceeds (zeros k) m ≡ false
unfolding exceeds
zeros_within zero m = refl
zeros_within (suc k) [] = refl
zeros_within (suc k) (y ∷ m) = rw (le-ltb y 0 (omega arith)) (zeros_within k m)

more_zeros : (l : List ℕ) (k : ℕ) (m : List ℕ) → exceeds (l ++ zeros k) m ≡ exceeds l m
unfolding exceeds
more_zeros [] k m = zeros_within k m
more_zeros (x ∷ l) k [] = refl
more_zeros (x ∷ l) k (y ∷ m) = ap (λ (b : Bool). ltb y x || b) (more_zeros l k m)

-- the beginning of a list within its limits
within_front : (a b m : List ℕ) → exceeds (a ++ b) m ≡ false → exceeds a m ≡ false
unfolding exceeds
within_front [] b m h = refl
within_front (x ∷ a) b [] h = refl
within_front (x ∷ a) b (y ∷ m) h =
    let c = or_no (ltb y x) (exceeds (a ++ b) m) h in
    rw (c.0, within_front a b m c.1)

module _ (n v : ℕ) (low : size_one ≤ n) (high : n ≤ size_two) where
  abbrev pub Was : List ℕ → Type 0
  Was r = Fits n v 1 (at r 71) (without r) r

  pub was : (r : List ℕ) → refused_before n v r ≡ false → Was r
  unfolding refused_before
  was r h = fits n v 1 (at r 71) (without r) r h

  newer_length : (r : List ℕ) → Was r → length (newer r) ≡ size
  unfolding newer
  newer_length r f =
      let l = f.long in
      let back =
      length-append (without r) (zeros (102 - length r))
      ∙ ap₂ (λ (i j : ℕ). i + j) (without_length r (omega arith)) (length-replicate (102 - length r) 0) in
      ap (λ (k : ℕ). suc (suc (suc k))) back ∙ omega arith

  newer_absent : (r : List ℕ) → Was r → presence_of (newer r) ≡ 0
  unfolding newer
  newer_absent r f =
      let l = f.long in
      let w = without_length r (omega arith) in
      rw (
        zero_behind (without r) (102 - length r) 96 (omega arith),
        zero_behind (without r) (102 - length r) 97 (omega arith),
      )

  pub newer_accepted : (r : List ℕ) → refused_before n v r ≡ false → refused (newer r) ≡ false
  unfolding newer refused refused_by wrong_head
  newer_accepted r h =
      let f = was r h in
      rw (newer_length r f, newer_absent r f, more_zeros (without r) (102 - length r) limits) f.within

  pub before_good : (r : List ℕ) → refused_before n v r ≡ false → bad (end_before r) ≡ false
  before_good r h = accepted_good (newer r) (newer_accepted r h)

  pub before_shape : (r : List ℕ) → refused_before n v r ≡ false → Shaped (end_before r)
  before_shape r h = accepted_shape (newer r) (newer_accepted r h)

  pub before_absent : (r : List ℕ) → refused_before n v r ≡ false → (end_before r).presence ≡ 0
  unfolding end_of
  before_absent r h = newer_absent r (was r h)

  -- the bytes behind the head, and those behind the collection
  apart : (r : List ℕ) → 72 ≤ length r → drop 3 r ≡ take 68 (drop 3 r) ++ (at r 71 ∷ drop 72 r)
  apart r h =
      sym (take-append-drop 68 (drop 3 r))
      ∙ ap (λ (t : List ℕ). take 68 (drop 3 r) ++ t) (drop-drop 68 3 r ∙ drop-cons r 71 0 (omega arith))

  -- what version v wrote of the end, with what a record of now has besides, is the record with zeros behind it
  filled_up : (r : List ℕ) → refused_before n v r ≡ false
      → head_of n v ++ (front_of (end_before r) ++ (at r 71 ∷ (back_of (end_before r) ++ two (end_before r).presence)))
      ≡ r ++ zeros (102 - length r)
  unfolding newer record_of body_of without
  filled_up r h =
      let f = was r h in
      let l = f.long in
      let e = end_before r in
      let a = take 68 (drop 3 r) in
      let z = zeros (102 - length r) in
      let long : length a ≡ 68 = length-take-le 68 (drop 3 r) (rw length-drop (omega arith)) in
      let same : front_of e ++ (back_of e ++ two e.presence) ≡ a ++ (drop 72 r ++ z) =
      ap (drop 3) (accepted_back (newer r) (newer_accepted r h)) ∙ append_assoc a (drop 72 r) z in
      let split = same_split (front_of e) a _ _ (front_length e (before_shape r h) ∙ sym long) same in
      ap₂ (λ (x y : List ℕ). head_of n v ++ (x ++ (at r 71 ∷ y))) split.0 split.1
      ∙ (ap (λ (t : List ℕ). head_of n v ++ t)
      (sym (append_assoc a (at r 71 ∷ drop 72 r) z) ∙ ap (λ (t : List ℕ). t ++ z) (sym (apart r (omega arith))))
      ∙ (sym (append_assoc (head_of n v) (drop 3 r) z)
      ∙ ap (λ (t : List ℕ). t ++ z) (head_part n v r (omega arith) (omega arith) l f.said f.known)))

  pub before_back : (r : List ℕ) → refused_before n v r ≡ false → record_before n v (flag_at r 71) (end_before r) ≡ r
  unfolding record_before
  before_back r h =
      let f = was r h in
      let e = end_before r in
      let s = before_shape r h in
      let all = head_of n v ++ (front_of e ++ (at r 71 ∷ back_of e)) in
      let long : length all ≡ 100 =
      ap (λ (k : ℕ). suc (suc (suc k)))
      (length-append (front_of e) (at r 71 ∷ back_of e)
      ∙ ap₂ (λ (i j : ℕ). i + suc j) (front_length e s) (back_length e s)) in
      rw (byte_back (at r 71) f.number)
      (sym (take-append-le n all (two e.presence) (omega arith))
      ∙ (ap (take n)
      (append_assoc (head_of n v) (front_of e ++ (at r 71 ∷ back_of e)) (two e.presence)
      ∙ (ap (λ (t : List ℕ). head_of n v ++ t) (append_assoc (front_of e) (at r 71 ∷ back_of e) (two e.presence))
      ∙ filled_up r h))
      ∙ (ap (λ (k : ℕ). take k (r ++ zeros (102 - length r))) (sym f.long)
      ∙ take-append_seam r (zeros (102 - length r)))))

  -- What version v wrote of an end

  module _ (b : Bool) (e : End) (s : Shaped e) where
    abbrev rest : List ℕ
    rest = take (n - 72) (back_of e)

    rest_length : length rest ≡ n - 72
    rest_length = length-take-le (n - 72) (back_of e) (rw (back_length e s) (omega arith))

    abbrev laid : List ℕ
    laid = head_of n v ++ (front_of e ++ (flag b ∷ rest))

    before_laid : record_before n v b e ≡ laid
    unfolding record_before
    before_laid =
        let front = front_length e s in
        take_past (head_of n v) (front_of e ++ (flag b ∷ back_of e)) n (n - 3) (omega arith)
        ∙ ap (λ (t : List ℕ). head_of n v ++ t)
        (take_past (front_of e) (flag b ∷ back_of e) (n - 3) (n - 71) (omega arith)
        ∙ ap (λ (t : List ℕ). front_of e ++ t) (take_past (flag b ∷ []) (back_of e) (n - 71) (n - 72) (omega arith)))

    laid_length : length laid ≡ n
    laid_length =
        ap (λ (k : ℕ). suc (suc (suc k)))
        (length-append (front_of e) (flag b ∷ rest)
        ∙ ap₂ (λ (i j : ℕ). i + suc j) (front_length e s) rest_length)
        ∙ omega arith

    laid_without : without laid ≡ front_of e ++ rest
    unfolding without
    laid_without =
        let front = front_length e s in
        let one = length-append (front_of e) (flag b ∷ []) in
        ap₂ (λ (x y : List ℕ). x ++ y)
        (ap (λ (k : ℕ). take k (front_of e ++ (flag b ∷ rest))) (sym front)
        ∙ take-append_seam (front_of e) (flag b ∷ rest))
        (ap (drop 69) (sym (append_assoc (front_of e) (flag b ∷ []) rest))
        ∙ drop_at (front_of e ++ (flag b ∷ [])) rest 69 (omega arith))

    laid_bool : at laid 71 ≡ flag b
    laid_bool =
        ap (λ (k : ℕ). get_or (front_of e ++ (flag b ∷ rest)) k 0) (sym (front_length e s))
        ∙ get_or-append_seam (front_of e) (flag b) rest 0

    laid_within : bad e ≡ false → exceeds (front_of e ++ rest) limits ≡ false
    unfolding body_of
    laid_within g =
        within_front (front_of e ++ rest) (drop (n - 72) (back_of e) ++ two e.presence) limits
        (rw (
          append_assoc (front_of e) rest (drop (n - 72) (back_of e) ++ two e.presence),
          sym (append_assoc rest (drop (n - 72) (back_of e)) (two e.presence)),
          take-append-drop (n - 72) (back_of e),
        )
        (body_fits e s g))

    pub before_accepted : bad e ≡ false → refused_before n v (record_before n v b e) ≡ false
    unfolding refused_before refused_by wrong_head
    before_accepted g =
        rw (before_laid, laid_length, laid_without, laid_bool, flag_fits b, laid_within g, two_back n)
        (rw (eq-eqb n n refl, eq-eqb v v refl))

    newer_before : newer (record_before n v b e)
        ≡ head_of size version ++ (front_of e ++ (rest ++ zeros (102 - n)))
    unfolding newer
    newer_before =
        rw (before_laid, laid_length, laid_without)
        (ap (λ (t : List ℕ). head_of size version ++ t) (append_assoc (front_of e) rest (zeros (102 - n))))

module _ (b : Bool) (e : End) (s : Shaped e) where
  pub one_kept : Shaped (beside no_counts 0 e)
  unfolding above
  one_kept = record {
    sending = s.sending;
    collecting = s.collecting;
    eight_out = s.eight_out;
    eight_in = s.eight_in;
    bytes_out = s.bytes_out;
    bytes_in = s.bytes_in;
    counts = refl;
  }

  pub one_read_back : end_before (record_before size_one version_one b e) ≡ beside no_counts 0 e
  unfolding record_of body_of front_of back_of
  one_read_back =
      ap end_of
      (newer_before size_one version_one (lit≤ tt) (lit≤ tt) b e s
      ∙ ap (λ (t : List ℕ). head_of size version ++ (front_of e ++ t)) same)
      ∙ read_back (beside no_counts 0 e) one_kept
    where
      same : take 20 (back_of e) ++ zeros 10 ≡ back_of (beside no_counts 0 e) ++ two 0
      same = rw (in_spelled e s)

  pub two_read_back : end_before (record_before size_two version_two b e) ≡ beside e.counts 0 e
  unfolding record_of body_of front_of back_of
  two_read_back =
      ap end_of
      (newer_before size_two version_two (lit≤ tt) (lit≤ tt) b e s
      ∙ ap (λ (t : List ℕ). head_of size version ++ (front_of e ++ t)) same)
      ∙ read_back (beside e.counts 0 e) s
    where
      same : take 28 (back_of e) ++ zeros 2 ≡ back_of e ++ two 0
      same = rw (in_spelled e s)

-- version 1 has no counts
pub one_uncounted : (r : List ℕ) → refused_before size_one version_one r ≡ false → (end_before r).counts ≡ no_counts
one_uncounted r h =
    ap (λ (x : End). x.counts)
    (ap (λ (t : List ℕ). end_before t) (sym (before_back size_one version_one (lit≤ tt) (lit≤ tt) r h))
    ∙ one_read_back (flag_at r 71) (end_before r) (before_shape size_one version_one (lit≤ tt) (lit≤ tt) r h))

-- Either version

record Before (r : List ℕ) : Type 0 where
  n : ℕ
  v : ℕ
  low : size_one ≤ n
  high : n ≤ size_two
  good : refused_before n v r ≡ false

which : (r : List ℕ) → neither r ≡ false → Before r
which r = go (refused_before size_one version_one r) (refused_before size_two version_two r) refl refl
  where
    go : (s t : Bool) → refused_before size_one version_one r ≡ s → refused_before size_two version_two r ≡ t
        → (s && t) ≡ false → Before r
    go false t h k f = record { n = size_one; v = version_one; low = lit≤ tt; high = lit≤ tt; good = h }
    go true false h k f = record { n = size_two; v = version_two; low = lit≤ tt; high = lit≤ tt; good = k }
    go true true h k f = absurd (true≢false f)

module _ (r : List ℕ) (h : neither r ≡ false) where
  pub newer_good : refused (newer r) ≡ false
  newer_good = let b = which r h in newer_accepted b.n b.v b.low b.high r b.good

  pub old_good : bad (end_before r) ≡ false
  old_good = accepted_good (newer r) newer_good

  pub old_shape : Shaped (end_before r)
  old_shape = accepted_shape (newer r) newer_good

  pub old_absent : (end_before r).presence ≡ 0
  old_absent = let b = which r h in before_absent b.n b.v b.low b.high r b.good
