-- Progress of message k of a, while nothing that arrives is marked. Slots are counted from the start of the run; the
-- message was accepted when n₀ had passed.
--   Schedule    t₁: a's next frame start; t₂: the first frame start of b at which the message has entered; t₃: the
--               first of a at which its acknowledgement has come
--   Abreast     a collection misses nothing of the frame whose place 0 came since slot n₀
--   Prog        what has happened by now, n slots having passed
--   longer, same_at, hosted_leaves   a host's call leaves the collection and the log, and no list gets shorter
--   host_a, host_b   so it changes nothing of it
-- Assumes nothing.
use Prim.Native.Nat.{ℕ, ◌+◌, ◌*◌, ◌%◌, ◌≤◌, ◌<◌}
use mathlib.Core.Bool.{Bool, true, false, cond}
use mathlib.Core.List.{List, [], ◌∷◌}
use mathlib.Core.Path.{◌≡◌, refl, sym, ap, ◌∙◌, subst}
use native.Mathlib.Nat.{le_refl, le_trans, le_of_eq}
use native.Mathlib.Omega.{arith}
use lib.Dec.{eqb}
use lib.ListN.{length, get_or, get_or-append}
use Rattle.receiver.specs.declared.Collector.{Collector}
use Rattle.receiver.specs.declared.Inbox.{Inbox}
use Rattle.end.specs.Registers.{read_of}
use Rattle.end.specs.declared.End.{End}
use Rattle.endlaws.proofs.Done.{read_case}
use Rattle.endlaws.proofs.Left.{read_leaves, write_leaves, health_leaves}
use Rattle.protocol.specs.Steps.{num}
use Rattle.link.specs.Link.{Message, Side, also, Access, read, write, health, present, receive_side}
use Rattle.link.specs.Link.{advance, accepts_now, hosted}
use Rattle.link.proofs.Line.{Cell, cell_at, frame_at, rank}
use Rattle.link.proofs.Invariant.Logs.{length_more}
use Rattle.link.proofs.Invariant.OneWay.{no_message}

pub record Schedule (n₀ D E t₁ t₂ t₃ : ℕ) : Type 0 where
  pub first : n₀ ≤ t₁
  pub second : t₁ + 12 + D ≤ t₂
  pub third : t₂ + 12 + E ≤ t₃
  pub start₁ : t₁ % 12 ≡ 0
  pub start₂ : t₂ % 12 ≡ 0
  pub start₃ : t₃ % 12 ≡ 0

abbrev pub Abreast : Collector → List Cell → ℕ → ℕ → ℕ → Type 0
Abreast c cs d n₀ n = d < n → (cell_at cs d).place + n₀ < n → c.count ≡ ((cell_at cs d).place + 1) % 12

pub record Prog (a b : Side) (ca cb : List Cell) (D E pa k n₀ t₁ t₂ t₃ n : ℕ) (m : Message) : Type 0 where
  pub acknowledged : k ≤ a.log.ack_count
  pub accepted : k < length a.host.accepted
  pub message : get_or a.host.accepted k no_message ≡ m
  pub left : k + num b.end.inbox.full ≤ length b.log.entered
  pub loaded : t₁ < n → k < a.log.load_count
  pub ranks : (i : ℕ) → i + t₁ < n → 2 * k + 1 ≤ rank (frame_at ca i)
  pub abreast_b : Abreast b.end.collector ca D n₀ n
  pub entered : t₁ + 12 + D ≤ n → k < length b.log.entered
  pub entries : (i : ℕ) → i + t₂ < n → k < (frame_at cb i).enter_count
  pub abreast_a : Abreast a.end.collector cb E n₀ n
  pub heard : t₂ + 12 + E ≤ n → k < pa
  pub done : t₃ < n → k < a.log.ack_count

pub longer : (b : Bool) (l : List Message) (m : Message) → length l ≤ length (also b m l)
longer true l m = omega (arith, length_more l m)
longer false l m = le_refl _

same_at : (b : Bool) (l : List Message) (m : Message) (i : ℕ) → i < length l
    → get_or (also b m l) i no_message ≡ get_or l i no_message
same_at true l m i h = get_or-append l (m ∷ []) no_message i h
same_at false l m i h = refl

-- message k stays accepted, where it is
record HostLeaves (k : ℕ) (x y : Side) : Type 0 where
  collector : y.end.collector ≡ x.end.collector
  load_count : y.log.load_count ≡ x.log.load_count
  ack_count : y.log.ack_count ≡ x.log.ack_count
  entered : y.log.entered ≡ x.log.entered
  accepted : k < length x.host.accepted → k < length y.host.accepted
  message : k < length x.host.accepted
      → get_or y.host.accepted k no_message ≡ get_or x.host.accepted k no_message
  full : num y.end.inbox.full ≤ num x.end.inbox.full

hosted_leaves : (k : ℕ) (c : Access) (s : Side) → HostLeaves k s (hosted c s)
hosted_leaves k (read r) s = record {
  collector = (read_leaves s.end r).collector;
  load_count = refl;
  ack_count = refl;
  entered = refl;
  accepted = λ h. subst (λ (l : List Message). k < length l) (sym (same (receive_side r))) h;
  message = λ h. ap (λ (l : List Message). get_or l k no_message) (same (receive_side r));
  full =
      read_case (λ (e : End). num e.inbox.full ≤ num s.end.inbox.full) s.end (le_refl _) r
      (λ _ _. less (eqb r 2317));
}
  where
    v : ℕ
    v = (read_of s.end r).value

    same : (b : Bool) → (cond b (advance r v s.host) s.host).accepted ≡ s.host.accepted
    same true = refl
    same false = refl

    less : (u : Bool) → num (cond u false s.end.inbox.full) ≤ num s.end.inbox.full
    less true = omega arith
    less false = le_refl _
hosted_leaves k (write r v l) s = record {
  collector = (write_leaves s.end r v).collector;
  load_count = refl;
  ack_count = refl;
  entered = refl;
  accepted = λ h. le_trans h (longer (accepts_now r v s.end) s.host.accepted _);
  message = λ h. same_at (accepts_now r v s.end) s.host.accepted _ k h;
  full = le_of_eq (ap (λ (i : Inbox). num i.full) (write_leaves s.end r v).inbox);
}
hosted_leaves k (health n) s = record {
  collector = (health_leaves s.end n).collector;
  load_count = refl;
  ack_count = refl;
  entered = refl;
  accepted = λ h. h;
  message = λ h. refl;
  full = le_of_eq (ap (λ (i : Inbox). num i.full) (health_leaves s.end n).inbox);
}
hosted_leaves k present s = record {
  collector = refl;
  load_count = refl;
  ack_count = refl;
  entered = refl;
  accepted = λ h. h;
  message = λ h. refl;
  full = le_refl _;
}

module _ {a b : Side} {ca cb : List Cell} {D E pa k n₀ t₁ t₂ t₃ n : ℕ} {m : Message}
    (g : Prog a b ca cb D E pa k n₀ t₁ t₂ t₃ n m) (c : Access) where
  pub host_a : Prog (hosted c a) b ca cb D E pa k n₀ t₁ t₂ t₃ n m
  host_a = record {
    acknowledged = subst (λ (n : ℕ). k ≤ n) (sym q.ack_count) g.acknowledged;
    accepted = q.accepted g.accepted;
    message = q.message g.accepted ∙ g.message;
    left = g.left;
    loaded = λ h. subst (λ (n : ℕ). k < n) (sym q.load_count) (g.loaded h);
    ranks = g.ranks;
    abreast_b = g.abreast_b;
    entered = g.entered;
    entries = g.entries;
    abreast_a = λ h p. ap (λ (x : Collector). x.count) q.collector ∙ g.abreast_a h p;
    heard = g.heard;
    done = λ h. subst (λ (n : ℕ). k < n) (sym q.ack_count) (g.done h);
  }
    where
      q : HostLeaves k a (hosted c a)
      q = hosted_leaves k c a

  pub host_b : Prog a (hosted c b) ca cb D E pa k n₀ t₁ t₂ t₃ n m
  host_b = record {
    acknowledged = g.acknowledged;
    accepted = g.accepted;
    message = g.message;
    left =
        subst (λ (l : List Message). k + num (hosted c b).end.inbox.full ≤ length l) (sym q.entered)
        (fewer q.full g.left);
    loaded = g.loaded;
    ranks = g.ranks;
    abreast_b = λ h p. ap (λ (x : Collector). x.count) q.collector ∙ g.abreast_b h p;
    entered = λ h. subst (λ (l : List Message). k < length l) (sym q.entered) (g.entered h);
    entries = g.entries;
    abreast_a = g.abreast_a;
    heard = g.heard;
    done = g.done;
  }
    where
      q : HostLeaves k b (hosted c b)
      q = hosted_leaves k c b

      fewer : {x y n : ℕ} → x ≤ y → k + y ≤ n → k + x ≤ n
      fewer e f = omega arith
