-- The rule of a run is document 01's, and what is taken is what the host read: specs/Rule.antt, by the laws of crate
-- joined.
--   bytes_more   the bytes of one value more
--   slot_host    a slot leaves the host
--   call_order, call_messages   what a call does to it
--   rule_is, document_is, not_anew, taken_is   the statements
-- Assumes nothing.
use Prim.Native.Nat.{ℕ, ◌/◌, ◌%◌, ◌≤◌}
use mathlib.Core.Bool.{true, false, ◌&&◌}
use mathlib.Core.List.{List, [], ◌∷◌, ◌++◌}
use mathlib.Core.Path.{◌≡◌, refl, ap}
use native.Mathlib.Omega.{arith}
use lib.Dec.{eqb}
use Rattle.end.specs.Registers.{read_of}
use Rattle.joined.specs.Rule.{ReadOut}
use Rattle.joined.proofs.Rule.{in_order, not_again, anew_too, messages_by}
use Rattle.joined.proofs.RunRule.{read_order, read_messages, rule_words, taken_words}
use Rattle.link.specs.Link.{Message, Side, reset_world, Direction, a_to_b, b_to_a, far, Access, read, write, health}
use Rattle.link.specs.Link.{present, ruled_call, halves, bytes_of, gathered, hosted, sends, Harm, arriving}
use Rattle.link.specs.Link.{takes_from}
use Rattle.link.specs.Rule.{reads_by, first_read, more_reads, message_read, RuleIs, DocumentIs, NotAnew, TakenIs}
use Rattle.link.proofs.Kept.Slot.{taking_host}

some : 1 ≤ more_reads
some = omega arith

-- What the values read make of a message

bytes_more : (vs : List ℕ) (v : ℕ) → bytes_of vs ++ halves v ≡ bytes_of (vs ++ (v ∷ []))
unfolding bytes_of
bytes_more [] v = refl
bytes_more (u ∷ vs) v = ap (λ (l : List ℕ). u % 256 ∷ u / 256 ∷ l) (bytes_more vs v)

starts : (v : ℕ) (m : Message) → gathered first_read v m ≡ message_read v []
unfolding bytes_of
starts v m = refl

adds : (r v u : ℕ) (us : List ℕ) → eqb r first_read ≡ false
    → gathered r v (message_read u us) ≡ message_read u (us ++ (v ∷ []))
adds r v u us h = rw (h, bytes_more us v)

-- What happens to a host

slot_host : (d : ℕ) (h : Harm) (o s : Side) → (takes_from d h o (sends s)).host ≡ s.host
slot_host d h o s = taking_host (arriving d h o.sent) (sends s)

call_order : (c : Access) (s : Side) (l : List ReadOut)
    → in_order first_read more_reads true s.host.stage (reads_by c s ++ l)
    ≡ (ruled_call c s.host && in_order first_read more_reads true (hosted c s).host.stage l)
call_order (read r) s l =
    read_order first_read more_reads some gathered message_read starts adds r (read_of s.end r).value s.host l
call_order (write r v h) s l = refl
call_order (health k) s l = refl
call_order present s l = refl

abbrev messaged : Message → List ReadOut → List Message
messaged m l = messages_by first_read more_reads some gathered message_read starts adds m l

call_messages : (c : Access) (s : Side) (l : List ReadOut)
    → (hosted c s).host.taken ++ messaged (hosted c s).host.so_far l
    ≡ s.host.taken ++ messaged s.host.so_far (reads_by c s ++ l)
call_messages (read r) s l =
    read_messages first_read more_reads some gathered message_read starts adds r (read_of s.end r).value s.host l
call_messages (write r v h) s l = refl
call_messages (health k) s l = refl
call_messages present s l = refl

-- The statements

pub rule_is : RuleIs
rule_is d D E es =
    rule_words first_read more_reads some gathered message_read starts adds (λ (s : Side). s.host) sends takes_from hosted
    ruled_call reads_by slot_host call_order call_messages D E d es reset_world (stage d)
  where
    stage : (d : Direction) → (far d reset_world).host.stage ≡ 0
    stage a_to_b = refl
    stage b_to_a = refl

pub document_is : DocumentIs
document_is d D E es t = (rule_is d D E es).1 (anew_too first_read more_reads some t)

pub not_anew : NotAnew
not_anew v w l e t = not_again first_read more_reads some v w l e t

pub taken_is : TakenIs
taken_is d D E es t =
    taken_words first_read more_reads some gathered message_read starts adds (λ (s : Side). s.host) sends takes_from hosted
    ruled_call reads_by slot_host call_order call_messages D E d es reset_world (none d) t
  where
    none : (d : Direction) → (far d reset_world).host.taken ≡ []
    none a_to_b = refl
    none b_to_a = refl
