-- The rule of a run is document 01's, and what is taken is what the host read: specs/Rule.antt, by the laws of crate
-- joined.
--   slot_host   a slot leaves the host
--   call_order, call_messages   what a call does to it
--   rule_is, document_is, not_anew, taken_is   the statements
-- Assumes nothing.
use Prim.Native.Nat.{ℕ, ◌≤◌}
use mathlib.Core.Bool.{true, false, ◌&&◌}
use mathlib.Core.List.{List, [], ◌∷◌, ◌++◌}
use mathlib.Core.Path.{◌≡◌, refl}
use native.Mathlib.Omega.{arith}
use lib.Dec.{eqb}
use Rattle.fibre.specs.Words.{read_of}
use Rattle.joined.specs.Joined.{Direction, a_to_b, b_to_a, far}
use Rattle.joined.specs.Rule.{ReadOut}
use Rattle.joined.proofs.Rule.{in_order, not_again, anew_too, messages_by}
use Rattle.joined.proofs.RunRule.{read_order, read_messages, rule_words, taken_words}
use Rattle.fibrelink.specs.Link.{Message, Side, reset_world, Access, read, write, ruled_call, gathered}
use Rattle.fibrelink.specs.Link.{hosted, sends, Harm, arriving, Arrival, taking, takes_from}
use Rattle.fibrelink.specs.Rule.{reads_by, first_word, more_words, message_read, RuleIs, DocumentIs, NotAnew}
use Rattle.fibrelink.specs.Rule.{TakenIs}

some : 1 ≤ more_words
some = omega arith

-- what the words read make of a message
starts : (v : ℕ) (m : Message) → gathered first_word v m ≡ message_read v []
starts v m = refl

adds : (w v u : ℕ) (us : List ℕ) → eqb w first_word ≡ false
    → gathered w v (message_read u us) ≡ message_read u (us ++ (v ∷ []))
adds w v u us h = rw h

taking_host : (l : List Arrival) (s : Side) → (taking l s).host ≡ s.host
unfolding taking
taking_host [] s = refl
taking_host (y ∷ l) s = refl

slot_host : (d : ℕ) (h : Harm) (o s : Side) → (takes_from d h o (sends s)).host ≡ s.host
slot_host d h o s = taking_host (arriving d h o.sent) (sends s)

call_order : (c : Access) (s : Side) (l : List ReadOut)
    → in_order first_word more_words true s.host.stage (reads_by c s ++ l)
    ≡ (ruled_call c s.host && in_order first_word more_words true (hosted c s).host.stage l)
call_order (read w) s l =
    read_order first_word more_words some gathered message_read starts adds w (read_of s.end w).value s.host l
call_order (write w v h) s l = refl

abbrev messaged : Message → List ReadOut → List Message
messaged m l = messages_by first_word more_words some gathered message_read starts adds m l

call_messages : (c : Access) (s : Side) (l : List ReadOut)
    → (hosted c s).host.taken ++ messaged (hosted c s).host.so_far l
    ≡ s.host.taken ++ messaged s.host.so_far (reads_by c s ++ l)
call_messages (read w) s l =
    read_messages first_word more_words some gathered message_read starts adds w (read_of s.end w).value s.host l
call_messages (write w v h) s l = refl

pub rule_is : RuleIs
rule_is d D E es =
    rule_words first_word more_words some gathered message_read starts adds (λ (s : Side). s.host) sends takes_from hosted
    ruled_call reads_by slot_host call_order call_messages D E d es reset_world (stage d)
  where
    stage : (d : Direction) → (far d reset_world).host.stage ≡ 0
    stage a_to_b = refl
    stage b_to_a = refl

pub document_is : DocumentIs
document_is d D E es t = (rule_is d D E es).1 (anew_too first_word more_words some t)

pub not_anew : NotAnew
not_anew v w l e t = not_again first_word more_words some v w l e t

pub taken_is : TakenIs
taken_is d D E es t =
    taken_words first_word more_words some gathered message_read starts adds (λ (s : Side). s.host) sends takes_from hosted
    ruled_call reads_by slot_host call_order call_messages D E d es reset_world (none d) t
  where
    none : (d : Direction) → (far d reset_world).host.taken ≡ []
    none a_to_b = refl
    none b_to_a = refl
