-- A slot keeps what every run keeps: both sides send, then each takes what arrives.
--   Inv n f        of the near side and the far one, where n is the delay there and f the delay back: what is in flight
--                  is what they sent last
--   slot_kept, near_kept, far_kept   after a slot, after a call of the near host, of the far host
-- Assumes nothing.
use Prim.Native.Nat.{ℕ, zero, suc, ◌≤◌}
use mathlib.Core.List.{List, [], ◌∷◌, ◌++◌, map, append-nil}
use mathlib.Core.Path.{◌≡◌, refl, sym, ap, subst, ◌∙◌}
use native.Mathlib.Omega.{arith}
use lib.ListN.{length, take, drop, length-take, length-map}
use Rattle.fibre.specs.declared.Block.{Block}
use Rattle.joined.specs.Joined.{due}
use Rattle.fibrelink.specs.Link.{Side, sends, Access, hosted, Arrival, Harm, sound, spoilt, harmed}
use Rattle.fibrelink.specs.Link.{taking, takes_from}
use Rattle.fibrelink.proofs.Flight.{Stamp, take_due}
use Rattle.fibrelink.proofs.Steps.{takes_spoilt}
use Rattle.fibrelink.proofs.Way.{Way}
use Rattle.fibrelink.proofs.Kept.Sending.{stamped, telling, sent_head, near_sends, far_sends}
use Rattle.fibrelink.proofs.Kept.Taking.{near_takes, near_loses, far_takes, far_loses}
use Rattle.fibrelink.proofs.Kept.Hosting.{near_called, far_called}

abbrev pub blocks : List Stamp → List Block
blocks l = map (λ x. x.block) l

pub record Inv (n f : ℕ) (near far : Side) : Type 0 where
  pub fa : List Stamp
  pub fb : List Stamp
  pub forth : blocks fa ≡ take n near.sent
  pub back : blocks fb ≡ take f far.sent
  pub way : Way fa fb near far

-- A list of stamps, split where the oldest arrives

map_take : {A B : Type 0} (g : A → B) (k : ℕ) (l : List A) → map g (take k l) ≡ take k (map g l)
map_take g zero l = refl
map_take g (suc k) [] = refl
map_take g (suc k) (x ∷ l) = ap (λ t. g x ∷ t) (map_take g k l)

map_drop : {A B : Type 0} (g : A → B) (k : ℕ) (l : List A) → map g (drop k l) ≡ drop k (map g l)
map_drop g zero l = refl
map_drop g (suc k) [] = refl
map_drop g (suc k) (x ∷ l) = map_drop g k l

map_due : {A B : Type 0} (g : A → B) (k : ℕ) (l : List A) → map g (due k l) ≡ due k (map g l)
map_due g k l = map_take g 1 (drop k l) ∙ ap (take 1) (map_drop g k l)

take_take : {A : Type 0} (k : ℕ) (l : List A) → take k (take (suc k) l) ≡ take k l
take_take zero l = refl
take_take (suc k) [] = refl
take_take (suc k) (x ∷ l) = ap (λ t. x ∷ t) (take_take k l)

due_take : {A : Type 0} (k : ℕ) (l : List A) → due k (take (suc k) l) ≡ due k l
due_take zero [] = refl
due_take zero (x ∷ l) = refl
due_take (suc k) [] = refl
due_take (suc k) (x ∷ l) = due_take k l

take_short : {A : Type 0} (k : ℕ) (l : List A) → length l ≤ k → take k l ≡ l
take_short zero [] h = refl
take_short zero (x ∷ l) h = absurd (omega (arith, h))
take_short (suc k) [] h = refl
take_short (suc k) (x ∷ l) h = ap (λ t. x ∷ t) (take_short k l (omega (arith, h)))

pub one_due : {A : Type 0} (k : ℕ) (l : List A) → length (due k l) ≤ 1
one_due k l = simp length-take (omega arith)

module _ (k : ℕ) (l : List Stamp) (s : List Block) (e : blocks l ≡ take (suc k) s) where
  pub split : l ≡ take k l ++ due k l
  split = sym (take_short (suc k) l short) ∙ take_due k l
    where
      short : length l ≤ suc k
      short =
          let a = ap (λ (b : List Block). length b) e in
          let b = length-map l (λ (x : Stamp). x.block) in
          let c = length-take (suc k) s in
          omega (arith, a, b, c)

  pub flying : blocks (take k l) ≡ take k s
  flying = map_take (λ x. x.block) k l ∙ (ap (take k) e ∙ take_take k s)

  pub arrives : blocks (due k l) ≡ due k s
  arrives = map_due (λ x. x.block) k l ∙ (ap (due k) e ∙ due_take k s)

-- What arrives is taken

abbrev coming : Harm → List Stamp → List Arrival
coming h q = map (harmed h) (blocks q)

pub far_arrives : (p q : List Stamp) {fb : List Stamp} {near far : Side} (h : Harm) → length q ≤ 1
    → Way (p ++ q) fb near far → Way p fb near (taking (coming h q) far)
unfolding taking
far_arrives p [] {fb} {near} {far} h o w = subst (λ (l : List Stamp). Way l fb near far) (append-nil p) w
far_arrives p (x ∷ []) sound o w = far_takes p x w
far_arrives p (x ∷ []) {fb} {near} {far} (spoilt c) o w =
    subst (λ (s : Side). Way p fb near s) (sym (takes_spoilt far c)) (far_loses p x w)
far_arrives p (x ∷ y ∷ q) h o w = absurd (omega (arith, o))

pub near_arrives : {fa : List Stamp} (p q : List Stamp) {near far : Side} (h : Harm) → length q ≤ 1
    → Way fa (p ++ q) near far → Way fa p (taking (coming h q) near) far
unfolding taking
near_arrives {fa} p [] {near} {far} h o w = subst (λ (l : List Stamp). Way fa l near far) (append-nil p) w
near_arrives p (y ∷ []) sound o w = near_takes p y w
near_arrives {fa} p (y ∷ []) {near} {far} (spoilt c) o w =
    subst (λ (s : Side). Way fa p s far) (sym (takes_spoilt near c)) (near_loses p y w)
near_arrives p (x ∷ y ∷ q) h o w = absurd (omega (arith, o))

pub taking_sent : (l : List Arrival) (s : Side) → (taking l s).sent ≡ s.sent
unfolding taking
taking_sent [] s = refl
taking_sent (y ∷ l) s = refl

-- both have sent: what is in flight then, with the new blocks
module _ {n f : ℕ} {near far : Side} (i : Inv n f near far) where
  abbrev pub outgoing : List Stamp
  outgoing = stamped (sends near) ∷ i.fa

  pub near_sent : Way outgoing i.fb (sends near) far
  near_sent = near_sends i.way

  abbrev pub returning : List Stamp
  returning = telling near_sent.gone (sends far) ∷ i.fb

  pub both_sent : Way outgoing returning (sends near) (sends far)
  both_sent = far_sends near_sent

  pub outgoing_are : blocks outgoing ≡ take (suc n) (sends near).sent
  outgoing_are =
      ap (λ (l : List Block). (sends near).end.sent ∷ l) i.forth
      ∙ sym (ap (take (suc n)) (sent_head near i.way.near_good))

  pub returning_are : blocks returning ≡ take (suc f) (sends far).sent
  returning_are =
      ap (λ (l : List Block). (sends far).end.sent ∷ l) i.back
      ∙ sym (ap (take (suc f)) (sent_head far i.way.far_good))

unfoldable pub slot_kept : (n f : ℕ) (near far : Side) (hn hf : Harm) → Inv n f near far
    → Inv n f (takes_from f hn (sends far) (sends near)) (takes_from n hf (sends near) (sends far))
slot_kept n f near far hn hf i = record {
  fa = take n (outgoing i);
  fb = take f (returning i);
  forth = flying n (outgoing i) (sends near).sent (outgoing_are i) ∙ ap (take n) (sym (taking_sent _ (sends near)));
  back = flying f (returning i) (sends far).sent (returning_are i) ∙ ap (take f) (sym (taking_sent _ (sends far)));
  way =
      subst (λ (s : Side). Way (take n (outgoing i)) (take f (returning i)) s (takes_from n hf (sends near) (sends far)))
      (ap (λ (b : List Block). taking (map (harmed hn) b) (sends near))
      (arrives f (returning i) (sends far).sent (returning_are i)))
      (near_arrives (take f (returning i)) (due f (returning i)) hn (one_due f (returning i))
      (subst (λ (l : List Stamp). Way (take n (outgoing i)) l (sends near) (takes_from n hf (sends near) (sends far)))
      (split f (returning i) (sends far).sent (returning_are i))
      (subst (λ (s : Side). Way (take n (outgoing i)) (returning i) (sends near) s)
      (ap (λ (b : List Block). taking (map (harmed hf) b) (sends far))
      (arrives n (outgoing i) (sends near).sent (outgoing_are i)))
      (far_arrives (take n (outgoing i)) (due n (outgoing i)) hf (one_due n (outgoing i))
      (subst (λ (l : List Stamp). Way l (returning i) (sends near) (sends far))
      (split n (outgoing i) (sends near).sent (outgoing_are i)) (both_sent i))))));
}

-- Between slots

pub hosted_sent : (c : Access) (s : Side) → (hosted c s).sent ≡ s.sent
hosted_sent (Access.read r) s = refl
hosted_sent (Access.write r v b) s = refl

unfoldable pub near_kept : (n f : ℕ) (near far : Side) (c : Access) → Inv n f near far → Inv n f (hosted c near) far
near_kept n f near far c i = record {
  fa = i.fa;
  fb = i.fb;
  forth = i.forth ∙ ap (take n) (sym (hosted_sent c near));
  back = i.back;
  way = near_called i.way c;
}

unfoldable pub far_kept : (n f : ℕ) (near far : Side) (c : Access) → Inv n f near far → Inv n f near (hosted c far)
far_kept n f near far c i = record {
  fa = i.fa;
  fb = i.fb;
  forth = i.forth;
  back = i.back ∙ ap (take f) (sym (hosted_sent c far));
  way = far_called i.way c;
}
