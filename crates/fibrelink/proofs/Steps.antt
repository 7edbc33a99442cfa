-- What a side is after it has sent, or taken a block, or its host has called, where answer 1 does not meet its end.
--   sent_as l s    after sending, where l says that a message is loaded; sends_as
--   took_as n b s  after taking the block b, where n says that a message enters; takes_as
--   takes_spoilt   a block that is marked bad changes nothing
-- Assumes nothing.
use Prim.Native.Nat.{suc}
use mathlib.Core.Bool.{Bool, true, false, not, cond, ◌&&◌, ◌||◌, beq, false≢true}
use mathlib.Core.List.{◌∷◌}
use mathlib.Core.Path.{◌≡◌, refl, sym, ap, ◌∙◌}
use lib.Dec.{ltb}
use Rattle.answer.specs.declared.Answer.TheVariants.{Done, BadEnd}
use Rattle.fibre.specs.declared.Block.{Block}
use Rattle.fibre.specs.declared.End.{End}
use Rattle.fibre.specs.declared.Next.{Next}
use Rattle.fibre.specs.declared.Sent.{Sent}
use Rattle.fibre.specs.Good.{largest, bad}
use Rattle.fibre.specs.Sending.{loads, loaded, send_of}
use Rattle.fibre.specs.Taking.{heard, enters, stored, take_of}
use Rattle.joined.specs.Joined.{also}
use Rattle.laws.proofs.Bools.{cond_false, or_none}
use Rattle.fibrelink.specs.Link.{message_in, message_of, Side, sends, sent_log, differ, took_log, takes}

-- Sending

abbrev pub sent_as : Bool → Side → Side
sent_as l s = record {
  end = loaded l s.end;
  sent = (loaded l s.end).sent ∷ s.sent;
  host = s.host;
  log = record {
    load_count = cond l (suc s.log.load_count) s.log.load_count;
    ack_count = s.log.ack_count;
    entered = s.log.entered;
  };
}

-- TXREQ falls exactly where a message is loaded
falls : (t p l : Bool) → (t && p) ≡ l → (t && not (cond l false t)) ≡ l
falls t p true h = fell t p h
  where
    fell : (t p : Bool) → (t && p) ≡ true → (t && true) ≡ true
    fell true p h = refl
    fell false p h = h
falls true p false h = refl
falls false p false h = refl

pub sends_as : (s : Side) (l : Bool) → bad s.end ≡ false → loads s.end ≡ l → sends s ≡ sent_as l s
unfolding send_of
sends_as s l g e =
    ap (λ (r : Sent). record {
      end = r.end;
      sent = r.block ∷ s.sent;
      host = s.host;
      log = sent_log s.end r.end s.log;
    })
    (cond_false _ _ g)
    ∙ (ap (λ (b : Bool). record {
      end = loaded b s.end;
      sent = (loaded b s.end).sent ∷ s.sent;
      host = s.host;
      log = sent_log s.end (loaded b s.end) s.log;
    }) e
    ∙ ap (λ (b : Bool). record {
      end = loaded l s.end;
      sent = (loaded l s.end).sent ∷ s.sent;
      host = s.host;
      log = record {
        load_count = cond b (suc s.log.load_count) s.log.load_count;
        ack_count = s.log.ack_count;
        entered = s.log.entered;
      };
    })
    (falls s.end.transmit.txreq (beq s.end.transmit.phyt s.end.sent.msgt) l e))

-- Taking

abbrev pub took_as : Bool → Block → Side → Side
took_as n b s = record {
  end = stored n b (heard b s.end);
  sent = s.sent;
  host = s.host;
  log = record {
    load_count = s.log.load_count;
    ack_count = cond (differ s.end.transmit.phyt b.phyt) (suc s.log.ack_count) s.log.ack_count;
    entered = also n (message_of b) s.log.entered;
  };
}

abbrev took_by : Side → End → Side
took_by s f = record { end = f; sent = s.sent; host = s.host; log = took_log s.end f s.log }

-- RXVAL rises exactly where a message enters
pub rises : (p v : Bool) → (p && not v) ≡ true → v ≡ false
rises p true h = absurd (false≢true (sym (no p) ∙ h))
  where
    no : (p : Bool) → (p && false) ≡ false
    no true = refl
    no false = refl
rises p false h = refl

still : (v : Bool) → (not v && v) ≡ false
still true = refl
still false = refl

entered_as : (s : Side) (n : Bool) (b : Block) → enters b s.end ≡ n
    → took_by s (stored n b (heard b s.end)) ≡ took_as n b s
entered_as s true b e =
    ap (λ (v : Bool). record {
      end = stored true b (heard b s.end);
      sent = s.sent;
      host = s.host;
      log = record {
        load_count = s.log.load_count;
        ack_count = cond (differ s.end.transmit.phyt b.phyt) (suc s.log.ack_count) s.log.ack_count;
        entered = also (not v && true) (message_of b) s.log.entered;
      };
    })
    (rises (differ b.msgt s.end.sent.phyt) s.end.receive.rxval e)
entered_as s false b e =
    ap (λ (v : Bool). record {
      end = stored false b (heard b s.end);
      sent = s.sent;
      host = s.host;
      log = record {
        load_count = s.log.load_count;
        ack_count = cond (differ s.end.transmit.phyt b.phyt) (suc s.log.ack_count) s.log.ack_count;
        entered = also v (message_in s.end) s.log.entered;
      };
    })
    (still s.end.receive.rxval)

pub takes_as : (s : Side) (n : Bool) (b : Block) → bad s.end ≡ false → ltb largest b.control ≡ false
    → enters b s.end ≡ n → takes (record { marked = false; block = b }) s ≡ took_as n b s
unfolding take_of
takes_as s n b g f e =
    ap (λ (r : Next). took_by s r.end) (cond_false _ _ (or_none (bad s.end) _ g f))
    ∙ (ap (λ (t : Bool). took_by s (stored t b (heard b s.end))) e ∙ entered_as s n b e)

-- whatever stands in it, and whatever the end is
pub takes_spoilt : (s : Side) (b : Block) → takes (record { marked = true; block = b }) s ≡ s
unfolding take_of
takes_spoilt s b = go (bad s.end || ltb largest b.control)
  where
    unmoved : took_by s s.end ≡ s
    unmoved = same s.end.transmit.phyt s.end.receive.rxval
      where
        same : (p v : Bool)
            → record {
              end = s.end;
              sent = s.sent;
              host = s.host;
              log = record {
                load_count = s.log.load_count;
                ack_count = cond (differ p p) (suc s.log.ack_count) s.log.ack_count;
                entered = also (not v && v) (message_in s.end) s.log.entered;
              };
            } ≡ s
        same true true = refl
        same true false = refl
        same false true = refl
        same false false = refl

    go : (t : Bool)
        → took_by s
        (cond {A = Next} t (record { answer = BadEnd; end = s.end })
        (cond true (record { answer = Done; end = s.end })
        (record { answer = Done; end = stored (enters b s.end) b (heard b s.end) }))).end
        ≡ s
    go true = unmoved
    go false = unmoved
