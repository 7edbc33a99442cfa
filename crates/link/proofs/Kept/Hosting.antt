-- A host's call: the parts of an end that a line can see stay, so the invariant needs only the two halves anew.
--   end_as      an end with another health to send and other registers
--   side_as, hosted_as  a side with such an end and any host; its invariant, from its two halves
--   grown_carries, grown_filling   one accepted message more leaves what is known of the older ones
-- Assumes nothing.
use Prim.Native.Nat.{ℕ, ◌+◌, ◌≤◌, ◌<◌}
use mathlib.Core.Bool.{Bool, true, false, false≢true}
use mathlib.Core.List.{List, [], ◌∷◌, ◌++◌}
use mathlib.Core.Path.{◌≡◌, ◌∙◌}
use native.Mathlib.Omega.{arith}
use lib.ListN.{length, get_or, get_or-append}
use Rattle.end.specs.declared.End.{End}
use Rattle.receiver.specs.declared.Heard.{Heard}
use Rattle.receiver.specs.declared.Inbox.{Inbox}
use Rattle.end.specs.declared.Outbox.{Outbox}
use Rattle.end.specs.Good.{bad}
use Rattle.end.specs.Shape.{Shaped}
use Rattle.protocol.specs.Steps.{num}
use Rattle.link.specs.Link.{Message, Host, Side}
use Rattle.link.proofs.Line.{Cell, frame_at}
use Rattle.link.proofs.Invariant.Logs.{length_more, part_grows}
use Rattle.link.proofs.Invariant.OneWay.{no_message, Carries, DataOk, Holding, Filling}
use Rattle.link.proofs.Invariant.Written.{Stored}
use Rattle.link.proofs.Invariant.{Inv}

abbrev pub end_as : End → ℕ → Outbox → Inbox → End
end_as e k o i = record {
  sender = record {
    symbols = e.sender.symbols;
    position = e.sender.position;
    toggle = e.sender.toggle;
    ready = e.sender.ready;
    health = k;
    loaded = e.sender.loaded;
  };
  outbox = o;
  collector = e.collector;
  heard = e.heard;
  inbox = i;
  counts = e.counts;
  presence = e.presence;
}

-- a side after a host's call: of the log only what was seen of acknowledgements may change
abbrev pub side_as : Side → End → Host → ℕ → Side
side_as a e h n = record {
  end = e;
  sent = a.sent;
  host = h;
  log = record {
    load_count = a.log.load_count;
    ack_count = a.log.ack_count;
    seen_count = n;
    entered = a.log.entered;
  };
}

module _ {a b : Side} {ca cb : List Cell} {D E pa pb : ℕ} (v : Inv a b ca cb D E pa pb) (k : ℕ) (o : Outbox) (i : Inbox)
    (h : Host) (n : ℕ) where
  pub hosted_as : bad (end_as a.end k o i) ≡ false → Shaped (end_as a.end k o i)
      → Stored h.written o.bytes
      → Holding (end_as a.end k o i) h.accepted a.log.load_count a.log.ack_count
      → Filling a.end.heard i b.host.accepted a.log.entered v.ba.ha
      → Filling b.end.heard b.end.inbox h.accepted b.log.entered v.ab.ha
      → ((j : ℕ) → DataOk h.accepted (frame_at ca j)) → Inv (side_as a (end_as a.end k o i) h n) b ca cb D E pa pb
  hosted_as good shaped stored holding filling far frames = record {
    fit_a = record {
      good = good;
      shaped = shaped;
      sender = v.fit_a.sender;
      line = v.fit_a.line;
      sync = v.fit_a.sync;
      stored = stored;
    };
    fit_b = v.fit_b;
    ab = record {
      ha = v.ab.ha;
      holding = holding;
      filling = far;
      hearing = v.ab.hearing;
      order = v.ab.order;
      onward = record { newest = v.ab.onward.newest; heard = v.ab.onward.heard; frames = frames };
      back = v.ab.back;
    };
    ba = record {
      ha = v.ba.ha;
      holding = v.ba.holding;
      filling = filling;
      hearing = v.ba.hearing;
      order = v.ba.order;
      onward = v.ba.onward;
      back = v.ba.back;
    };
  }

module _ (acc : List Message) (m : Message) where
  at_grown : (i : ℕ) → i < length acc → get_or (acc ++ (m ∷ [])) i no_message ≡ get_or acc i no_message
  at_grown i h = get_or-append acc (m ∷ []) no_message i h

  pub grown_carries : {l : List ℕ} {n : ℕ} → Carries acc l n → Carries (acc ++ (m ∷ [])) l n
  grown_carries {n = n} c = record {
    toggle = c.toggle;
    message = λ q. let t = c.message q in (omega (arith, length_more acc m, t.0), at_grown n t.0 ∙ t.1);
  }

  pub grown_filling : {h : Heard} {i : Inbox} {ha : ℕ} {ent : List Message} → length ent ≤ length acc
      → Filling h i acc ent ha → Filling h i (acc ++ (m ∷ [])) ent ha
  grown_filling {i = i} {ent = ent} o f = record {
    gone = f.gone;
    receiving = f.receiving;
    register = λ q. at_grown f.gone (below i.full q f.receiving.taken) ∙ f.register q;
    entered_is = part_grows acc ent m o f.entered_is;
  }
    where
      below : (b : Bool) → b ≡ true → length ent ≡ f.gone + num b → f.gone < length acc
      below true q e = omega arith
      below false q e = absurd (false≢true q)
