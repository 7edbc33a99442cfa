-- What a reporting host does, as calls on registers, and a run of two reporting hosts as a run of crate link.
--   calls, by_rule  a side after calls on registers; each of them is by the rule for taking a message
--   sides           the sides of a world
--   Follows         a run of crate link that leads to the sides of a world, by the rule in both directions
--   follow_slot, follow_calls   one event more
-- Assumes nothing.
use Prim.Native.Nat.{ℕ}
use mathlib.Core.Bool.{Bool, true, ◌&&◌}
use mathlib.Core.List.{List, [], ◌∷◌, ◌++◌, map}
use mathlib.Core.Path.{◌≡◌, refl, ap, ◌∙◌}
use Rattle.laws.proofs.Bools.{and_both, and-true}
use Rattle.joined.specs.Joined.{Direction, a_to_b, b_to_a, near, slot, at_near, run_by, every}
use Rattle.joined.proofs.Runs.{run_append, every_append}
use Rattle.link.specs.Link.{Side, Access, Harm, ruled_call, hosted as called}
use Rattle.link.specs.Link as link
use Rattle.reportlink.specs.Reporting.{World, reset_world, step}

unfoldable pub calls : List Access → Side → Side
calls [] s = s
calls (c ∷ cs) s = calls cs (called c s)

unfoldable pub by_rule : List Access → Side → Bool
by_rule [] s = true
by_rule (c ∷ cs) s = ruled_call c s.host && by_rule cs (called c s)

abbrev pub sides : World → link.World
sides w = record { a = w.a.side; b = w.b.side }

-- the near side of a direction after calls, the other one as it was
abbrev pub with_near : Direction → Side → link.World → link.World
with_near a_to_b s w = record { a = s; b = w.b }
with_near b_to_a s w = record { a = w.a; b = s }

module _ (D E : ℕ) where
  calls_run : (d : Direction) (cs : List Access) (w : link.World)
      → link.run D E (map (at_near d) cs) w ≡ with_near d (calls cs (near d w)) w
  unfolding calls run_by
  calls_run a_to_b [] w = refl
  calls_run a_to_b (c ∷ cs) w = calls_run a_to_b cs (record { a = called c w.a; b = w.b })
  calls_run b_to_a [] w = refl
  calls_run b_to_a (c ∷ cs) w = calls_run b_to_a cs (record { a = w.a; b = called c w.b })

  calls_ruled : (d e : Direction) (cs : List Access) (w : link.World) → by_rule cs (near d w) ≡ true
      → link.ruled e D E (map (at_near d) cs) w ≡ true
  unfolding by_rule every
  calls_ruled a_to_b e [] w h = refl
  calls_ruled b_to_a e [] w h = refl
  calls_ruled a_to_b a_to_b (c ∷ cs) w h =
      calls_ruled a_to_b a_to_b cs (record { a = called c w.a; b = w.b }) (and_both (ruled_call c w.a.host) _ h).1
  calls_ruled b_to_a b_to_a (c ∷ cs) w h =
      calls_ruled b_to_a b_to_a cs (record { a = w.a; b = called c w.b }) (and_both (ruled_call c w.b.host) _ h).1
  calls_ruled a_to_b b_to_a (c ∷ cs) w h =
      let b = and_both (ruled_call c w.a.host) _ h in
      and-true (ruled_call c w.a.host) _ b.0
      (calls_ruled a_to_b b_to_a cs (record { a = called c w.a; b = w.b }) b.1)
  calls_ruled b_to_a a_to_b (c ∷ cs) w h =
      let b = and_both (ruled_call c w.b.host) _ h in
      and-true (ruled_call c w.b.host) _ b.0
      (calls_ruled b_to_a a_to_b cs (record { a = w.a; b = called c w.b }) b.1)

  pub record Follows (w : World) : Type 0 where
    pub events : List link.Event
    pub same : link.run D E events link.reset_world ≡ sides w
    pub ruled : (d : Direction) → link.ruled d D E events link.reset_world ≡ true

  pub follow_none : Follows reset_world
  unfolding run_by every
  follow_none = record { events = []; same = refl; ruled = λ d. refl }

  follow : (w x : World) (es : List link.Event) → Follows w → link.run D E es (sides w) ≡ sides x
      → ((d : Direction) → link.ruled d D E es (sides w) ≡ true) → Follows x
  follow w x es f p r = record {
    events = f.events ++ es;
    same =
        run_append (link.step D E) f.events es link.reset_world
        ∙ (ap (link.run D E es) f.same ∙ p);
    ruled = λ d.
        every_append (link.step D E)
        (λ e w. link.ruled_step d e w.a.host w.b.host) f.events es link.reset_world (f.ruled d)
        (ap (link.ruled d D E es) f.same ∙ r d);
  }

  pub follow_slot : (w : World) (ha hb : Harm) → Follows w → Follows (step D E (slot ha hb) w)
  unfolding run_by every
  follow_slot w ha hb f = follow w (step D E (slot ha hb) w) (slot ha hb ∷ []) f refl (λ d. free d)
    where
      free : (d : Direction) → link.ruled d D E (slot ha hb ∷ []) (sides w) ≡ true
      free d = refl

  pub follow_calls : (d : Direction) (cs : List Access) (w x : World) → Follows w → by_rule cs (near d (sides w)) ≡ true
      → with_near d (calls cs (near d (sides w))) (sides w) ≡ sides x → Follows x
  follow_calls d cs w x f r p =
      follow w x (map (at_near d) cs) f (calls_run d cs (sides w) ∙ p) (λ e. calls_ruled d e cs (sides w) r)
