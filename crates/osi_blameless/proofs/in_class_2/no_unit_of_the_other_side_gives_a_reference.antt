-- The calling side gives no reference of the called side, and none for which a unit of it waits. So all connections of an end of class 2
-- stand after a packet of that side. For all connections of an end that is called and a judge.
use Rattle.osi_blameless.proofs.Vocabulary.{[], append_assoc, Bool, false, List, refl, subst, sym, true, ℕ, ◌++◌, ◌∷◌, ◌≡◌, append-nil}
use Rattle.osi_blameless.proofs.Vocabulary.{AllByRecursion, Value, is_applied, takes, Left, Right, Deeds, Sessions, unit_passes, units_pass}
use Rattle.osi_blameless.proofs.Vocabulary.{arith, Course}
use Rattle.osi_rules.specs.declared.directions.Direction.TheVariants as way
use Rattle.osi_blameless.proofs.in_class_2.an_end_hears_what_breaks_no_rule.{AreFine, AreHeard, IsNotAwaited, lost_known, one_heard}
use Rattle.osi_blameless.proofs.putting.each_reference_of_an_end_is_new.{AreUpTo, unit_up}
use Rattle.osi_blameless.proofs.coming.nothing_comes_before_a_cc_passes.{IsBelow, left_below}
use Rattle.osi_blameless.proofs.putting.references_of_an_end_are_distinct.{GivesNew}
use Rattle.osi_blameless.proofs.shown.what_has_no_effect_joins_nothing.{joins_none}

-- a unit of the calling side gives no reference of a called end, and none is awaited
gives_none : (at : ℕ) (v : Value) (t : Sessions) (c : Course) → is_applied (takes way.Left v c.traffic).told.finding ≡ true →
    GivesNew Right v t
gives_none at v t c applied = grind arith

none_awaited : (put : List Value) (v : Value) (c : Course) → IsNotAwaited Right put v c.traffic
none_awaited put v c = grind arith

module _ (deeds : ℕ → Deeds) (is_live : ℕ → Bool) (put : List Value) (begun : Bool) (b at : ℕ) where
  abbrev Heard : List Value → Course → Type 0
  Heard coming c = AreHeard Right deeds is_live put begun at coming c

  then_up : (coming : List Value) (v : Value) (c : Course) (x : Bool) → is_applied (takes way.Left v c.traffic).told.finding ≡ x →
      Heard coming c → AreUpTo Right b c.sessions → AreUpTo Right b (unit_passes Left at v c).sessions
  then_up coming v c false none h up = subst (AreUpTo Right b) (sym (joins_none Left at v c none)) up
  then_up coming v c true applied h up = unit_up Right Left b at v c h.stand.places (grind arith) up

  pub record PacketHeard (coming vs : List Value) (c : Course) : Type 0 where
    pub all : Heard (coming ++ vs) (units_pass Left at vs c)
    pub up : AreUpTo Right b (units_pass Left at vs c).sessions
    pub below : AllByRecursion (IsBelow b) vs

  -- so all connections stand after these units
  pub units_heard : (vs coming : List Value) (c : Course) → AreFine Right at vs c → Heard coming c → AreUpTo Right b c.sessions →
      PacketHeard coming vs c
  units_heard [] coming c fine h up = grind (arith, append-nil)
  units_heard (v ∷ vs) coming c (one, more) h up =
      let after = one_heard Right deeds is_live put begun at coming c h v one (none_awaited put v c) (gives_none at v c.sessions c) in
      let next = units_heard vs (coming ++ v ∷ []) (unit_passes Left at v c) more after
      (then_up coming v c (is_applied (takes way.Left v c.traffic).told.finding) refl h up) in
      record {
        all = subst (λ (l : List Value). Heard l (units_pass Left at (v ∷ vs) c)) (append_assoc coming (v ∷ []) vs) next.all;
        up = next.up;
        below = (
          left_below b at c h.stand.places up (lost_known Right deeds is_live put begun at coming c h) v one.goes one.two one.on,
          next.below,
        );
      }
