-- A unit that has no effect joins nothing: it broke a rule, or nothing more is judged, or it is one connection too many.
-- For the session of each connection of an end, once nothing more is judged.
use Rattle.osi_blameless.proofs.Vocabulary.{ap, false, Option, ℕ, ◌≡◌, Value, is_applied, reach_of, at_place, class_for, none_told, Outcome}
use Rattle.osi_blameless.proofs.Vocabulary.{routed, Traffic as State, takes, Finding, TooMany, Route, Direction, Sessions, taken}
use Rattle.osi_blameless.proofs.Vocabulary.{unit_passes, way_of, set_same, arith, Course}
use Rattle.osi_rules.specs.declared.findings.Reach.TheVariants as reach
use Rattle.osi_blameless.proofs.shown.connections_have_the_same_places.{unit_joins}

-- ---- nothing is joined

abbrev JoinsNone : Direction → (at : ℕ) → Value → Sessions → Outcome → Type 0
JoinsNone d at v t o = is_applied o.told.finding ≡ false → taken d at v o.told.meaning o.told.place t ≡ t

module _ (d : Direction) (at : ℕ) (v : Value) (s : State) (t : Sessions) where
  place_none : (o : Option ℕ) → JoinsNone d at v t (at_place (way_of d) v s o)
  place_none o h = grind (arith, set_same)

routed_none : (d : Direction) (at : ℕ) (v : Value) (s : State) (t : Sessions) (r : Route) → JoinsNone d at v t (routed (way_of d) v s r)
routed_none d at v s t r h = search (arith, place_none)

-- what was found of the unit is that it has no effect
pub joins_none : (d : Direction) (at : ℕ) (v : Value) (c : Course) → is_applied (takes (way_of d) v c.traffic).told.finding ≡ false →
    (unit_passes d at v c).sessions ≡ c.sessions
joins_none d at v c h = grind (arith, unit_joins, routed_none)

-- ---- one connection too many: nobody is judged after it

abbrev EndsAll : Outcome → Type 0
EndsAll o = o.told.finding ≡ TooMany → o.told.reach ≡ reach.Everything

module _ (d : Direction) (v : Value) (s : State) where
  none_ends : (f : Finding) (t : State) → EndsAll (none_told (way_of d) f t)
  none_ends f t h = ap (reach_of (class_for (way_of d) t.course)) h

  place_ends : (o : Option ℕ) → EndsAll (at_place (way_of d) v s o)
  place_ends o h = grind arith

pub too_many_ends : (d : Direction) (v : Value) (s : State) → (takes (way_of d) v s).told.finding ≡ TooMany →
    (takes (way_of d) v s).told.reach ≡ reach.Everything
too_many_ends d v s h = grind (arith, place_ends, none_ends)
