-- A unit that is no CC leaves the class that is selected on a byte connection, or that none is.
-- For a called end that has selected no class yet.
use Rattle.osi_blameless.proofs.Vocabulary.{Option, ℕ, ◌≡◌, Value, at_place, routed, Traffic as State, takes, Way as Direction}
use Rattle.osi_blameless.proofs.Vocabulary.{Route, reached_class, arith, IsNoCc}
use Rattle.osi_blameless.proofs.transport.requests.left_selects_no_class.{KeepsClass as Keeps}

module _ (d : Direction) where
  place_keeps : (v : Value) (s : State) (o : Option ℕ) → IsNoCc v → Keeps s (at_place d v s o)
  place_keeps v s o h = grind (arith, reached_class)

  routed_keeps : (v : Value) (s : State) (r : Route) → IsNoCc v → Keeps s (routed d v s r)
  routed_keeps v s r h = search (arith, reached_class, place_keeps)

  pub selects_none : (v : Value) (s : State) → IsNoCc v → (takes d v s).state.course.class ≡ s.course.class
  selects_none v s h = grind (arith, routed_keeps)
