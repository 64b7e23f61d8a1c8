-- The class that right's CC selects stays as units of left pass.
-- For the law on a whole end.
use Rattle.osi_blameless.proofs.transport.Vocabulary.{arith, ◌≡◌, Value, reach_of, class_for, none_told, Outcome, reached, Traffic as State}
use Rattle.osi_blameless.proofs.transport.Vocabulary.{takes, Course}
use Rattle.osi_blameless.proofs.transport.Vocabulary.{Left, Finding, Reach}

reached_class : (r : Reach) (c : Course) → (reached Left r c).class ≡ c.class
reached_class r c = grind arith

abbrev pub KeepsClass : State → Outcome → Type 0
KeepsClass s o = o.state.course.class ≡ s.course.class

to_none : (f : Finding) (s : State) → KeepsClass s (none_told Left f s)
to_none f s = reached_class (reach_of (class_for Left s.course) f) s.course

pub left_class : (v : Value) (s : State) → (takes Left v s).state.course.class ≡ s.course.class
left_class v s = grind (arith, to_none)
