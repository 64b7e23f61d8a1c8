use Rattle.osi_judge.proofs.Vocabulary.{List, length, units_left, Value, Course, OwesLast}
use Rattle.osi_judge.proofs.proceedings.pass_units.Given as goal

abbrev pub invariant-units : goal.invariant-units
invariant-units l = (vs : List Value) (c : Course) → OwesLast l.fn.proceedings l.direction l.at vs (units_left l.fn.units) c
    → OwesLast l.proceedings l.direction l.at vs (units_left l.units) c

abbrev pub decreases-units : goal.decreases-units
decreases-units l = length (units_left l.units)
