use Rattle.osi_judge.proofs.Vocabulary.{◌≡◌, drop, units_left}
use Rattle.osi_judge.proofs.proceedings.units_after.Given as goal

abbrev pub invariant-skipped : goal.invariant-skipped
invariant-skipped l = drop l.passed (units_left l.units) ≡ drop l.fn.passed (units_left l.fn.units)

abbrev pub decreases-skipped : goal.decreases-skipped
decreases-skipped l = l.passed
