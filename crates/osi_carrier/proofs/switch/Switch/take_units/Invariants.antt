use Rattle.osi_carrier.proofs.Vocabulary.{length, units_left}
use Rattle.osi_carrier.proofs.effects.units_one_after_the_other.{IsAlong}
use Rattle.osi_carrier.proofs.switch.Switch.take_units.Given as goal

abbrev pub invariant-units : goal.invariant-units
invariant-units l = IsAlong l.fn.self (units_left l.fn.units) l.self (units_left l.units)

abbrev pub decreases-units : goal.decreases-units
decreases-units l = length (units_left l.units)
