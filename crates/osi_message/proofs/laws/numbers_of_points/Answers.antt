use Rattle.osi_message.proofs.numbers_are_those_of_points.{meant_numbered, units_numbered}
use Rattle.osi_message.proofs.laws.numbers_of_points.Goals as goal

pub returns-clause-message : goal.returns-clause-message
returns-clause-message c = meant_numbered

pub returns-clause-units : goal.returns-clause-units
returns-clause-units c = units_numbered
