use Rattle.osi_side.proofs.told.a_session_stands_in_one_way.{one_stands}
use Rattle.osi_side.proofs.told.no_session_is_before_the_one_that_is_told.{foremost_is, nearest_is}
use Rattle.osi_side.proofs.laws.a_side_is_told_by_one_session.Goals as goal

pub returns-clause-foremost : goal.returns-clause-foremost
returns-clause-foremost c = foremost_is

pub returns-clause-nearest : goal.returns-clause-nearest
returns-clause-nearest c = nearest_is

pub returns-clause-stands : goal.returns-clause-stands
returns-clause-stands c = one_stands
