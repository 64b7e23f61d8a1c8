use Rattle.osi_class.proofs.giving.tsdus_that_are_added_together.{many_moves, many_at_once}
use Rattle.osi_class.proofs.laws.many_go_as_one_by_one.Goals as goal

pub returns-clause-moves : goal.returns-clause-moves
returns-clause-moves c = many_moves

pub returns-clause-given : goal.returns-clause-given
returns-clause-given c = many_at_once
