use Rattle.osi_stack.proofs.Vocabulary.{map-append, State as Carrier, arith, sym, ap}
use Rattle.osi_stack.proofs.carried.data_is_indicated_where_it_lies.{came_data, shown_line, straight_needs}
use Rattle.osi_stack.proofs.lines.Line.receive.Goals as goal
use Rattle.osi_stack.proofs.called.tsdus_that_are_handed_together.{hands_none}

pub returns-in-Ok-reserve-clause-ok : goal.returns-in-Ok-reserve-clause-ok
returns-in-Ok-reserve-clause-ok c = grind (arith, came_data, shown_line, map-append)

pub returns-in-Ok-reserve-clause-carrier : goal.returns-in-Ok-reserve-clause-carrier
returns-in-Ok-reserve-clause-carrier c = ap (λ (x : Carrier). record c.args.carrier.now { state = x }) (sym (search (arith, hands_none)))

pub returns-in_default-reserve-clause-needed : goal.returns-in_default-reserve-clause-needed
returns-in_default-reserve-clause-needed c = grind (arith, came_data, straight_needs)
