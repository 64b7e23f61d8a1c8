use Rattle.std.proofs.Common.{arith}
use Rattle.osi_c.proofs.what_is_fetched_of_a_judge.{none_of_transport}
use Rattle.osi_c.proofs.fetching.transport_due.Goals as goal

pub returns-in-None-clause-none : goal.returns-in-None-clause-none
returns-in-None-clause-none c = grind (arith, none_of_transport)
