use Rattle.osi_pair.proofs.call.a_request_is_the_machines.{connect_at}
use Rattle.osi_pair.proofs.call.a_call_is_the_machines.{call_at}
use Rattle.osi_pair.proofs.standing.how_two_ends_are_called.Goals as goal

pub returns-clause-calls : goal.returns-clause-calls
returns-clause-calls c = call_at (assumption)

pub returns-clause-connects : goal.returns-clause-connects
returns-clause-connects c = connect_at (assumption)
