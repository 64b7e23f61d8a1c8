use Rattle.std.proofs.Common.{arith}
use Rattle.osi_judge.proofs.what_is_kept_of_a_side_is_what_passed.{found_at, room_at}
use Rattle.osi_judge.proofs.connections.Connection.finding.Goals as goal

pub returns-clause-found : goal.returns-clause-found
returns-clause-found c j h = grind (arith, found_at)

pub returns-clause-room : goal.returns-clause-room
returns-clause-room c j h = grind (arith, room_at)
