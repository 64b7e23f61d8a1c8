use Rattle.osi_judge.proofs.a_dt_is_judged_if_there_is_room.{kept_there}
use Rattle.std.proofs.Common.{arith}
use Rattle.osi_judge.proofs.connections.Connection.kept.Goals as goal

pub returns : goal.returns
returns c j h k = grind (arith, kept_there)
