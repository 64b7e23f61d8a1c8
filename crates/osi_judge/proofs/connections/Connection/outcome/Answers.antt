use Rattle.std.proofs.Common.{arith}
use Rattle.osi_judge.proofs.what_is_told_of_a_connection.{broke_says, left_says}
use Rattle.osi_judge.proofs.connections.Connection.outcome.Goals as goal

pub returns-in-Broke : goal.returns-in-Broke
returns-in-Broke c = grind (arith, broke_says)

pub returns-in-Left : goal.returns-in-Left
returns-in-Left c = grind (arith, left_says)
