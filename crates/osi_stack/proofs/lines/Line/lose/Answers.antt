use Rattle.std.proofs.Common.{arith}
use Rattle.osi_stack.proofs.carried.sessions_that_are_lost.{lost_line}
use Rattle.osi_stack.proofs.lines.Line.lose.Goals as goal

pub returns : goal.returns
returns c = grind (arith, lost_line)
