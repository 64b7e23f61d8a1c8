use Rattle.std.proofs.Common.{arith}
use Rattle.osi_stack.proofs.carried.sessions_that_are_lost.{lost_step}
use Rattle.osi_stack.proofs.lines.lose_each.Goals as goal

pub loop-line-preserved : goal.loop-line-preserved
loop-line-preserved c = grind (arith, lost_step)
