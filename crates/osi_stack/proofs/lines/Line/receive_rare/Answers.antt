use Rattle.std.proofs.Common.{arith}
use Rattle.osi_stack.proofs.carried.sessions_that_are_lost.{lost_line}
use Rattle.osi_stack.proofs.lines.Line.receive_rare.Goals as goal

pub returns-in_default-handle_tsdu-clause-lost : goal.returns-in_default-handle_tsdu-clause-lost
returns-in_default-handle_tsdu-clause-lost c = grind (arith, lost_line)
