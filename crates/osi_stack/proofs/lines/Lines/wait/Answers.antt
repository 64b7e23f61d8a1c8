use Rattle.osi_stack.proofs.each_line.how_many_lines_wait.{waits_counted}
use Rattle.osi_stack.proofs.lines.Lines.wait.Goals as goal
use Rattle.std.proofs.Common.{arith}

pub returns : goal.returns
returns c = grind (arith, waits_counted)
