use Rattle.std.proofs.Common.{arith, rules}
use Rattle.osi_stack.proofs.each_line.references_rise.{rise_used}
use Rattle.osi_stack.proofs.lines.Lines.sweep.Goals as goal

pub invariant_of-self : goal.invariant_of-self
invariant_of-self c = grind (arith, rules, rise_used)
