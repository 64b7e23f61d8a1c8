use Rattle.std.proofs.Common.{arith, rules}
use Rattle.osi_stack.proofs.stacks.Stack.held.Goals as goal

pub returns-in-Some-clause-over : goal.returns-in-Some-clause-over
returns-in-Some-clause-over c = grind (arith, rules)
