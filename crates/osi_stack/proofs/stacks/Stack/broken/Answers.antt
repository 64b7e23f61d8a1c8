use Rattle.std.proofs.Common.{arith, rules}
use Rattle.osi_stack.proofs.stacks.Stack.broken.Goals as goal

pub invariant_of-self : goal.invariant_of-self
invariant_of-self c = grind (arith, rules)
