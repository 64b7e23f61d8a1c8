use Rattle.osi_stack.proofs.Vocabulary.{carried, holding, arith, rules}
use Rattle.osi_stack.proofs.stacks.Stack.taken.Goals as goal

pub invariant_of-self : goal.invariant_of-self
invariant_of-self c =
    let old = holding c.self.inside.carrier c.self.inside.lines in
    grind (arith, rules, c.an_end_is_settled_between_calls.ensures.carried c.args.octets old.end c.self.invariant)
