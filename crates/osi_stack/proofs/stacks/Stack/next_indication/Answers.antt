use Rattle.osi_stack.proofs.Vocabulary.{Rows, IsSettled, Line, holding, sym, subst}
use Rattle.osi_stack.proofs.stacks.Stack.next_indication.Goals as goal

pub invariant_of-self : goal.invariant_of-self
invariant_of-self c =
    subst (λ (l : Rows Line). IsSettled (holding c.self.inside.carrier l).end) (sym c.next.ensures.rest)
    (c.an_end_is_settled_between_calls.ensures.shown (holding c.self.inside.carrier c.self.inside.lines).end c.self.invariant)
