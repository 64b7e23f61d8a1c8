use Rattle.osi_stack.proofs.Vocabulary.{rules, filter_same}
use Rattle.osi_stack.proofs.lines.drop_unused.Goals as goal

pub returns : goal.returns
returns c = filter_same _ _ _ (λ x b f' k. search rules) _ _ c.retain.ensures.filtered
