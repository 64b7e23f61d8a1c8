use Rattle.osi_blameless.proofs.transport.requests.a_new_reference_is_not_in_use.{next_is_new, next_is_right}
use Rattle.osi_blameless.proofs.laws.transport.a_new_reference_is_not_in_use.Goals as goal

pub returns-clause-unused : goal.returns-clause-unused
returns-clause-unused c = λ local acts passings r rest e. (next_is_new local acts passings r rest e).0

pub returns-clause-judged : goal.returns-clause-judged
returns-clause-judged c = λ local acts passings r rest e. (next_is_new local acts passings r rest e).1

pub returns-clause-right : goal.returns-clause-right
returns-clause-right c = next_is_right
