use Rattle.std.proofs.Common.{arith}
use Rattle.osi_stack.proofs.sound.the_invariant_between_calls.{over_is, none_at}
use Rattle.osi_stack.proofs.laws.a_call_of_a_settled_end_is_answered_by_its_session.Goals as goal
use Rattle.osi_stack.proofs.called.the_result_is_that_of_the_table.{answered_is}

pub returns : goal.returns
returns c = grind (arith, answered_is, none_at, over_is)
