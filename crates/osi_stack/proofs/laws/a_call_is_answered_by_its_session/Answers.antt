use Rattle.std.proofs.Common.{arith}
use Rattle.osi_stack.proofs.called.the_result_is_that_of_the_table.{answered_is}
use Rattle.osi_stack.proofs.laws.a_call_is_answered_by_its_session.Goals as goal

pub returns : goal.returns
returns c = grind (arith, answered_is)
