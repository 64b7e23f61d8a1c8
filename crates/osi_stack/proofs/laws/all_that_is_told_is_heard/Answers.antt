use Rattle.std.proofs.Common.{arith}
use Rattle.osi_stack.proofs.carried.all_events_are_handled.{session_attended, connect_attended, breaks_attended, feeds_attended}
use Rattle.osi_stack.proofs.given_up.the_invariant_stays.{disconnect_attended}
use Rattle.osi_stack.proofs.laws.all_that_is_told_is_heard.Goals as goal

pub returns : goal.returns
returns c = grind (arith, connect_attended, session_attended, feeds_attended, disconnect_attended, breaks_attended)
