use Rattle.osi_witness.proofs.a_run_is_told_of_each_side.{TracedUpTo}
use Rattle.osi_witness.proofs.captures.trace_each.Given as goal

abbrev pub invariant-conversations : goal.invariant-conversations
invariant-conversations l = TracedUpTo l.conversation-index l.fn.conversations.items l.conversation-items
