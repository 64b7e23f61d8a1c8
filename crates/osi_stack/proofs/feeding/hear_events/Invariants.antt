use Rattle.osi_stack.proofs.Vocabulary.{length, holding}
use Rattle.osi_stack.proofs.carried.events_one_after_the_other.{HasHeard}
use Rattle.osi_stack.proofs.feeding.hear_events.Given as goal

abbrev pub invariant-events : goal.invariant-events
invariant-events l = HasHeard (holding l.initial.carrier l.initial.lines) (holding l.carrier l.lines)

abbrev pub decreases-events : goal.decreases-events
decreases-events l = length l.carrier.state.events
