use Rattle.osi_stack.proofs.Vocabulary.{length, holding}
use Rattle.osi_stack.proofs.stream.a_piece_look_by_look.{IsRead}
use Rattle.osi_stack.proofs.feeding.feed_to_indication.Given as goal

abbrev pub invariant-packets : goal.invariant-packets
invariant-packets l = IsRead (holding l.fn.carrier l.fn.lines) l.fn.piece (holding l.carrier l.lines) l.rest

abbrev pub decreases-packets : goal.decreases-packets
decreases-packets l = length l.rest
