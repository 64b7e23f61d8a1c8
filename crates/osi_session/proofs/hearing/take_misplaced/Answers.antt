use Rattle.osi_session.proofs.Vocabulary.{arith}
use Rattle.osi_session.proofs.tsdu.the_verdict_while_joining.{misplaced_stays, misplaced_turns, misplaced_loud}
use Rattle.osi_session.proofs.hearing.take_misplaced.Goals as goal

pub returns-in_err-reaction : goal.returns-in_err-reaction
returns-in_err-reaction c = grind (arith, misplaced_loud)

pub returns-then-is_discarded : goal.returns-then-is_discarded
returns-then-is_discarded c = grind (arith, misplaced_stays)

pub returns : goal.returns
returns c = grind (arith, misplaced_turns)
