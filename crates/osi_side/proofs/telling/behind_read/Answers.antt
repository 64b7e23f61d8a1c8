use Rattle.std.proofs.Common.{arith}
use Rattle.osi_message.specs.Reading.{said_at}
use Rattle.osi_side.proofs.walked.sessions_after_a_unit.{unread_came}
use Rattle.osi_side.proofs.kept.all_sessions_are_walked_from.{if_ok_as}
use Rattle.osi_side.proofs.telling.behind_read.Goals as goal

pub returns-in-Err-clause-explains : goal.returns-in-Err-clause-explains
unfolding said_at
returns-in-Err-clause-explains c = grind (arith, unread_came)

pub returns-in-Err-clause-value : goal.returns-in-Err-clause-value
unfolding said_at
returns-in-Err-clause-value c = grind arith

pub returns-in-Ok-clause-value : goal.returns-in-Ok-clause-value
unfolding said_at
returns-in-Ok-clause-value c = grind (arith, if_ok_as)
