use Rattle.std.proofs.Common.{arith}
use Rattle.osi_side.proofs.kept.a_session_is_sought_among_the_last.{here, nowhere, not_here, at_end}
use Rattle.osi_side.proofs.walked.one_more_session.{some_at}
use Rattle.osi_side.proofs.members.is_among.Goals as goal

pub returns-then-is_same_member-clause-explained : goal.returns-then-is_same_member-clause-explained
returns-then-is_same_member-clause-explained c = grind (arith, some_at)

pub returns-then-is_same_member-clause-value : goal.returns-then-is_same_member-clause-value
returns-then-is_same_member-clause-value c = grind (arith, here)

pub members-preserved : goal.members-preserved
members-preserved c = grind (arith, not_here)

pub members-init : goal.members-init
members-init c = grind (arith, at_end)

pub returns-clause-value : goal.returns-clause-value
returns-clause-value c = grind (arith, nowhere)
