use Rattle.std.proofs.Common.{arith}
use Rattle.osi_judge.proofs.a_unit_changes_one_finding.{lines_stay}
use Rattle.osi_judge.proofs.sessions.mean.Goals as goal

pub returns-in-Opens-clause-other : goal.returns-in-Opens-clause-other
returns-in-Opens-clause-other c = grind (arith, lines_stay)

pub returns-in-Closes-clause-other : goal.returns-in-Closes-clause-other
returns-in-Closes-clause-other c = grind (arith, lines_stay)
