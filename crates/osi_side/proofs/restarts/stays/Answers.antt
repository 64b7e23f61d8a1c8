use Rattle.std.proofs.Common.{arith}
use Rattle.osi_side.proofs.kept.two_sessions_are_compared.{seen_told}
use Rattle.osi_side.proofs.restarts.stays.Goals as goal

pub returns-in-Some-clause-value : goal.returns-in-Some-clause-value
returns-in-Some-clause-value c = grind (arith, seen_told)
