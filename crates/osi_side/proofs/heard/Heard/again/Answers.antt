use Rattle.std.proofs.Common.{arith}
use Rattle.osi_side.proofs.outlined.equal_tsdus_in_a_row_are_kept_once.{last_goes_on, once_more}
use Rattle.osi_side.proofs.heard.Heard.again.Goals as goal

pub invariant_of-self : goal.invariant_of-self
invariant_of-self c = grind (arith, last_goes_on)

pub returns-clause-same : goal.returns-clause-same
returns-clause-same c = grind (arith, once_more)
