use Rattle.std.proofs.Common.{arith}
use Rattle.osi_carrier.proofs.references.what_is_open.{not_open}
use Rattle.osi_carrier.proofs.switch.Switch.close.Goals as goal

pub returns-in_default-clause-refused : goal.returns-in_default-clause-refused
returns-in_default-clause-refused c = grind (arith, not_open)
