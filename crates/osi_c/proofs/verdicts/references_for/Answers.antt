use Rattle.std.proofs.Common.{arith}
use Rattle.osi_c.proofs.verdicts.references_for.Goals as goal

pub returns : goal.returns
returns c = grind arith
