use Rattle.osi_carrier.proofs.Vocabulary.{arith, drained_ends}
use Rattle.osi_carrier.proofs.links.write_keeping.Goals as goal

pub returns : goal.returns
returns c = grind (arith, drained_ends)

pub returns-then-write_headed : goal.returns-then-write_headed
returns-then-write_headed c = grind arith
