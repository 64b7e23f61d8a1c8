use Rattle.std.proofs.Common.{arith}
use Rattle.osi_message.proofs.units_of_the_fast_path.{said_plain}
use Rattle.osi_message.proofs.plain.PlainUnit.read.Goals as goal

pub returns-clause-said : goal.returns-clause-said
returns-clause-said c = grind (arith, said_plain)
