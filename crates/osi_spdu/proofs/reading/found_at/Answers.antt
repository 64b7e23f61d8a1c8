use Rattle.std.proofs.Common.{arith}
use Rattle.osi_spdu.proofs.tsdu.how_reading_goes_on.{found_formed}
use Rattle.osi_spdu.proofs.reading.found_at.Goals as goal

pub returns-clause-formed : goal.returns-clause-formed
returns-clause-formed c = grind (arith, found_formed)
