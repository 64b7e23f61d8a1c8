use Rattle.std.proofs.Common.{arith}
use Rattle.osi_carrier.proofs.references.the_row_at_a_place.{here_is}
use Rattle.osi_carrier.proofs.rows.Connections.phase.Goals as goal

pub returns : goal.returns
returns c = grind (arith, here_is)
