use Rattle.std.proofs.Common.{arith}
use Rattle.osi_carrier.proofs.written.the_length_of_a_unit.{written_least, written_most}
use Rattle.osi_carrier.proofs.writing.put.Goals as goal

pub unreachable-requires : goal.unreachable-requires
unreachable-requires c = grind (arith, written_least, written_most)
