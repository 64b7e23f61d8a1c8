use Rattle.std.proofs.Common.{arith}
use Rattle.osi_carrier.proofs.stream.how_calls_end_a_carrier.{pieces_last, pieces_end}
use Rattle.osi_carrier.proofs.stream.a_carrier_does_what_its_packets_do.{calls_read, pieces_alike}
use Rattle.osi_carrier.proofs.laws.the_pieces_do_not_matter.Goals as goal

pub returns : goal.returns
returns c = search (arith, calls_read, pieces_last, pieces_end, pieces_alike)
