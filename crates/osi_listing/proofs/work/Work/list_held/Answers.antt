use Rattle.std.proofs.Common.{arith}
use Rattle.osi_listing.proofs.what_one_more_packet_adds.{moves_packet}
use Rattle.osi_listing.proofs.work.Work.list_held.Goals as goal

pub returns-clause-moves : goal.returns-clause-moves
returns-clause-moves c = grind (arith, moves_packet)
