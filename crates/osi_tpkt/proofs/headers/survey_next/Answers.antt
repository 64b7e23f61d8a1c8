use Rattle.std.proofs.Common.{arith}
use Rattle.osi_tpkt.proofs.a_prefix_of_a_packet.{part_front, part_whole, version_of}
use Rattle.osi_tpkt.proofs.headers.survey_next.Goals as goal

pub returns-clause-front : goal.returns-clause-front
returns-clause-front c = grind (arith, part_front, version_of)

pub returns-clause-whole : goal.returns-clause-whole
returns-clause-whole c = grind (arith, part_whole)
