use Rattle.osi_tpkt.proofs.no_packet_is_a_prefix_of_another.{written_packet, packet_reading}
use Rattle.osi_tpkt.proofs.packets.PacketUnit.laws.Goals as goal

pub returns-clause-is_spelled : goal.returns-clause-is_spelled
returns-clause-is_spelled c = written_packet

pub returns-clause-stands_alone : goal.returns-clause-stands_alone
returns-clause-stands_alone c v = tt

pub returns-clause-one_reading : goal.returns-clause-one_reading
returns-clause-one_reading c = packet_reading
