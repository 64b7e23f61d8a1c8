use Rattle.osi_tpkt.proofs.no_packet_is_a_prefix_of_another.{one_packet}
use Rattle.osi_tpkt.proofs.laws.no_packet_begins_another.Goals as goal

pub returns : goal.returns
returns c = one_packet
