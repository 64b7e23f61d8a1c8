use Rattle.osi_tpkt.proofs.the_packets_are_those_of_the_stream.{packets_joined, packets_parted}
use Rattle.osi_tpkt.proofs.laws.packets_follow_one_another.Goals as goal

pub returns : goal.returns
returns c = record { joined = packets_joined; parted = packets_parted }
