use Rattle.osi_pair.proofs.packet.a_packet_is_taken.{untold_at}
use Rattle.osi_pair.proofs.packets.what_an_untold_packet_does.Goals as goal

pub returns : goal.returns
returns c = untold_at (assumption)
