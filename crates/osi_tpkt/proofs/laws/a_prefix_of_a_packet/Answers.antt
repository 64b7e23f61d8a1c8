use Rattle.osi_tpkt.proofs.a_prefix_of_a_packet.{empty_partial, completed_partial, partial_not_whole}
use Rattle.osi_tpkt.proofs.laws.a_prefix_of_a_packet.Goals as goal

pub returns : goal.returns
returns c = record { nothing = empty_partial; front = completed_partial; proper = partial_not_whole }
