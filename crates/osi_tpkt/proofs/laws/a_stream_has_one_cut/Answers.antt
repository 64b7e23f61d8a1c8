use Rattle.osi_tpkt.proofs.a_stream_is_cut_in_one_way.{one_cut, one_list}
use Rattle.osi_tpkt.proofs.laws.a_stream_has_one_cut.Goals as goal

pub returns : goal.returns
returns c = record { packets = one_list; cut = one_cut }
