use Rattle.osi_tpkt.proofs.a_stream_is_cut_in_one_way.{some_cut}
use Rattle.osi_tpkt.proofs.laws.a_stream_has_a_cut.Goals as goal

pub returns : goal.returns
returns c = some_cut
