use Rattle.osi_tpkt.proofs.what_a_cutter_holds.{passing_runs}
use Rattle.osi_tpkt.proofs.laws.a_packet_passed_by_is_fed_and_dropped.Goals as goal

pub returns : goal.returns
returns c = passing_runs
