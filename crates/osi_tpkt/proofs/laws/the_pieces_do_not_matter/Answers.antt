use Rattle.osi_tpkt.proofs.the_packets_are_those_of_the_stream.{any_run, any_run_on, runs_joined}
use Rattle.osi_tpkt.proofs.laws.the_pieces_do_not_matter.Goals as goal

pub returns : goal.returns
returns c = record { new = any_run; any = any_run_on; joined = runs_joined }
