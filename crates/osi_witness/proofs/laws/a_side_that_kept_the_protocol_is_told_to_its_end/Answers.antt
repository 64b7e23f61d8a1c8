use Rattle.osi_witness.proofs.a_run_is_told_of_each_side.{told_to_its_end}
use Rattle.osi_witness.proofs.laws.a_side_that_kept_the_protocol_is_told_to_its_end.Goals as goal

pub returns : goal.returns
returns c = told_to_its_end
