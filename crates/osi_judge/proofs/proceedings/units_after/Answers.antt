use Rattle.osi_judge.proofs.Vocabulary.{arith}
use Rattle.osi_judge.proofs.what_a_packet_still_owes.{drop_given}
use Rattle.osi_judge.proofs.proceedings.units_after.Goals as goal

pub skipped-preserved : goal.skipped-preserved
skipped-preserved c = grind (arith, drop_given)

pub returns : goal.returns
returns c = grind arith
