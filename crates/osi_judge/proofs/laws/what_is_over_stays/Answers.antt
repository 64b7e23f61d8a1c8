use Rattle.osi_judge.proofs.what_is_over_stays.{over_stays}
use Rattle.osi_judge.proofs.laws.what_is_over_stays.Goals as goal

pub returns : goal.returns
returns c = over_stays
