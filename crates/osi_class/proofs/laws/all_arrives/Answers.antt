use Rattle.osi_class.proofs.between.what_was_handed_in_comes_out.{quiet_arrived, quiet_unsent, nothing_begun, nothing_between}
use Rattle.osi_class.proofs.laws.all_arrives.Goals as goal

pub returns-clause-handed : goal.returns-clause-handed
returns-clause-handed c = quiet_arrived

pub returns-clause-unsent : goal.returns-clause-unsent
returns-clause-unsent c = quiet_unsent

pub returns-clause-begun : goal.returns-clause-begun
returns-clause-begun c = nothing_begun

pub returns-clause-under_way : goal.returns-clause-under_way
returns-clause-under_way c = nothing_between
