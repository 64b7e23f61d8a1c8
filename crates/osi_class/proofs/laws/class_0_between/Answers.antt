use Rattle.osi_class.proofs.between.units_are_of_one_class.{zero_begins, zero_turns}
use Rattle.osi_class.proofs.laws.class_0_between.Goals as goal

pub returns-clause-begins : goal.returns-clause-begins
returns-clause-begins c = zero_begins

pub returns-clause-kept : goal.returns-clause-kept
returns-clause-kept c = zero_turns
