use Rattle.osi_class.proofs.between.the_oldest_unit_can_be_taken.{oldest_in_class_0, oldest_in_class_2}
use Rattle.osi_class.proofs.laws.the_oldest_is_taken.Goals as goal

pub returns-clause-class_0 : goal.returns-clause-class_0
returns-clause-class_0 c = oldest_in_class_0

pub returns-clause-class_2 : goal.returns-clause-class_2
returns-clause-class_2 c = oldest_in_class_2
