use Rattle.osi_class.proofs.giving.when_nothing_is_given as nothing
use Rattle.osi_class.proofs.laws.when_nothing_comes.Goals as goal

pub returns-clause-class_0 : goal.returns-clause-class_0
returns-clause-class_0 c = nothing.class_0

pub returns-clause-class_2 : goal.returns-clause-class_2
returns-clause-class_2 c = nothing.class_2
