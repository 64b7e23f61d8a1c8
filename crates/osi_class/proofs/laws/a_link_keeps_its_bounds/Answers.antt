use Rattle.osi_class.proofs.bounds.every_link_keeps_its_bounds.{zero_begins, two_begins, move_sound, move_same}
use Rattle.osi_class.proofs.laws.a_link_keeps_its_bounds.Goals as goal

pub returns-clause-class_0 : goal.returns-clause-class_0
returns-clause-class_0 c = zero_begins

pub returns-clause-class_2 : goal.returns-clause-class_2
returns-clause-class_2 c = two_begins

pub returns-clause-kept : goal.returns-clause-kept
returns-clause-kept c = move_sound

pub returns-clause-limit : goal.returns-clause-limit
returns-clause-limit c = λ move old new e. (move_same move old new e).0

pub returns-clause-class : goal.returns-clause-class
returns-clause-class c = λ move old new e. (move_same move old new e).1
