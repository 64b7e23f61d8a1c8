use Rattle.osi_class.proofs.giving.a_link_gives_finitely_many_units.{drained_none, drained_some, drained_ends, drained_moves}
use Rattle.osi_class.proofs.giving.a_link_gives_finitely_many_units.{drained_leaves}
use Rattle.osi_class.proofs.laws.all_is_given.Goals as goal

pub returns-clause-none : goal.returns-clause-none
returns-clause-none c = drained_none

pub returns-clause-some : goal.returns-clause-some
returns-clause-some c = drained_some

pub returns-clause-ends : goal.returns-clause-ends
returns-clause-ends c = drained_ends

pub returns-clause-moves : goal.returns-clause-moves
returns-clause-moves c = drained_moves

pub returns-clause-limit : goal.returns-clause-limit
returns-clause-limit c = λ s. (drained_leaves s).0

pub returns-clause-joining : goal.returns-clause-joining
returns-clause-joining c = λ s. (drained_leaves s).1

pub returns-clause-class : goal.returns-clause-class
returns-clause-class c = λ s. (drained_leaves s).2
