use Rattle.osi_class.proofs.bounds.numbers_and_their_counts.{next_number, earlier_number, steps_between}
use Rattle.osi_class.proofs.laws.numbers_are_counts.Goals as goal

pub returns-clause-next : goal.returns-clause-next
returns-clause-next c = next_number

pub returns-clause-earlier : goal.returns-clause-earlier
returns-clause-earlier c = earlier_number

pub returns-clause-between : goal.returns-clause-between
returns-clause-between c = steps_between
