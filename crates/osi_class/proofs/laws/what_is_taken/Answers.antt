use Rattle.osi_class.proofs.bounds.what_a_call_preserves.{takes_run}
use Rattle.osi_class.proofs.bounds.what_calls_take.{all}
use Rattle.osi_class.proofs.laws.what_is_taken.Goals as goal

pub returns-clause-kept : goal.returns-clause-kept
returns-clause-kept c old new moves later run = takes_run old new moves later run

pub returns-clause-all : goal.returns-clause-all
returns-clause-all c old new moves run none_whole none_begun = all old new moves run none_whole none_begun
