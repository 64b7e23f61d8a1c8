use Rattle.osi_class.proofs.giving.what_calls_send.{kept, all}
use Rattle.osi_class.proofs.laws.what_is_sent.Goals as goal

pub returns-clause-kept : goal.returns-clause-kept
returns-clause-kept c old new moves run = kept old new moves run

pub returns-clause-all : goal.returns-clause-all
returns-clause-all c old new moves run nothing = all old new moves run nothing
