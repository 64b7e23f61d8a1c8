use Rattle.osi_blameless.proofs.transport.by_place.an_end_is_fair.{end_is_fair}
use Rattle.osi_blameless.proofs.transport.by_place.an_end_is_fair_in_class_0.{fair_in_class_0}
use Rattle.osi_blameless.proofs.laws.transport.a_called_end_is_fair.Goals as goal

pub returns-clause-judged : goal.returns-clause-judged
returns-clause-judged c = end_is_fair

pub returns-clause-in_class_0 : goal.returns-clause-in_class_0
returns-clause-in_class_0 c local events w unit rest along begun put judged firm =
    fair_in_class_0 local events w unit rest along begun put judged
