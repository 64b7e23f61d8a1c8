use Rattle.osi_blameless.proofs.transport.by_line.an_end_is_fair_in_class_2.{gone}
use Rattle.osi_blameless.proofs.laws.transport.a_dr_for_what_is_gone_closed_nothing.Goals as goal

pub returns : goal.returns
returns c = gone
