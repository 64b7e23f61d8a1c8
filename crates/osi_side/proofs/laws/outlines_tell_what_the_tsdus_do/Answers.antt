use Rattle.osi_side.proofs.outlined.a_rule_of_outlines_is_one_of_tsdus.{rule_of_tsdus, stands_of_outlines}
use Rattle.osi_side.proofs.laws.outlines_tell_what_the_tsdus_do.Goals as goal

pub returns-clause-stands : goal.returns-clause-stands
returns-clause-stands c = stands_of_outlines

pub returns-clause-rule : goal.returns-clause-rule
returns-clause-rule c = rule_of_tsdus
