use Rattle.osi_spdu.proofs.parameters.a_group_is_counted_once.{none_held}
use Rattle.osi_spdu.proofs.writing.GroupLengths.none.Goals as goal

pub returns-clause-value : goal.returns-clause-value
returns-clause-value c = none_held _ c.requires
