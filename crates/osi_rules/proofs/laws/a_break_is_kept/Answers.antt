use Rattle.osi_rules.proofs.a_break_is_noted.{breaks_are_noted}
use Rattle.osi_rules.proofs.laws.a_break_is_kept.Goals as goal

pub returns : goal.returns
returns c = breaks_are_noted
