use Rattle.osi_rules.proofs.an_er_after_a_break_is_no_break.{is_no_break}
use Rattle.osi_rules.proofs.laws.an_er_after_a_break_is_no_break.Goals as goal

pub returns : goal.returns
returns c = is_no_break
