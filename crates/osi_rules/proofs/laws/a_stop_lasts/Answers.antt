use Rattle.osi_rules.proofs.a_stop_is_said.{stops_last}
use Rattle.osi_rules.proofs.laws.a_stop_lasts.Goals as goal

pub returns : goal.returns
returns c = stops_last
