use Rattle.osi_rules.proofs.a_stop_is_said.{stops_are_said}
use Rattle.osi_rules.proofs.laws.a_stop_is_said.Goals as goal

pub returns : goal.returns
returns c = stops_are_said
