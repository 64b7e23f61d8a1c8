use Rattle.osi_rules.proofs.a_unit_changes_one_connection.{others_stay}
use Rattle.osi_rules.proofs.laws.a_unit_changes_one_connection.Goals as goal

pub returns : goal.returns
returns c = others_stay
