use Rattle.osi_carrier.proofs.effects.a_unit_touches_one_connection.{changes_one}
use Rattle.osi_carrier.proofs.laws.a_unit_changes_one_connection.Goals as goal

pub returns : goal.returns
returns c = changes_one
