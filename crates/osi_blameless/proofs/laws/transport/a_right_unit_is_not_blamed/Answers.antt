use Rattle.osi_blameless.proofs.transport.names.a_right_unit_is_not_blamed.{right_not_blamed}
use Rattle.osi_blameless.proofs.laws.transport.a_right_unit_is_not_blamed.Goals as goal

pub returns : goal.returns
returns c = right_not_blamed
