use Rattle.osi_blameless.proofs.accord.what_may_be_said_is_called.{called_as}
use Rattle.osi_blameless.proofs.laws.accord.what_may_be_said_is_called.Goals as goal

pub returns : goal.returns
returns c = called_as
