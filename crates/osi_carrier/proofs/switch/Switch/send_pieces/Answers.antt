use Rattle.std.proofs.Common.{arith}
use Rattle.osi_carrier.proofs.references.what_is_open.{not_open}
use Rattle.osi_carrier.proofs.effects.units_one_after_the_other.{none_of}
use Rattle.osi_carrier.proofs.written.tsdus_that_are_sent_together.{sent_open}
use Rattle.osi_carrier.proofs.switch.Switch.send_pieces.Goals as goal

pub returns-in_default-clause-refused : goal.returns-in_default-clause-refused
returns-in_default-clause-refused c = grind (arith, not_open)

pub returns-clause-ok : goal.returns-clause-ok
returns-clause-ok c = grind (arith, none_of, sent_open)
