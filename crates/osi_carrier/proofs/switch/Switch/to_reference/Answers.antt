use Rattle.osi_carrier.proofs.Vocabulary.{grows, arith}
use Rattle.osi_carrier.proofs.references.the_row_at_a_place.{nowhere}
use Rattle.osi_carrier.proofs.switch.Switch.to_reference.Goals as goal

pub returns-in_default-clause-ok : goal.returns-in_default-clause-ok
returns-in_default-clause-ok c = grind (arith, nowhere)

pub returns-in_default-clause-needs : goal.returns-in_default-clause-needs
returns-in_default-clause-needs c = grind (arith, nowhere, grows)
