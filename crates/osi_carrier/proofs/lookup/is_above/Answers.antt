use Rattle.osi_carrier.proofs.Vocabulary.{arith, nat_tests}
use Rattle.osi_carrier.proofs.references.rows_in_order.{rise_last}
use Rattle.osi_carrier.proofs.lookup.is_above.Goals as goal

pub returns : goal.returns
returns g c = grind (arith, nat_tests, rise_last)
