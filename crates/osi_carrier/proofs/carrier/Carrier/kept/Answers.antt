use Rattle.std.proofs.Common.{arith}
use Rattle.osi_carrier.proofs.stream.what_is_kept_of_the_input.{partial_short}
use Rattle.osi_carrier.proofs.carrier.Carrier.kept.Goals as goal

pub overflow_add-result : goal.overflow_add-result
overflow_add-result c = grind (arith, partial_short)

pub returns-clause-at_most : goal.returns-clause-at_most
returns-clause-at_most c = grind (arith, partial_short)
