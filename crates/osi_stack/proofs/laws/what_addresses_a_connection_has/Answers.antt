use Rattle.osi_stack.proofs.Vocabulary.{arith, put_here, put_other}
use Rattle.osi_stack.proofs.opening.the_addresses_of_a_connection.{asked_known}
use Rattle.osi_stack.proofs.laws.what_addresses_a_connection_has.Goals as goal

pub returns : goal.returns
returns c = grind (arith, asked_known, put_here, put_other)
