use Rattle.osi_machine.specs.Promises.{TakesNoFault}
use Rattle.osi_machine.proofs.promises.what_two_users_may_rely_on.{of_both, takes_no_fault}
use Rattle.osi_machine.proofs.laws.no_fault.Goals as goal

pub returns : goal.returns
returns c = of_both (assumption) TakesNoFault takes_no_fault
