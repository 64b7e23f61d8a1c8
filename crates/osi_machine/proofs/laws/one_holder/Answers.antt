use Rattle.osi_machine.proofs.Vocabulary.{arith, HoldsItsOwn}
use Rattle.osi_machine.proofs.promises.what_two_users_may_rely_on.{of_both, reached_stands, holds_its_own, one_holder}
use Rattle.osi_machine.proofs.laws.one_holder.Goals as goal

pub returns-clause-both : goal.returns-clause-both
returns-clause-both c w r = search (arith, one_holder, reached_stands)

pub returns-clause-own : goal.returns-clause-own
returns-clause-own c = of_both (assumption) HoldsItsOwn holds_its_own
