use Rattle.osi_machine.specs.Promises.{TakesTheNextItem}
use Rattle.osi_machine.proofs.promises.what_two_users_may_rely_on.{of_both, takes_the_next_item}
use Rattle.osi_machine.proofs.laws.next_item.Goals as goal

pub returns : goal.returns
returns c = of_both (assumption) TakesTheNextItem (takes_the_next_item (assumption))
