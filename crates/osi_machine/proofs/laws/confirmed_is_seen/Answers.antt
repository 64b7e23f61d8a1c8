use Rattle.osi_machine.specs.Promises.{ConfirmedIsSeen}
use Rattle.osi_machine.proofs.promises.what_two_users_may_rely_on.{of_both, confirmed_is_seen}
use Rattle.osi_machine.proofs.laws.confirmed_is_seen.Goals as goal

pub returns : goal.returns
returns c = of_both (assumption) ConfirmedIsSeen confirmed_is_seen
