use Rattle.osi_machine.proofs.Vocabulary.{arith, SeesTheHistory, GotWhatWasSaid}
use Rattle.osi_machine.proofs.promises.what_two_users_may_rely_on.{of_both, reached_stands, got_what_was_said, sees_the_history}
use Rattle.osi_machine.proofs.promises.what_two_users_may_rely_on.{views_agree}
use Rattle.osi_machine.proofs.laws.agreement.Goals as goal

pub returns-clause-history : goal.returns-clause-history
returns-clause-history c = of_both (assumption) SeesTheHistory sees_the_history

pub returns-clause-views : goal.returns-clause-views
returns-clause-views c w r = search (arith, views_agree, reached_stands)

pub returns-clause-duplex : goal.returns-clause-duplex
returns-clause-duplex c = of_both (assumption) GotWhatWasSaid got_what_was_said
