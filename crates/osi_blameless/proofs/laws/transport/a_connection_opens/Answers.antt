use Rattle.osi_blameless.proofs.transport.lines.how_a_connection_opens.{asked_so, opens_by_the_cc_that_it_puts, opens_by_the_cc_that_comes}
use Rattle.osi_blameless.proofs.transport.lines.how_a_connection_opens.{two_right, zero_right}
use Rattle.osi_blameless.proofs.laws.transport.a_connection_opens.Goals as goal

pub returns-clause-two : goal.returns-clause-two
returns-clause-two c = two_right

pub returns-clause-zero : goal.returns-clause-zero
returns-clause-zero c = zero_right

pub returns-clause-called : goal.returns-clause-called
returns-clause-called c = opens_by_the_cc_that_it_puts

pub returns-clause-asked : goal.returns-clause-asked
returns-clause-asked c = asked_so

pub returns-clause-calling : goal.returns-clause-calling
returns-clause-calling c = opens_by_the_cc_that_comes
