use Rattle.osi_machine.proofs.machine.every_connection_of_a_run.{no_fault_shown, losses_have_an_end}
use Rattle.osi_machine.proofs.machine.what_two_records_tell.{items_taken, holders, no_faults, agreements, duplex_agreements, confirmations}
use Rattle.osi_machine.proofs.laws.what_two_records_tell.Goals as goal

pub returns-clause-holder : goal.returns-clause-holder
returns-clause-holder c = holders (assumption)

pub returns-clause-fault : goal.returns-clause-fault
returns-clause-fault c = no_faults (assumption)

pub returns-clause-agreement : goal.returns-clause-agreement
returns-clause-agreement c = agreements (assumption)

pub returns-clause-confirmed : goal.returns-clause-confirmed
returns-clause-confirmed c = confirmations (assumption)

pub returns-clause-duplex : goal.returns-clause-duplex
returns-clause-duplex c = duplex_agreements (assumption)

pub returns-clause-lost : goal.returns-clause-lost
returns-clause-lost c = losses_have_an_end (assumption)

pub returns-clause-item : goal.returns-clause-item
returns-clause-item c = items_taken (assumption)

pub returns-clause-faultless : goal.returns-clause-faultless
returns-clause-faultless c = no_fault_shown (assumption)
