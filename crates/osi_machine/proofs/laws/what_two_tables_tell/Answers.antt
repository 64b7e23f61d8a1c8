use Rattle.osi_machine.specs.AsTables.{HoldNoneTwice, AreNoFaults, AreAgreed, IsShownAsAsked, IsSeenInBoth}
use Rattle.osi_machine.proofs.machine.what_two_records_tell.{holders, no_faults, agreements, duplex_agreements, confirmations}
use Rattle.osi_machine.proofs.tables.what_two_tables_tell.{of_runs, table_faultless, table_losses, table_offers}
use Rattle.osi_machine.proofs.laws.what_two_tables_tell.Goals as goal

pub returns-clause-holder : goal.returns-clause-holder
returns-clause-holder c = of_runs (assumption) (assumption) HoldNoneTwice (holders (assumption))

pub returns-clause-fault : goal.returns-clause-fault
returns-clause-fault c = of_runs (assumption) (assumption) AreNoFaults (no_faults (assumption))

pub returns-clause-agreement : goal.returns-clause-agreement
returns-clause-agreement c = of_runs (assumption) (assumption) AreAgreed (agreements (assumption))

pub returns-clause-duplex : goal.returns-clause-duplex
returns-clause-duplex c = of_runs (assumption) (assumption) IsShownAsAsked (duplex_agreements (assumption))

pub returns-clause-confirmed : goal.returns-clause-confirmed
returns-clause-confirmed c = of_runs (assumption) (assumption) IsSeenInBoth (confirmations (assumption))

pub returns-clause-lost : goal.returns-clause-lost
returns-clause-lost c = table_losses (assumption) (assumption)

pub returns-clause-offered : goal.returns-clause-offered
returns-clause-offered c = table_offers (assumption) (assumption)

pub returns-clause-faultless : goal.returns-clause-faultless
returns-clause-faultless c = table_faultless (assumption) (assumption)
