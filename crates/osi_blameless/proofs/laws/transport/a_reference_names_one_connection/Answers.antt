use Rattle.osi_blameless.proofs.transport.names.a_reference_names_one_connection.{is_of_one, names_one}
use Rattle.osi_blameless.proofs.laws.transport.a_reference_names_one_connection.Goals as goal

pub returns-clause-used : goal.returns-clause-used
returns-clause-used c = is_of_one

pub returns-clause-named : goal.returns-clause-named
returns-clause-named c = names_one
