use Rattle.osi_blameless.proofs.transport.Vocabulary.{call_written, unit_written}
use Rattle.osi_blameless.proofs.laws.transport.what_a_carrier_puts.Goals as goal

pub returns-clause-arrives : goal.returns-clause-arrives
returns-clause-arrives c = unit_written

pub returns-clause-calls : goal.returns-clause-calls
returns-clause-calls c = call_written
