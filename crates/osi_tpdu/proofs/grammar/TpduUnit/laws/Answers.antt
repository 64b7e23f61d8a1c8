use Rattle.osi_tpdu.proofs.one_unit_is_read.{stands_alone, one_reading}
use Rattle.osi_tpdu.proofs.the_written_form_spells_its_value.{written_spells}
use Rattle.osi_tpdu.proofs.grammar.TpduUnit.laws.Goals as goal

pub returns-clause-is_spelled : goal.returns-clause-is_spelled
returns-clause-is_spelled c = written_spells

pub returns-clause-stands_alone : goal.returns-clause-stands_alone
returns-clause-stands_alone c = stands_alone

pub returns-clause-one_reading : goal.returns-clause-one_reading
returns-clause-one_reading c = one_reading
