use Rattle.osi_spdu.specs.Writing.{tsdu_octets}
use Rattle.osi_spdu.proofs.tsdu.units_and_tsdus_are_read.{tsdu_read}
use Rattle.osi_spdu.proofs.form.the_form_spells_its_unit.{units_written, tsdu_written}
use Rattle.osi_spdu.proofs.laws.a_written_form_reads_back.Goals as goal

pub returns-clause-spelled : goal.returns-clause-spelled
returns-clause-spelled c = λ units is fits octets. tsdu_written units is fits octets

pub returns-clause-read : goal.returns-clause-read
returns-clause-read c = λ units is fits. tsdu_read units (tsdu_octets units) is.together (units_written units is.formed fits)
