use Rattle.osi_tpdu.proofs.the_written_form_spells_its_value.{written_spells, spelled_fits, few_fit}
use Rattle.osi_tpdu.specs.Writing.{written}
use Rattle.osi_tpdu.proofs.the_units_of_a_packet.{behind_read}
use Rattle.osi_tpdu.proofs.laws.written_form.Goals as goal

pub returns-clause-spells : goal.returns-clause-spells
returns-clause-spells c v fits = written_spells v fits

pub returns-clause-again : goal.returns-clause-again
returns-clause-again c leads front v are fits = behind_read leads front (written v) v are (written_spells v fits)

pub returns-clause-fits : goal.returns-clause-fits
returns-clause-fits c v octets spelled = spelled_fits v octets spelled

pub returns-clause-room : goal.returns-clause-room
returns-clause-room c t few = few_fit t few
