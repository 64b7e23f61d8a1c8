use Rattle.osi_blameless.proofs.transport.names.what_belongs_to_no_open_connection.{dc_spared, dr_strays, refusal_right, strays_last}
use Rattle.osi_blameless.proofs.transport.by_line.a_dc_follows_a_dr.{begins_knows, dr_noted}
use Rattle.osi_blameless.proofs.transport.names.which_answers_may_be_blamed.{dr_closes}
use Rattle.osi_blameless.proofs.laws.transport.what_belongs_to_no_open_connection.Goals as goal

pub returns-clause-refusal : goal.returns-clause-refusal
returns-clause-refusal c = refusal_right

pub returns-clause-dc : goal.returns-clause-dc
returns-clause-dc c = dc_spared

pub returns-clause-lasts : goal.returns-clause-lasts
returns-clause-lasts c = strays_last

pub returns-clause-stray : goal.returns-clause-stray
returns-clause-stray c = dr_strays

pub returns-clause-closes : goal.returns-clause-closes
returns-clause-closes c = dr_closes

pub returns-clause-begins : goal.returns-clause-begins
returns-clause-begins c = begins_knows

pub returns-clause-noted : goal.returns-clause-noted
returns-clause-noted c d s n source reason user = dr_noted n source reason user s d
