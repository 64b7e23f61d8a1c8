use Rattle.std.proofs.Common.{sym, ◌∙◌}
use Rattle.osi_spdu.proofs.basics.the_steps_of_reading.{ok_is}
use Rattle.osi_spdu.proofs.tsdu.units_and_tsdus_are_read.{tsdu_only}
use Rattle.osi_spdu.proofs.laws.octets_spell_one_value.Goals as goal

pub returns : goal.returns
returns c = λ units others octets s t. ok_is units others (sym (tsdu_only units octets s) ∙ tsdu_only others octets t)
