use Rattle.osi_spdu.proofs.Vocabulary.{codes_of, in_unit, slots_of, arith, rules}
use Rattle.osi_spdu.proofs.parameters.a_number_alone_is_read.{number_alone}
use Rattle.osi_spdu.proofs.levels.number_alone.Goals as goal

pub returns : goal.returns
returns c = grind (arith, codes_of, rules, in_unit, slots_of, number_alone)
