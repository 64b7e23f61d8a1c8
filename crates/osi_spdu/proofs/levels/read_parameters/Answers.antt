use Rattle.osi_spdu.proofs.Vocabulary.{in_unit, arith, rules}
use Rattle.osi_spdu.proofs.parameters.parameters_one_after_the_other.{taking_start, taking_end}
use Rattle.osi_spdu.proofs.levels.read_parameters.Goals as goal

pub returns-then-is_empty : goal.returns-then-is_empty
returns-then-is_empty c = grind (arith, rules, taking_end, in_unit, taking_start)
