use Rattle.osi_spdu.proofs.Vocabulary.{left_at, arith, rules}
use Rattle.osi_spdu.proofs.tsdu.units_after_the_first.{left_empty}
use Rattle.osi_spdu.proofs.behind.Behind.only.Goals as goal

pub returns-then-is_empty : goal.returns-then-is_empty
returns-then-is_empty c = grind (arith, rules, left_at, left_empty)
