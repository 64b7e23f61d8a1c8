use Rattle.osi_spdu.proofs.Vocabulary.{left_at, arith}
use Rattle.osi_spdu.proofs.tsdu.units_after_the_first.{first_apart}
use Rattle.osi_spdu.proofs.behind.Behind.first.Goals as goal

pub returns-in-Some : goal.returns-in-Some
returns-in-Some c = grind (arith, first_apart, left_at)

pub returns-in-None : goal.returns-in-None
returns-in-None c = grind (arith, left_at)
