use Rattle.osi_class.proofs.Vocabulary.{arith, lt-leb}
use Rattle.osi_class.proofs.giving.all_that_may_go_is_given.{some_of_all}
use Rattle.osi_class.proofs.sizes.are_few.Goals as goal

pub returns-then-parts-left : goal.returns-then-parts-left
returns-then-parts-left c = grind (arith, some_of_all, lt-leb)
