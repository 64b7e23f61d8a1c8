use Rattle.osi_class.proofs.between.the_oldest_unit_can_be_taken.{said}
use Rattle.osi_class.proofs.laws.a_unit_says_what_was_given.Goals as goal

pub returns : goal.returns
returns c = said
