use Rattle.osi_message.proofs.Vocabulary.{unit_of, arith}
use Rattle.osi_message.proofs.a_unit_is_made_of_its_meaning.{give_known, set_kept}
use Rattle.osi_message.proofs.writing.give.Goals as goal

pub returns-clause-units : goal.returns-clause-units
unfolding unit_of
returns-clause-units c = grind (arith, give_known, set_kept)
