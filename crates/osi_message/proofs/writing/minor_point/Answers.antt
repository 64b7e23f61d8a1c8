use Rattle.osi_message.proofs.Vocabulary.{unit_of, arith}
use Rattle.osi_message.proofs.a_unit_is_made_of_its_meaning.{number_known, open_known}
use Rattle.osi_message.proofs.writing.minor_point.Goals as goal

pub returns-then-confirm-clause-units : goal.returns-then-confirm-clause-units
unfolding unit_of
returns-then-confirm-clause-units c = grind (arith, number_known)

pub returns-clause-units : goal.returns-clause-units
unfolding unit_of
returns-clause-units c = grind (arith, open_known)
