use Rattle.osi_message.proofs.Vocabulary.{unit_of, arith}
use Rattle.osi_message.proofs.a_unit_is_made_of_its_meaning.{refuse_known}
use Rattle.osi_message.proofs.writing.refuse.Goals as goal

pub returns-clause-units : goal.returns-clause-units
unfolding unit_of
returns-clause-units c = grind (arith, refuse_known)

pub returns-clause-fits : goal.returns-clause-fits
returns-clause-fits c = λ few. c.refuse.ensures.fits (omega arith)
