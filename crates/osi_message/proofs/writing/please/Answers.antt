use Rattle.osi_message.proofs.Vocabulary.{unit_of, arith}
use Rattle.osi_message.proofs.a_unit_is_made_of_its_meaning.{please_known, set_kept}
use Rattle.osi_message.proofs.writing.please.Goals as goal

pub returns-clause-units : goal.returns-clause-units
unfolding unit_of
returns-clause-units c = grind (arith, please_known, set_kept)

pub returns-clause-fits : goal.returns-clause-fits
returns-clause-fits c = λ few. c.please_tokens.ensures.fits (omega arith)
