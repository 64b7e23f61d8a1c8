use Rattle.osi_message.proofs.Vocabulary.{Accept, unit_with, unit_of, ◌∙◌, ap, arith}
use Rattle.osi_message.proofs.a_unit_is_made_of_its_meaning.{accept_known}
use Rattle.osi_message.proofs.writing.accept.Goals as goal

pub returns-clause-units : goal.returns-clause-units
unfolding unit_of
returns-clause-units c =
    c.accept.ensures.units ∙
    ap (unit_with Accept) (accept_known c.args.serial c.args.sides c.args.requirements c.args.sizes c.args.user_data)

pub returns-clause-fits : goal.returns-clause-fits
returns-clause-fits c = λ few. c.accept.ensures.fits (omega arith)
