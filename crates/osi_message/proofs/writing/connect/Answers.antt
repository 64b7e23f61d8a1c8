use Rattle.osi_message.proofs.Vocabulary.{Connect, unit_with, unit_of, ◌∙◌, ap, arith}
use Rattle.osi_message.proofs.a_unit_is_made_of_its_meaning.{connect_known}
use Rattle.osi_message.proofs.writing.connect.Goals as goal

pub returns-clause-units : goal.returns-clause-units
unfolding unit_of
returns-clause-units c =
    c.connect.ensures.units ∙
    ap (unit_with Connect)
    (connect_known c.args.serial c.args.wishes c.args.requirements c.args.calling c.args.called c.args.sizes c.args.user_data)

pub returns-clause-fits : goal.returns-clause-fits
returns-clause-fits c = λ few. c.connect.ensures.fits (omega arith)
