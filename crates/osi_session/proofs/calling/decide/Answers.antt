use Rattle.osi_session.proofs.Vocabulary.{called_by, step_of, ◌∙◌, sym}
use Rattle.osi_session.proofs.tables.what_the_table_of_calls_answers.{met_short, limit_passed, limit_refused}
use Rattle.osi_session.proofs.calling.decide.Goals as goal

pub fits_limit-requires : goal.fits_limit-requires
fits_limit-requires c = met_short c.args.state.now (called_by c.args.request.now) (step_of c.in_ok-step.step) c.in_ok-step.ensures
    (sym c.fits.ensures ∙ c.if-not-fits.false)

pub returns-then-not-fits_limit : goal.returns-then-not-fits_limit
returns-then-not-fits_limit c = limit_refused c.args.state.now (called_by c.args.request.now) (step_of c.in_ok-step.step)
    (sym c.is_over.ensures ∙ c.if-is_over.false) (sym c.may_call.ensures ∙ c.if-not-may_call.false) c.in_ok-step.ensures
    (sym c.fits.ensures ∙ c.if-not-fits.false) (sym c.fits_limit.ensures ∙ c.if-not-fits_limit.true)

pub returns : goal.returns
returns c = limit_passed c.args.state.now (called_by c.args.request.now) (step_of c.in_ok-step.step)
    (sym c.is_over.ensures ∙ c.if-is_over.false) (sym c.may_call.ensures ∙ c.if-not-may_call.false) c.in_ok-step.ensures
    (sym c.fits.ensures ∙ c.if-not-fits.false) (sym c.fits_limit.ensures ∙ c.if-not-fits_limit.false)
