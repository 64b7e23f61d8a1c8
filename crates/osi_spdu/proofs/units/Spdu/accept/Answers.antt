use Rattle.osi_spdu.proofs.Vocabulary.{Accept, made, accept_params, ◌∙◌, ap, Option, TsduMaximumSize}
use Rattle.osi_spdu.proofs.units.Spdu.accept.Goals as goal

pub returns-clause-units : goal.returns-clause-units
returns-clause-units c = c.new.ensures.value
    ∙ ap (λ (sizes : Option TsduMaximumSize). made Accept
    (record (accept_params c.args.terms c.args.user_data) { tsdu_maximum_size = sizes }))
    c.written.ensures
