use Rattle.osi_spdu.proofs.Vocabulary.{Connect, made, connect_params, ◌∙◌, ap, Option, TsduMaximumSize}
use Rattle.osi_spdu.proofs.units.Spdu.connect.Goals as goal

pub returns-clause-units : goal.returns-clause-units
returns-clause-units c = c.new.ensures.value
    ∙ ap (λ (sizes : Option TsduMaximumSize). made Connect
    (record (connect_params c.args.terms c.args.calling_selector c.args.called_selector c.args.user_data)
    { tsdu_maximum_size = sizes }))
    c.written.ensures
