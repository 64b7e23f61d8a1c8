use Rattle.osi_carrier.proofs.Vocabulary.{rules, ◌∙◌, answers_always}
use Rattle.osi_carrier.proofs.references.rows_in_order.{sought}
use Rattle.osi_carrier.proofs.lookup.halve.Goals as goal

pub returns : goal.returns
returns g c =
    let facts = c.binary_search_by_key.ensures in
    let by_key = facts.position g.R.Referred.reference_of (answers_always _ _ _ (λ f a r h called. search rules)) in
    λ h. c.ok.ensures.value ∙ sought g.R.Referred.reference_of c.args.reference c.args.rows.now c.binary_search_by_key.result h facts.bound
    by_key
